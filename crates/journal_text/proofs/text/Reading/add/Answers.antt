use Rattle.std.proofs.Common.{refl}
use Rattle.journal_text.proofs.JournalLines.{spelled_more}
use Rattle.journal_text.proofs.text.Reading.add.Goals as goal

pub returns-in-Some : goal.returns-in-Some
returns-in-Some c =
    let old = c.args.self.now in
    spelled_more old (record { entries = c.push.new.self; bad = old.bad; lines = c.in_ok-lines.lines }) c.args.line.now c.in-Some.entry
    (c.is_good.ensures.good c.if-not-is_good.false) c.in-Some.ensures
    c.in_ok-push.ensures.items refl c.in_ok-lines.ensures
