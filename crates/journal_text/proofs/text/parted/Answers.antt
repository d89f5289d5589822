use Rattle.std.proofs.Common.{None, ◌+◌, refl, sym, ◌∙◌}
use Rattle.journal_text.proofs.JournalLines.{so_far_none, so_far_more}
use Rattle.journal_text.proofs.text.parted.Goals as goal

pub loop-turn-init : goal.loop-turn-init
loop-turn-init c = so_far_none c.args.text.now (record { entries = c.new.result; bad = None; lines = 0 }) c.new.ensures.items refl refl

pub loop-turn-preserved : goal.loop-turn-preserved
loop-turn-preserved c =
    let left = c.behind-left.result.now in
    let long = c.line_long-long.result in
    so_far_more c.args.text.now left c.front.result.now c.loop-turn.reading c.add.new.self c.loop-turn.rest long (c.loop-turn.rest + long) c.loop-turn.invariant c.behind-left.ensures
    (sym c.begins.ensures ∙ c.if-not-begins.false) c.line_long-long.ensures.long c.line_long-long.ensures.within c.front.ensures c.in_ok-add.ensures refl
