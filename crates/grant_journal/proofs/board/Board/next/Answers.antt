use Rattle.std.specs.Prelude.{◌≡◌, length, vec_capacity}
use Rattle.std.proofs.Common.{ap}
use Rattle.journal_laws.specs.Journal.{ended}
use Rattle.journal_laws.proofs.EntrySlots.{same_top}
use Rattle.grant_journal.proofs.Framed.{threaded_in, within}
use Rattle.grant_journal.proofs.BoardKept.{keeps_on}
use Rattle.grant_journal.proofs.Offers.{judged_as, offered_as, offered_next}
use Rattle.grant_journal.proofs.board.Board.next.Goals as goal

pub judge-requires-clause-prefer : goal.judge-requires-clause-prefer
judge-requires-clause-prefer g c =
    let k = c.self.invariant.1 in within g.J.Case.modules g.J.Case.threads g.J.Case.layout k.frame c.self.inside.sim k.net c.args.prefer c.requires

pub judge-requires-clause-threaded : goal.judge-requires-clause-threaded
judge-requires-clause-threaded g c =
    let k = c.self.invariant.1 in threaded_in g.J.Case.modules g.J.Case.threads g.J.Case.layout k.frame c.self.inside.sim k.net

pub invariant_of-self : goal.invariant_of-self
invariant_of-self g c =
    let b = c.self.inside in
    let j = c.judge.ensures in (
      c.self.invariant.0,
      keeps_on g.J.Case.modules g.J.Case.threads g.J.Case.most g.J.Case.layout b.sim b.journal.items (vec_capacity b.journal) b.output c.self.invariant.1
          c.judge.new.sim j.net (same_top b.sim c.judge.new.sim j.state),
    )

pub returns-clause-next : goal.returns-clause-next
returns-clause-next g c =
    let b = c.self.inside in
    let n = c.judge.result in
    let v : b.journal.items ≡ c.args.self.now = (let h = c.self.view_is in cc) in
    offered_as g.J.Case.modules g.J.Case.threads g.J.Case.most b.journal.items c.args.self.now c.args.prefer n v
    (offered_next g.J.Case.modules g.J.Case.threads g.J.Case.most g.J.Case.layout b.sim b.journal.items (vec_capacity b.journal) b.output c.self.invariant.1 n
    (judged_as b.sim (length c.as_slice.result.now) b.most (ended n) (length b.journal.items) g.J.Case.most (ap length c.as_slice.ensures.value) c.self.invariant.0 c.judge.ensures.verdict)
    c.args.prefer c.judge.ensures.first)
