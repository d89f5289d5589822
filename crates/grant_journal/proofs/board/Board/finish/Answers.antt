use Rattle.std.specs.Prelude.{◌≡◌, vec_capacity}
use Rattle.grant_journal.proofs.Offers.{finished, finished_as}
use Rattle.grant_journal.proofs.board.Board.finish.Goals as goal

pub returns-clause-finished : goal.returns-clause-finished
returns-clause-finished g c =
    let b = c.self.inside in
    let v : b.journal.items ≡ c.args.self = (let h = c.self.view_is in cc) in
    finished_as g.J.Case.modules g.J.Case.threads g.J.Case.most b.journal.items c.args.self b.output v
    (finished g.J.Case.modules g.J.Case.threads g.J.Case.most g.J.Case.layout b.sim b.journal.items (vec_capacity b.journal) b.output c.self.invariant.1 c.threads.ensures.stands)
