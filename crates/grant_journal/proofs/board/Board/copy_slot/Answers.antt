use Rattle.std.specs.Prelude.{◌≡◌, vec_capacity}
use Rattle.grant_journal.proofs.Offers.{slot_at}
use Rattle.grant_journal.proofs.board.Board.copy_slot.Goals as goal

pub returns : goal.returns
returns g c =
    let b = c.self.inside in
    let v : b.journal.items ≡ c.args.self.now = (let h = c.self.view_is in cc) in
    slot_at g.J.Case.modules g.J.Case.threads g.J.Case.most g.J.Case.layout b.sim b.journal.items (vec_capacity b.journal) b.output c.self.invariant.1
    c.args.thread c.hold.new.self c.hold.ensures
    c.args.self.now v
