use Rattle.std.proofs.Common.{slice_index, nat_eq, sym, ap, ◌∙◌, subst}
use Rattle.sim_layout.specs.Running.{Running, choice_of, IsSameState}
use Rattle.cycle_sim.proofs.DoneCone.{cone_told, cone_same}
use Rattle.cycle_sim.proofs.sim.Sim.shows_done.Goals as goal

pub returns-clause-done : goal.returns-clause-done
returns-clause-done c =
    let done = c.settle_done.ensures in
    cone_told c.args.self.now done.stands (choice_of c.args.choice.now) done.cone done.hangs done.fits c.is_done.result
    (c.is_done.ensures ∙ ap (λ (t : Running). nat_eq (slice_index t.numbers t.done) 1) done.is)

pub returns-clause-state : goal.returns-clause-state
returns-clause-state c =
    let done = c.settle_done.ensures in
    let r = c.args.self.now in
    subst (IsSameState r) (sym done.is) (cone_same r done.stands (choice_of c.args.choice.now) done.cone done.hangs)
