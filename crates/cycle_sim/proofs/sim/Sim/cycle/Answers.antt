use Rattle.std.proofs.Common.{◌≡◌, ◌++◌, sym, subst}
use Rattle.verilog_meaning.specs.Cycles.{Choice, Cycle}
use Rattle.sim_values.specs.Flat.{all_written}
use Rattle.sim_layout.specs.Running.{Running, flat, state_of, choice_of, settled_run, advanced, Prints, IsSameState}
use Rattle.sim_layout.specs.Print.{IsSomething}
use Rattle.cycle_sim.proofs.Cycles.{run_cycle, settled_same}
use Rattle.sim_layout.proofs.Calls.{on_err, if_ok}
use Rattle.cycle_sim.proofs.sim.Sim.cycle.Goals as goal

pub returns-in_err-write-clause-state : goal.returns-in_err-write-clause-state
returns-in_err-write-clause-state c =
    let under = c.settle_under.ensures in
    let r = c.args.self.now in
    on_err c.from_residual.result (IsSameState r c.settle_under.new.self)
    (subst (IsSameState r) (sym under.is) (settled_same r under.stands (choice_of c.args.choice.now) under.fits))

pub returns-in_err-write-clause-prints : goal.returns-in_err-write-clause-prints
returns-in_err-write-clause-prints c =
    let under = c.settle_under.ensures in
    let r = c.args.self.now in
    let choice : Choice = choice_of c.args.choice.now in
    let some : IsSomething (all_written r.modules (flat (settled_run choice r)) r.parts) =
    subst (λ (t : Running). IsSomething (all_written t.modules (flat t) t.parts)) under.is c.in_err-write.ensures.prints in
    on_err c.from_residual.result (Prints choice r) (record {
      top = under.stands.top;
      is_top = under.stands.is_top;
      next = state_of (advanced (settled_run choice r));
      bytes = all_written r.modules (flat (settled_run choice r)) r.parts;
      cycle = run_cycle r under.stands choice under.fits;
      something = some;
    })

pub returns-clause-ok : goal.returns-clause-ok
returns-clause-ok c =
    let under = c.settle_under.ensures in
    let r = c.args.self.now in
    let choice : Choice = choice_of c.args.choice.now in
    let s = c.settle_under.new.self in
    let bytes = all_written s.modules (flat s) s.parts in
    let new : c.advance.new.self ≡ advanced s = c.advance.ensures in
    let appended : c.write.new.out ≡ c.args.out.now ++ bytes = if_ok c.write.result _ (c.args.out.now ++ bytes) c.args.out.now c.write.new.out c.in_ok-write.was c.write.ensures.bytes in
    let cycle : Cycle r.modules under.stands.top (state_of r) choice (state_of (advanced s)) bytes =
    subst (λ (t : Running). Cycle r.modules under.stands.top (state_of r) choice (state_of (advanced t)) (all_written t.modules (flat t) t.parts)) (sym under.is)
    (run_cycle r under.stands choice under.fits) in
    record {
      top = under.stands.top;
      is_top = under.stands.is_top;
      bytes = bytes;
      appended = appended;
      cycle = subst (λ (t : Running). Cycle r.modules under.stands.top (state_of r) choice (state_of t) bytes) (sym new) cycle;
    }
