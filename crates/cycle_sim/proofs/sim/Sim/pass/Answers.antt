use Rattle.std.proofs.Common.{◌≡◌, refl, sym, subst}
use Rattle.verilog_meaning.specs.Cycles.{Choice, Cycle}
use Rattle.sim_values.specs.Flat.{all_written}
use Rattle.sim_layout.specs.Running.{Running, flat, state_of, choice_of, advanced}
use Rattle.cycle_sim.proofs.Cycles.{run_cycle}
use Rattle.cycle_sim.proofs.sim.Sim.pass.Goals as goal

pub returns-clause-cycle : goal.returns-clause-cycle
returns-clause-cycle c =
    let under = c.settle_under.ensures in
    let r = c.args.self.now in
    let choice : Choice = choice_of c.args.choice.now in
    let s = c.settle_under.new.self in
    let bytes = all_written s.modules (flat s) s.parts in
    let new : c.advance.new.self ≡ advanced s = c.advance.ensures in
    let cycle : Cycle r.modules under.stands.top (state_of r) choice (state_of (advanced s)) bytes =
    subst (λ (t : Running). Cycle r.modules under.stands.top (state_of r) choice (state_of (advanced t)) (all_written t.modules (flat t) t.parts)) (sym under.is)
    (run_cycle r under.stands choice under.fits) in (
      bytes,
      record {
        top = under.stands.top;
        is_top = under.stands.is_top;
        bytes = bytes;
        appended = refl;
        cycle = subst (λ (t : Running). Cycle r.modules under.stands.top (state_of r) choice (state_of t) bytes) (sym new) cycle;
      },
    )
