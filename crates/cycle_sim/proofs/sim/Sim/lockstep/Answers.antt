use Rattle.std.proofs.Common.{true, false, List, slice_get, ap, sym, ◌∙◌, arith}
use Rattle.std.specs.Prelude.{◌%◌}
use Rattle.sim_values.specs.declared.settle.Choice.{Choice}
use Rattle.sim_layout.specs.Running.{choice_of}
use Rattle.cycle_sim.specs.Lockstep.{IsCutOff}
use Rattle.sim_layout.proofs.Calls.{on_err}
use Rattle.cycle_sim.proofs.LockstepTurns.{fits_all, told, turned_on, ended_done, cut_off}
use Rattle.cycle_sim.proofs.sim.Sim.lockstep.Goals as goal

pub shows_done-requires : goal.shows_done-requires
shows_done-requires c =
    fits_all c.args.self.now c.loop-number.self c.all_enabled-all.ensures.takes c.loop-number.invariant.net (choice_of c.all_enabled-all.result) c.all_enabled-all.ensures.choice

pub returns-then-shows_done-clause-ok : goal.returns-then-shows_done-clause-ok
returns-then-shows_done-clause-ok c =
    let is = told c.args.self.now c.loop-number.self c.shows_done.new.self c.loop-number.number c.args.out.now c.loop-number.out (choice_of c.all_enabled-all.result) c.shows_done.result true
    c.all_enabled-all.ensures.choice c.if-shows_done.true c.loop-number.invariant c.shows_done.ensures.net c.shows_done.ensures.done c.shows_done.ensures.state in
    let l = c.loop-number-test.true in
    ended_done c.args.self.now c.shows_done.new.self c.args.cycles c.loop-number.number c.args.out.now c.loop-number.out is (omega (arith, l))

pub returns-in_err-cycle-clause-cut : goal.returns-in_err-cycle-clause-cut
returns-in_err-cycle-clause-cut c =
    let is = told c.args.self.now c.loop-number.self c.shows_done.new.self c.loop-number.number c.args.out.now c.loop-number.out (choice_of c.all_enabled-all.result) c.shows_done.result false
    c.all_enabled-all.ensures.choice c.if-shows_done.false c.loop-number.invariant c.shows_done.ensures.net c.shows_done.ensures.done c.shows_done.ensures.state in
    let l = c.loop-number-test.true in
    on_err c.from_residual-in_err-cycle.result (IsCutOff c.args.self.now c.cycle.new.self c.args.cycles c.args.out.now c.cycle.new.out)
    (cut_off c.args.self.now c.shows_done.new.self c.cycle.new.self c.args.cycles c.loop-number.number c.args.out.now c.loop-number.out c.cycle.new.out is
    c.in_err-cycle.ensures.net c.in_err-cycle.ensures.state c.in_err-cycle.ensures.bytes (omega (arith, l)))

pub loop-number-preserved : goal.loop-number-preserved
loop-number-preserved c =
    let preferred = c.loop-number.number % 16 in
    let picked = c.in_ok-choices.ensures.each preferred c.choice_at-choice.result.now (ap (λ (cs : List Choice). slice_get cs preferred) (sym c.as_slice.ensures.value) ∙ c.choice_at-choice.ensures) in
    let is = told c.args.self.now c.loop-number.self c.shows_done.new.self c.loop-number.number c.args.out.now c.loop-number.out (choice_of c.all_enabled-all.result) c.shows_done.result false
    c.all_enabled-all.ensures.choice c.if-shows_done.false c.loop-number.invariant c.shows_done.ensures.net c.shows_done.ensures.done c.shows_done.ensures.state in
    turned_on c.args.self.now c.shows_done.new.self c.cycle.new.self c.loop-number.number c.args.out.now c.loop-number.out c.cycle.new.out
    (choice_of c.choice_at-choice.result.now) picked is c.in_ok-cycle.ensures.net c.in_ok-cycle.ensures.ok
