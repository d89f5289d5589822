use Rattle.std.proofs.Common.{◌≡◌, add-one, replicate, subst, sym}
use Rattle.c_program.specs.Plain.{program_of}
use Rattle.thread_semantics.specs.Step.{Steps, and_steps}
use Rattle.c_state.specs.View.{state_of}
use Rattle.run_check.proofs.Runs.{and_step, replicate_more}
use Rattle.run_check.proofs.race.take_turn.Goals as goal

pub loop-index-preserved : goal.loop-index-preserved
loop-index-preserved c =
    let P = program_of c.args.program.now in
    let s = state_of c.args.state.now in
    let t = state_of c.step.new.s in
    let i = c.args.turn.thread in
    let k = c.loop-index.index in
    let taken = rw c.in-Stepped.is at c.in_ok-step.ensures.step in
    record {
      taken =
          rw add-one
          (subst (λ l. and_steps P (Steps s) l ≡ Steps t) (replicate_more k i)
          (and_step P (Steps s) (replicate k i) (state_of c.loop-index.state) t i c.loop-index.invariant.taken (sym taken)));
      running = λ e. c.if-state.false;
    }
