use Rattle.c_program.specs.Plain.{program_of}
use Rattle.turns.specs.Turns.{threads_of}
use Rattle.c_state.specs.View.{state_of}
use Rattle.run_check.specs.Known.{shadow_of}
use Rattle.run_check.specs.Run.{IsStopped}
use Rattle.run_check.specs.Verdict.{IsVerdict}
use Rattle.run_check.proofs.Runs.{all_shown, all_ordered}
use Rattle.run_check.proofs.Advancing.{stopped_of, ok_given}
use Rattle.run_check.proofs.run.check_run.Goals as goal

pub loop-preserved : goal.loop-preserved
loop-preserved c =
    let y = rw c.in-Stepped.is at c.in_ok-other.ensures in
    record { is = (y c.loop.invariant.is).0; running = c.if-run.false }

pub returns-then-run : goal.returns-then-run
returns-then-run c =
    let y = rw c.in-Stepped.is at c.in_ok-other.ensures in
    let z = y c.loop.invariant.is in
    let run = c.advance_next.new.run in (
      threads_of run.turns.items,
      z.0.count,
      all_shown (program_of c.args.program.now) (threads_of run.turns.items) (state_of run.state) (shadow_of run.known) z.0.shown c.if-run.true,
      all_ordered (program_of c.args.program.now) (threads_of run.turns.items) (state_of run.state) (shadow_of run.known) z.0.shown c.if-run.true,
      z.0.shown.outputs_lost,
    )

pub returns-in_default : goal.returns-in_default
returns-in_default c =
    let P = program_of c.args.program.now in
    let run = c.advance_next.new.run in
    ok_given c.stopped.result (IsStopped P run c.in_ok-other.other) (IsVerdict P) c.stopped.ensures
    (stopped_of P c.loop.run run c.in_ok-other.other c.in_default.not-Stepped c.loop.invariant.is c.loop.invariant.running c.in_ok-other.ensures)
