use Rattle.std.proofs.Common.{◌≤◌, length, arith}
use Rattle.c_program.specs.Plain.{program_of}
use Rattle.c_state.specs.View.{state_of}
use Rattle.run_check.proofs.Advancing.{all_blocked, held_up}
use Rattle.run_check.proofs.run.advance_first.Goals as goal

pub loop-thread-preserved : goal.loop-thread-preserved
loop-thread-preserved c =
    let y = rw c.in-Blocked.is at c.in_ok-other.ensures in
    let z = held_up (program_of c.args.program.now) c.args.run.now c.loop-thread.run c.advance.new.run c.loop-thread.thread c.loop-thread.invariant.same
    c.loop-thread.invariant.blocked y in
    record { same = z.0; blocked = z.1 }

pub returns : goal.returns
returns c =
    let all : length (state_of c.args.run.now.state).slots ≤ c.loop-thread.thread = omega (arith, c.in-Some.ensures) in (
      c.loop-thread.invariant.same,
      all_blocked (program_of c.args.program.now) (state_of c.args.run.now.state) c.loop-thread.thread all c.loop-thread.invariant.blocked,
    )
