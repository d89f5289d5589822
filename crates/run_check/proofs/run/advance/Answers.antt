use Rattle.std.proofs.Common.{ap, refl, sym, ◌∙◌}
use Rattle.c_program.specs.Plain.{program_of}
use Rattle.race_check.specs.Access.{touches_of}
use Rattle.c_state.specs.View.{state_of}
use Rattle.run_check.proofs.Advancing.{run_on, unordered_held}
use Rattle.run_check.proofs.run.advance.Goals as goal

pub returns-in-Kept : goal.returns-in-Kept
returns-in-Kept c run =
    let taken = rw c.in-Stepped.is at c.in_ok-step.ensures.step in
    let noted = rw c.in-Kept.is at c.in_ok-note_step-in-Stepped.ensures in
    run_on (program_of c.args.program.now) c.args.run.now (record c.args.run.now { state = c.step.new.s }) c.note_step.new.run c.args.thread c.in_ok-class.class
    (touches_of c.as_slice.result.now) c.deref.result.now run taken refl refl refl (c.in_ok-class.ensures (state_of c.step.new.s) (sym taken))
    (ap touches_of c.as_slice.ensures ∙ c.in_ok-accesses.ensures) (c.deref.ensures.value ∙ c.in_ok-released.ensures) noted

pub returns : goal.returns
returns c =
    let taken = rw c.in-Stepped.is at c.in_ok-step.ensures.step in
    let noted = rw c.in-Unordered.is at c.in_ok-note_step-in-Stepped.ensures in
    unordered_held (program_of c.args.program.now) c.args.run.now (record c.args.run.now { state = c.step.new.s }) c.note_step.new.run c.args.thread
    c.in_ok-class.class (touches_of c.as_slice.result.now) taken refl refl (c.in_ok-class.ensures (state_of c.step.new.s) (sym taken))
    (ap touches_of c.as_slice.ensures ∙ c.in_ok-accesses.ensures) noted
