use Rattle.std.proofs.Common.{◌≡◌, ◌∷◌, ◌∙◌, [], ap, Some}
use Rattle.c_program.specs.Plain.{program_of}
use Rattle.thread_semantics.specs.State.{Running}
use Rattle.c_state.specs.View.{state_of}
use Rattle.c_interpreter.proofs.Steps.{no_caller, return_resumes}
use Rattle.c_interpreter.proofs.step.returns.Goals as goal

pub returns-in-None-clause-step : goal.returns-in-None-clause-step
returns-in-None-clause-step c f fs running =
    let resumes = rw (c.deref.ensures.value, c.in-None.is) at c.in_ok-resumption.ensures in
    let alone : fs ≡ [] = no_caller (program_of c.args.program.now) c.args.value f fs (resumes f fs running) in
    rw alone c.end_thread.ensures.step

pub returns-in-Some-clause-step : goal.returns-in-Some-clause-step
returns-in-Some-clause-step c f fs running =
    let resumes = rw (c.deref.ensures.value, c.in-Some.is) at c.in_ok-resumption.ensures in
    return_resumes (program_of c.args.program.now) (state_of c.args.s.now) (state_of c.leaves.new.s) c.args.i c.args.offset
    c.args.value f fs c.in-Some.rest (resumes f fs running)
    (λ g gs e. c.leaves.ensures f g gs (running ∙ ap (λ x. Some (Running (f ∷ x))) e))
