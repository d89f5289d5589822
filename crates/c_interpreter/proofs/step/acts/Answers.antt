use Rattle.std.proofs.Common.{◌∷◌, ◌∙◌, ap}
use Rattle.std.proofs.lemmas.Result.{IfOk-weaker}
use Rattle.c_program.specs.Plain.{program_of}
use Rattle.thread_semantics.specs.State.{Running}
use Rattle.thread_semantics.specs.Step.{with_slot, acted}
use Rattle.c_evaluation.specs.View.{act_of, work_of}
use Rattle.c_state.specs.View.{state_of}
use Rattle.c_step_parts.specs.Plan.{waiting}
use Rattle.c_interpreter.proofs.step.acts.Goals as goal

pub returns-clause-step : goal.returns-clause-step
returns-clause-step c =
    let kept = rw c.deref.ensures.value at c.kept_by.ensures in
    IfOk-weaker c.take_effect.result _ _
    (λ r h. λ f fs running.
    let after = waiting (work_of c.args.work.items) f ∷ fs in
    h f fs running
    ∙ c.in_ok-effect.ensures (f ∷ fs) after c.args.offset running
    ∙ ap (acted (program_of c.args.program.now) (with_slot (state_of c.args.s.now) c.args.i (Running after)) c.args.i c.args.offset (act_of c.args.act)) (kept f fs running))
    c.take_effect.ensures.step
