use Rattle.std.proofs.Common.{◌∙◌}
use Rattle.std.proofs.lemmas.Result.{IfOk-weaker}
use Rattle.c_program.specs.Plain.{program_of}
use Rattle.c_state.specs.View.{state_of}
use Rattle.c_step_parts.specs.Planned.{IsPlan}
use Rattle.c_interpreter.proofs.Steps.{step_planned}
use Rattle.c_interpreter.proofs.step.step.Goals as goal

pub returns-in-Ok-clause-step : goal.returns-in-Ok-clause-step
returns-in-Ok-clause-step c =
    let P = program_of c.args.program.now in
    let s = state_of c.args.s.now in
    let p : IsPlan P s c.args.i c.in-Ok.plan = rw c.in-Ok.is at c.in_ok-cause.ensures in
    IfOk-weaker c.carry_out_plan.result _ _
    (λ r h. h p.call p.callers p.running ∙ step_planned P s c.args.i c.in-Ok.plan p)
    c.carry_out_plan.ensures.step
