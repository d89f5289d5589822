use Rattle.std.proofs.Common.{ℕ, ap, subst, ◌∙◌}
use Rattle.c_program.specs.Plain.{program_of}
use Rattle.c_state.specs.View.{state_of}
use Rattle.c_step_parts.specs.Planned.{IsPlan}
use Rattle.run_check.specs.Class.{plan_class}
use Rattle.run_check.proofs.Planned.{planned_class}
use Rattle.run_check.proofs.class.next_class.Goals as goal

pub returns-in-Ok : goal.returns-in-Ok
returns-in-Ok c t e =
    let P = program_of c.args.program.now in
    let s = state_of c.args.state.now in
    let planned = rw c.in-Ok.is at c.in_ok-next_plan.ensures in
    let x = subst (λ (i : ℕ). IsPlan P s i c.in-Ok.plan) c.from.ensures planned in
    c.class_of_plan.ensures ∙ ap (plan_class c.in-Ok.plan) (c.next_object.ensures x.call x.callers x.running)
    ∙ planned_class P s c.args.thread c.in-Ok.plan x
