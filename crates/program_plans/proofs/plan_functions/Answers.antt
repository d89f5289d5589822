use Rattle.std.proofs.Common.{List, ◌∙◌, subst}
use Rattle.std.proofs.lemmas.Result.{IfOk-weaker}
use Rattle.c_program.specs.Plain.{program_of}
use Rattle.block_ir.specs.declared.code.ThreadCode.{ThreadCode}
use Rattle.fsm_plan.specs.Plans as parallel
use Rattle.program_plans.specs.Steps.{AreCodes, AreZipped}
use Rattle.program_plans.proofs.CodesInOrder.{codes_count}
use Rattle.program_plans.proofs.PlansInOrder.{plans_count, are_planned}
use Rattle.program_plans.proofs.plan_functions.Goals as goal

pub planned-requires-clause-codes : goal.planned-requires-clause-codes
planned-requires-clause-codes g c = codes_count (program_of c.args.program.now) c.args.functions.now c.in_ok-codes.codes c.in_ok-codes.ensures

pub planned-requires-clause-plans : goal.planned-requires-clause-plans
planned-requires-clause-plans g c =
    plans_count c.in_ok-codes.codes c.in_ok-plans.plans
    (subst (λ (cs : List ThreadCode). parallel.ArePlanned cs c.in_ok-plans.plans) c.as_slice.ensures c.in_ok-plans.ensures)
    ∙ codes_count (program_of c.args.program.now) c.args.functions.now c.in_ok-codes.codes c.in_ok-codes.ensures

pub codes-requires-clause-resolved : goal.codes-requires-clause-resolved
codes-requires-clause-resolved g c = c.requires.resolved

pub codes-requires-clause-limits : goal.codes-requires-clause-limits
codes-requires-clause-limits g c = c.requires.limits

pub codes-requires-clause-threads : goal.codes-requires-clause-threads
codes-requires-clause-threads g c = c.requires.threads

pub codes-requires-clause-weight : goal.codes-requires-clause-weight
codes-requires-clause-weight g c = c.requires.weight

pub returns : goal.returns
returns g c =
    let P = program_of c.args.program.now in
    IfOk-weaker c.planned.result _ _
    (λ p is. are_planned P c.in_ok-codes.codes c.in_ok-plans.plans p
    (subst (λ fs. AreCodes P fs c.in_ok-codes.codes) c.requires.threads c.in_ok-codes.ensures)
    (subst (λ (cs : List ThreadCode). parallel.ArePlanned cs c.in_ok-plans.plans) c.as_slice.ensures c.in_ok-plans.ensures)
    (subst (λ fs. AreZipped P fs c.in_ok-codes.codes c.in_ok-plans.plans p) c.requires.threads is))
    c.planned.ensures
