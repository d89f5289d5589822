use Rattle.fsm_plan.proofs.CodeAgree.{code_plans_agree}
use Rattle.fsm_plan.proofs.law.code_plans_agree.Goals as goal

pub returns : goal.returns
returns c = code_plans_agree c.plans_agree.ensures
