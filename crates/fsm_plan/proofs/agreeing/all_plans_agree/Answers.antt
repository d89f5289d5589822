use Rattle.fsm_plan.proofs.PlansAgree.{all_plans_agree}
use Rattle.fsm_plan.proofs.agreeing.all_plans_agree.Goals as goal

pub returns : goal.returns
returns c = all_plans_agree c.code_plans_agree.ensures
