use Rattle.fsm_plan.proofs.Agree.{plans_agree}
use Rattle.fsm_plan.proofs.law.plans_agree.Goals as goal

pub returns : goal.returns
returns c = plans_agree c.units_agree.ensures c.registers_agree.ensures
