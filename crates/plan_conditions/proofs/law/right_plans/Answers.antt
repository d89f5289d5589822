use Rattle.plan_conditions.proofs.Stages.{right_plans_are_there}
use Rattle.plan_conditions.proofs.RegisterOperands.{works_from_registers}
use Rattle.plan_conditions.proofs.law.right_plans.Goals as goal

pub returns-clause-works_from_registers : goal.returns-clause-works_from_registers
returns-clause-works_from_registers c = works_from_registers

pub returns-clause-right_plans_are_there : goal.returns-clause-right_plans_are_there
returns-clause-right_plans_are_there c = right_plans_are_there
