use Rattle.law_routines.proofs.Chains.{plans_are_small}
use Rattle.law_routines.proofs.Routines.{routines_are_coded, routines_are_code}
use Rattle.law_routines.proofs.routine_plans.Goals as goal

pub returns-clause-plans_are_small : goal.returns-clause-plans_are_small
returns-clause-plans_are_small c = plans_are_small

pub returns-clause-routines_are_coded : goal.returns-clause-routines_are_coded
returns-clause-routines_are_coded c = routines_are_coded

pub returns-clause-routines_are_code : goal.returns-clause-routines_are_code
returns-clause-routines_are_code c = routines_are_code
