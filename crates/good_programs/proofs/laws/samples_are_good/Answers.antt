use Rattle.good_programs.proofs.First.{first_is_good}
use Rattle.good_programs.proofs.Threads.{guarded_is_good, phased_is_good, racing_is_not_good}
use Rattle.good_programs.proofs.laws.samples_are_good.Goals as goal

pub returns-clause-first_is_good : goal.returns-clause-first_is_good
returns-clause-first_is_good c = first_is_good

pub returns-clause-guarded_is_good : goal.returns-clause-guarded_is_good
returns-clause-guarded_is_good c = guarded_is_good

pub returns-clause-phased_is_good : goal.returns-clause-phased_is_good
returns-clause-phased_is_good c = phased_is_good

pub returns-clause-racing_is_not_good : goal.returns-clause-racing_is_not_good
returns-clause-racing_is_not_good c = racing_is_not_good
