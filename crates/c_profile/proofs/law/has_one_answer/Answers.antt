use Rattle.c_profile.proofs.Each.{has_answer}
use Rattle.c_profile.proofs.Stages.{accepted_once, refused_once, never_both}
use Rattle.c_profile.proofs.law.has_one_answer.Goals as goal

pub returns-clause-has_answer : goal.returns-clause-has_answer
returns-clause-has_answer c = has_answer

pub returns-clause-never_both : goal.returns-clause-never_both
returns-clause-never_both c = never_both

pub returns-clause-accepted_once : goal.returns-clause-accepted_once
returns-clause-accepted_once c = accepted_once

pub returns-clause-refused_once : goal.returns-clause-refused_once
returns-clause-refused_once c = refused_once
