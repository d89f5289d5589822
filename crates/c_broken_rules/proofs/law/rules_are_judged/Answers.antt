use Rattle.c_broken_rules.proofs.Unknown.{names_sound, names_complete}
use Rattle.c_broken_rules.proofs.TwiceText.{twice_sound, twice_complete}
use Rattle.c_broken_rules.proofs.Recursion.{recursion_sound, recursion_complete}
use Rattle.c_broken_rules.proofs.Constants.{constants_sound, constants_complete}
use Rattle.c_broken_rules.proofs.Prints.{formats_sound, formats_complete}
use Rattle.c_broken_rules.proofs.ThreadUses.{uses_sound, uses_complete}
use Rattle.c_broken_rules.proofs.ThreadRule.{threads_sound, threads_complete}
use Rattle.c_broken_rules.proofs.law.rules_are_judged.Goals as goal

pub returns-clause-names_sound : goal.returns-clause-names_sound
returns-clause-names_sound c = names_sound

pub returns-clause-names_complete : goal.returns-clause-names_complete
returns-clause-names_complete c = names_complete

pub returns-clause-declarations_sound : goal.returns-clause-declarations_sound
returns-clause-declarations_sound c = twice_sound

pub returns-clause-declarations_complete : goal.returns-clause-declarations_complete
returns-clause-declarations_complete c = twice_complete

pub returns-clause-calls_sound : goal.returns-clause-calls_sound
returns-clause-calls_sound c = recursion_sound

pub returns-clause-calls_complete : goal.returns-clause-calls_complete
returns-clause-calls_complete c = recursion_complete

pub returns-clause-constants_sound : goal.returns-clause-constants_sound
returns-clause-constants_sound c = constants_sound

pub returns-clause-constants_complete : goal.returns-clause-constants_complete
returns-clause-constants_complete c = constants_complete

pub returns-clause-formats_sound : goal.returns-clause-formats_sound
returns-clause-formats_sound c = formats_sound

pub returns-clause-formats_complete : goal.returns-clause-formats_complete
returns-clause-formats_complete c = formats_complete

pub returns-clause-uses_sound : goal.returns-clause-uses_sound
returns-clause-uses_sound c = uses_sound

pub returns-clause-uses_complete : goal.returns-clause-uses_complete
returns-clause-uses_complete c = uses_complete

pub returns-clause-threads_sound : goal.returns-clause-threads_sound
returns-clause-threads_sound c = threads_sound

pub returns-clause-threads_complete : goal.returns-clause-threads_complete
returns-clause-threads_complete c = threads_complete
