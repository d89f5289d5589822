use Rattle.c_interpreter.proofs.Ends.{has_end}
use Rattle.c_interpreter.proofs.law.each_walk_ends.Goals as goal

pub returns : goal.returns
returns c = λ P list. has_end P list
