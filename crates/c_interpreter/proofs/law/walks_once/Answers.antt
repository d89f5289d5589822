use Rattle.c_interpreter.proofs.Ends.{one_end}
use Rattle.c_interpreter.proofs.law.walks_once.Goals as goal

pub returns : goal.returns
returns c = λ P list. one_end P list
