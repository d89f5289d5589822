use Rattle.op_graph.proofs.OneByOne.{one_by_one}
use Rattle.op_graph.proofs.law.sequential_meets.Goals as goal

pub returns : goal.returns
returns c = one_by_one
