use Rattle.block_datapath.proofs.OperationWords.{others_at_once}
use Rattle.block_datapath.proofs.timing.further_states.Goals as goal

pub returns-in_default-clause-value : goal.returns-in_default-clause-value
returns-in_default-clause-value c = others_at_once c.args.operation.now c.in_default.not-Binary c.in_default.not-ReadGlobal
