use Rattle.std.proofs.Common.{arith}
use Rattle.std.proofs.lemmas.Grind.{common_steps}
use Rattle.net_names.proofs.connections.Connections.of.Goals as goal

pub loop-connection-preserved : goal.loop-connection-preserved
loop-connection-preserved c = grind (arith, common_steps)
