use Rattle.std.proofs.Common.{arith}
use Rattle.std.proofs.lemmas.Grind.{common_steps}
use Rattle.thread_slots.proofs.shape.Served.services.Goals as goal

pub returns : goal.returns
returns c = grind (arith, common_steps)
