use Rattle.register_binding.proofs.BoundLives.{registers_agree}
use Rattle.register_binding.proofs.law.registers_agree.Goals as goal

pub returns : goal.returns
returns c = registers_agree
