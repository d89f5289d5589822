use Rattle.unit_binding.proofs.AllKinds.{units_agree}
use Rattle.unit_binding.proofs.law.units_agree.Goals as goal

pub returns : goal.returns
returns c = units_agree
