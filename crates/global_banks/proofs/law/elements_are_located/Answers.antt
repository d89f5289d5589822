use Rattle.global_banks.proofs.Elements.{elements_located}
use Rattle.global_banks.proofs.law.elements_are_located.Goals as goal

pub returns : goal.returns
returns c = elements_located
