-- The proof stands in proofs/Depth.
use Rattle.lock_discipline.proofs.Depth.{none_too_deep}
use Rattle.lock_discipline.proofs.none_too_deep.Goals as goal

pub returns : goal.returns
returns c = none_too_deep
