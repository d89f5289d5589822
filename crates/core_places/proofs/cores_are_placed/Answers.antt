use Rattle.core_places.proofs.CoresPlaced as placing
use Rattle.core_places.proofs.cores_are_placed.Goals as goal

pub returns : goal.returns
returns c = placing.cores_are_placed
