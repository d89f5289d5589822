-- The laws stand in the files of proofs.
use Rattle.race_model.proofs.Agreement.{same_meaning}
use Rattle.race_model.proofs.Alone.{alone_makes}
use Rattle.race_model.proofs.FirstConflict.{conflict_leads_to_race}
use Rattle.race_model.proofs.Ids.{ids_are_single}
use Rattle.race_model.proofs.Orderly.{orderly}
use Rattle.race_model.proofs.Possible.{never_impossible}
use Rattle.race_model.proofs.Shared.{moves_keep_shared}
use Rattle.race_model.proofs.Threaded.{threaded}
use Rattle.race_model.proofs.laws.races.Goals as goal

pub returns-clause-is_threaded : goal.returns-clause-is_threaded
returns-clause-is_threaded c = λ P R. threaded P R

pub returns-clause-is_same_meaning : goal.returns-clause-is_same_meaning
returns-clause-is_same_meaning c = λ P R. same_meaning P R

pub returns-clause-first_conflict : goal.returns-clause-first_conflict
returns-clause-first_conflict c = λ P R. conflict_leads_to_race P R

pub returns-clause-ids_are_single : goal.returns-clause-ids_are_single
returns-clause-ids_are_single c = λ P. ids_are_single P

pub returns-clause-never_impossible : goal.returns-clause-never_impossible
returns-clause-never_impossible c = λ P R. never_impossible P R

pub returns-clause-is_orderly : goal.returns-clause-is_orderly
returns-clause-is_orderly c = λ P R s at. orderly P R s at

pub returns-clause-moves_keep_shared : goal.returns-clause-moves_keep_shared
returns-clause-moves_keep_shared c = λ P R. moves_keep_shared P R

pub returns-clause-alone_makes : goal.returns-clause-alone_makes
returns-clause-alone_makes c = λ P R. alone_makes P R
