use Rattle.net_check.proofs.Found as found
use Rattle.net_check.proofs.law.well_formed_where_none_breaks.Goals as goal

pub returns : goal.returns
returns c = found.well_formed_where_none_breaks
