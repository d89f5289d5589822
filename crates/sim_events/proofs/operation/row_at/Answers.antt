use Rattle.std.proofs.lemmas.Option.{slice_get-get_or}
use Rattle.sim_events.proofs.operation.row_at.Goals as goal

pub returns : goal.returns
returns c = slice_get-get_or c.args.rows.now c.args.number _ c.requires
