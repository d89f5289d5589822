use Rattle.std.proofs.lemmas.Option.{slice_get-get_or}
use Rattle.sim_events.proofs.fanout.step_at.Goals as goal

pub returns : goal.returns
returns c = slice_get-get_or c.args.steps.now c.args.number _ c.requires
