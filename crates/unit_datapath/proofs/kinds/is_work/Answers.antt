use Rattle.std.proofs.Common.{sym}
use Rattle.unit_datapath.proofs.UnitKinds.{no_work}
use Rattle.unit_datapath.proofs.kinds.is_work.Goals as goal

pub returns-in_default : goal.returns-in_default
returns-in_default c = sym (no_work c.args.kind.now c.args.operation.now c.in_default.not-Binary)
