-- The law stands in proofs/Scheduled.
use Rattle.planned_loop.proofs.TablePlans.{table_keeps_loop}
use Rattle.planned_loop.proofs.laws.table_keeps_loop.Goals as goal

pub returns : goal.returns
returns c = table_keeps_loop
