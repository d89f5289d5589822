-- The laws stand in proofs/Running and proofs/Ordering.
use Rattle.plan_blocks.proofs.OrderedView.{view_ordered}
use Rattle.plan_blocks.proofs.ViewRuns.{runs_alike, size-view}
use Rattle.plan_blocks.proofs.laws.planned_views.Goals as goal

pub returns-clause-view_runs : goal.returns-clause-view_runs
returns-clause-view_runs c = runs_alike

pub returns-clause-view_size : goal.returns-clause-view_size
returns-clause-view_size c = λ b. size-view b.operations

pub returns-clause-view_is_ordered : goal.returns-clause-view_is_ordered
returns-clause-view_is_ordered c = λ b order. view_ordered b order
