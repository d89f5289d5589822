use Rattle.std.proofs.Common.{◌≡◌, ℕ, ◌<◌, ◌≤◌, slice_get, Some}
use Rattle.block_ir.specs.declared.plan.BlockPlan.{BlockPlan}
use Rattle.block_ir.specs.declared.plan.StagePlan.TheVariants.{Run}
use Rattle.thread_slots.proofs.slots.most_states.Given as goal

abbrev pub invariant-loop-stage : goal.invariant-loop-stage
invariant-loop-stage l = (k : ℕ) (p : BlockPlan) → k < l.stage-index → slice_get l.stages k ≡ Some (Run p) → p.states ≤ l.most
