-- Stages keep stores right.
use Rattle.std.specs.Prelude.{◌≡◌, ℕ, ◌≤◌, ◌^◌, List, length, Option, Some}
use Rattle.block_ir.specs.declared.code.ThreadCode.{ThreadCode}
use Rattle.block_ir.specs.declared.plan.BlockPlan.{BlockPlan}
use Rattle.block_ir.specs.declared.plan.StagePlan.{StagePlan}
use Rattle.block_ir.specs.declared.plan.StagePlan.TheVariants as planned
use Rattle.block_ir.specs.declared.plan.Planned.{Planned}
use Rattle.netlist.specs.declared.netlist.Signal.{Signal}
use Rattle.operator_wires.specs.Built.{Base, IsEarlier}
use Rattle.block_datapath.specs.declared.registers.Registers.{Registers}
use Rattle.thread_slots.specs.declared.chains.Chains.{Chains}
use Rattle.thread_slots.specs.declared.stores.Store.{Store}
use Rattle.thread_slots.specs.Wired.{AreLinked, FitStates}
use Rattle.thread_slots.specs.Stores.{AreRightStores}

-- A STAGE, by its plan, keeps stores right
abbrev pub StageKeepsStores : ThreadCode → Registers → ℕ → Option StagePlan → List Signal → List Signal → Chains → List Store → List Store → Type 0
StageKeepsStores code registers l plan old new chains before after =
    (base : Base) → ((p : BlockPlan) → plan ≡ Some (planned.Run p) → p.states ≤ 2 ^ registers.state.width) → AreLinked base old code registers chains
    → l ≤ length code.stages → AreRightStores base old before → AreRightStores base new after

-- so do the first n stages, with a bit that bars meetings
abbrev pub StagesKeepStores : ThreadCode → Registers → Planned → ℕ → ℕ → List Signal → List Signal → Chains → List Store → List Store → Type 0
StagesKeepStores code registers plan barred n old new chains before after =
    (base : Base) → FitStates registers plan → IsEarlier old base barred 1 → AreLinked base old code registers chains
    → n ≤ length code.stages → AreRightStores base old before → AreRightStores base new after
