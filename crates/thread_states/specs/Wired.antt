-- What tells when a state is left stands in order.
use Rattle.std.specs.Prelude.{◌≡◌, ℕ, ◌≤◌, ◌^◌, List, length, Option, Some}
use Rattle.block_ir.specs.declared.code.ThreadCode.{ThreadCode}
use Rattle.block_ir.specs.declared.plan.BlockPlan.{BlockPlan}
use Rattle.block_ir.specs.declared.plan.StagePlan.{StagePlan}
use Rattle.block_ir.specs.declared.plan.StagePlan.TheVariants as planned
use Rattle.netlist.specs.declared.netlist.Signal.{Signal}
use Rattle.operator_wires.specs.Gives.{Grows}
use Rattle.operator_wires.specs.Built.{Base, IsEarlier, AreWires}
use Rattle.block_datapath.specs.declared.registers.Registers.{Registers}
use Rattle.thread_slots.specs.declared.chains.Chains.{Chains}
use Rattle.thread_slots.specs.declared.inputs.Inputs.{Inputs}
use Rattle.thread_states.specs.declared.control.Edge.{Edge}
use Rattle.thread_slots.specs.Bits.{LaysWith, AreBitsOf}
use Rattle.thread_slots.specs.Wired.{KeepsLinks, AreLinked}

-- ---- control

-- what tells when a state is left, and what follows it, stands
pub record IsSteered (base : Base) (signals : List Signal) (registers : Registers) (inputs : Inputs) (c : Chains) (asked marked : List ℕ) : Type 0 where
  pub state : IsEarlier signals base registers.state.register registers.state.width
  pub beat : IsEarlier signals base registers.beat 1
  pub enable : IsEarlier signals base inputs.enable 1
  pub grants : AreBitsOf base signals inputs.grants
  pub count : length inputs.grants ≡ length asked
  pub is_last : IsEarlier signals base c.is_last 1
  pub waits : IsEarlier signals base c.waits 1
  pub opens : AreBitsOf base signals asked
  pub granted : AreBitsOf base signals marked

-- the first of its wires ask the cores, and read no grant
pub record WiresControl (base : Base) (old new : List Signal) (registers : Registers) (inputs : Inputs) (opens granted : List ℕ) (edge : Edge) : Type 0 where
  pub with_asks : List Signal
  pub first : LaysWith old with_asks opens inputs.enable (length opens) edge.asks
  pub wires : AreWires base old new
  pub later : Grows with_asks new
  pub asks : AreBitsOf base new edge.asks
  pub leave : IsEarlier new base edge.leave 1
  pub state : IsEarlier new base edge.state registers.state.width
  pub beat : IsEarlier new base edge.beat 1
  pub moved : IsEarlier new base edge.moved 1
  pub marks : AreBitsOf base new edge.granted

-- a stage of this plan adds to chains so
module _ (code : ThreadCode) (registers : Registers) (plan : Option StagePlan) (old new : List Signal) (before after : Chains) where
  abbrev pub StepIsWired : Type 0
  StepIsWired =
      (base : Base) → ((p : BlockPlan) → plan ≡ Some (planned.Run p) → p.states ≤ 2 ^ registers.state.width)
      → AreLinked base old code registers before → KeepsLinks base old new code registers after
