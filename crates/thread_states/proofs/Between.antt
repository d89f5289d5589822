-- What stands for a whole thread, as a block needs it, and the other way round.
use Rattle.std.proofs.Common.{◌≡◌, ℕ, ◌<◌, ◌≤◌, ◌^◌, List, length, arith}
use Rattle.block_ir.specs.declared.code.ThreadCode.{ThreadCode}
use Rattle.block_ir.specs.declared.plan.BlockPlan.{BlockPlan}
use Rattle.netlist.specs.declared.netlist.Signal.{Signal}
use Rattle.operator_wires.specs.Built.{Base}
use Rattle.block_datapath.specs.declared.registers.Held.{Held}
use Rattle.block_datapath.specs.declared.registers.Registers.{Registers}
use Rattle.block_datapath.specs.declared.leaving_block.Left.{Left}
use Rattle.block_datapath.specs.Wired.{AreChains, AddsKeptBlock, FitsStage, CanRead}
use Rattle.thread_slots.specs.Wired.{LinkAll, AreSlots}
use Rattle.thread_states.proofs.Taken.{LinksBlock}

module _ (base : Base) (a : List Signal) (code : ThreadCode) (registers : Registers) (slots : AreSlots base a code registers) where
  pub stage_fits : (l : ℕ) (p : BlockPlan) → CanRead base code registers → l < 2 ^ registers.stage.width → p.states ≤ 2 ^ registers.state.width → FitsStage base code registers l p
  stage_fits l p reads room states = record { reads = reads; stage = room; stages = (let few = slots.room in omega arith); states = states }

pub chains_of : (base : Base) (a : List Signal) (registers : List Held) (links : List ℕ) → length links ≡ length registers → LinkAll base a registers links →
    AreChains a base registers links
chains_of base a registers links count t = record { count = count; each = λ x y h e f. t x y h f e }

pub links_of : (base : Base) (a : List Signal) (registers : List Held) (links : List ℕ) → AreChains a base registers links → LinkAll base a registers links
links_of base a registers links t x y h e f = t.each x y h f e

pub block_linked : (base : Base) (a b : List Signal) (registers : Registers) (variables kept : List ℕ) (left : Left) → AddsKeptBlock base a b registers variables kept left
    → LinksBlock base a b registers left variables kept
block_linked base a b registers variables kept left t = record {
  wires = t.block.wires;
  variables = links_of base b registers.variables variables t.block.chains;
  kept = links_of base b registers.kept kept t.kept;
  last = t.block.last;
  target = t.block.target;
  values = t.block.values;
  at = t.block.at;
  states = t.block.states;
}
