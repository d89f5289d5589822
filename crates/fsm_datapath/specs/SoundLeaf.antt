-- The module of a thread as a leaf of a net: its ports, and the order of its signals.
use Rattle.std.specs.Prelude.{◌≡◌, ℕ, zero, suc, ◌+◌, ◌<◌, false, List, [], ◌∷◌, length, Some, slice_get, codes}
use Rattle.block_ir.specs.declared.code.ThreadCode.{ThreadCode}
use Rattle.block_ir.specs.declared.plan.Planned.{Planned}
use Rattle.netlist.specs.declared.netlist.Memory.{Memory}
use Rattle.netlist.specs.declared.netlist.Module.{Module}
use Rattle.verilog_meaning.specs.Names.{numbered}
use Rattle.circuit.specs.Rows.{EachOf}
use Rattle.circuit.specs.Modules.{FitsMemory}
use Rattle.leaf_machine.specs.Leaves.{IsThreadLeaf, IsSlotBit}
use Rattle.leaf_machine.specs.Ports.{CorePort, asks_of, thread_outputs}
use Rattle.module_sound.specs.Grades.{AreGrades, ActsRight, IsPort, IsSlotPort}
use Rattle.module_sound.specs.Kinds.{IsPlaced}
use Rattle.module_sound.specs.Sounds.{AreRightMemories, BeginsWithClock, IsSoundAlone}
use Rattle.thread_slots.specs.declared.shape.Shape.{Shape}
use Rattle.thread_layout.specs.Thread.{cores_of, inputs_of, core_ports, first_output, need_at, done_at, IsServed}
use Rattle.thread_layout.specs.Leaf.{leaf_of}

-- how many numbers core k is asked with, and how many it tells
abbrev pub parts_of : List CorePort → ℕ → ℕ
parts_of [] k = 0
parts_of (p ∷ ports) zero = length p.asks
parts_of (p ∷ ports) (suc k) = parts_of ports k

abbrev pub tells_of : List CorePort → ℕ → ℕ
tells_of [] k = 0
tells_of (p ∷ ports) zero = length p.told
tells_of (p ∷ ports) (suc k) = tells_of ports k

-- the statements fit, signals stand at the places of their kinds, no answer reaches what cores are asked, and the slot alone tells the rest
pub record HasPorts (shape : Shape) (m : Module) (grades : List ℕ) : Type 0 where
  pub acts : EachOf (ActsRight m) m.actions
  pub placed : IsPlaced m (inputs_of shape) (first_output shape m)
  pub begins : BeginsWithClock m
  pub asks : (j : ℕ) → j < length (asks_of (core_ports shape)) → IsPort m grades 1 (first_output shape m + j)
  pub need : IsSlotPort m grades (need_at shape m)
  pub done : IsSlotPort m grades (done_at shape m)

-- each signal reads earlier ones, and the memories are right
pub record IsChecked (shape : Shape) (m : Module) : Type 0 where
  pub memories : AreRightMemories m
  pub begun : EachOf FitsMemory m.memories
  pub grades : List ℕ
  pub are : AreGrades m (inputs_of shape) (length m.signals) grades
  pub ports : HasPorts shape m grades

-- a thread's module
pub record IsLeafOf (shape : Shape) (m : Module) : Type 0 where
  pub thread : IsThreadLeaf m (inputs_of shape) (leaf_of shape m) (cores_of shape) (parts_of (core_ports shape)) (tells_of (core_ports shape))
  pub done : IsSlotBit m (inputs_of shape) (leaf_of shape m) (cores_of shape) (parts_of (core_ports shape)) (tells_of (core_ports shape))
      (done_at shape m)
  -- a text can tell it, and is well formed
  pub alone : IsSoundAlone m (inputs_of shape) (first_output shape m)
  -- each statement sets a register to a number of its width
  pub acts : EachOf (ActsRight m) m.actions
  -- its signals stand where their names say, and its memories are called by their places
  pub placed : IsPlaced m (inputs_of shape) (first_output shape m)
  pub arrays : (j : ℕ) (c : Memory) → slice_get m.memories j ≡ Some c → c.name ≡ numbered (codes "array") j
  -- no output hangs on an answer
  pub early : (x : ℕ) → x < length (thread_outputs (core_ports shape)) → thread.late (first_output shape m + x) ≡ false

-- THE MODULE IS A LEAF
abbrev pub IsLeafOfServedCode : Shape → ThreadCode → Planned → Module → Type 0
IsLeafOfServedCode shape code plan m = IsServed shape code plan → IsLeafOf shape m
