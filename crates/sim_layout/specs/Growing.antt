-- An order of steps while it grows: each step is taken, is to be looked at, or waits for a word.
use Rattle.std.specs.Prelude.{◌≡◌, ℕ, ◌<◌, ◌⊎◌, Bool, List, length, Some, slice_get}
use Rattle.netlist.specs.declared.netlist.Module.{Module}
use Rattle.verilog_meaning.specs.Threads.{IsOneOf}
use Rattle.sim_values.specs.declared.settle.Step.{Step}
use Rattle.sim_layout.specs.declared.order.Growth.{Growth}
use Rattle.sim_values.specs.Order.{reads, IsMarked, IsClear, IsPartial}
use Rattle.sim_layout.specs.Waits.{IsWaiting, IsListed}

-- a word that is not known is among these; where it is one of the net it is that of a number
pub record IsUnmet (marks : List Bool) (words : List ℕ) (place : ℕ) : Type 0 where
  pub word : ℕ
  pub among : IsOneOf word words
  pub clear : IsClear marks word
  pub is : word < length marks → word ≡ place

-- the target of a step is known, or is no word of the net
abbrev pub IsTaken : List Bool → Step → Type 0
IsTaken marks s = s.target < length marks → IsMarked marks s.target

-- a step waits for a word that is not known and that it reads
pub record IsBlocked (modules : List Module) (g : Growth) (k : ℕ) (s : Step) : Type 0 where
  pub word : ℕ
  pub among : IsOneOf word (reads modules s.feed)
  pub clear : IsClear g.marks.items word
  pub waits : word < length g.marks.items → IsWaiting g.waits.last.items g.waits.chain.items word k

-- a step is taken, or is to be looked at, from a place on, or waits
abbrev pub IsCovered : List Module → ℕ → Growth → ℕ → Step → Type 0
IsCovered modules from g k s = IsTaken g.marks.items s ⊎ (IsListed from g.looks.items k ⊎ IsBlocked modules g k s)

pub record IsGrowing (modules : List Module) (wires : List Step) (free : List Bool) (from : ℕ) (g : Growth) : Type 0 where
  pub partial : IsPartial modules wires free g.marks.items g.taken.items
  pub long : length g.waits.last.items ≡ length g.marks.items
  pub covered : (k : ℕ) (s : Step) → slice_get wires k ≡ Some s → IsCovered modules from g k s
