-- A module that a text can tell, and whose text is well formed, by itself: it has no instances.
use Rattle.std.specs.Prelude.{◌≡◌, ◌≢◌, ℕ, ◌-◌, true, false, nat_eq, List, [], length, Some, slice_get}
use Rattle.verilog_tree.specs.Scope.{is_clk}
use Rattle.netlist.specs.declared.netlist.Source.TheVariants.{Input}
use Rattle.netlist.specs.declared.netlist.Signal.{Signal}
use Rattle.netlist.specs.declared.netlist.Memory.{Memory}
use Rattle.netlist.specs.declared.netlist.Module.{Module}
use Rattle.netlist.specs.Laid.{AreApart, memory_names, IsLaidMemory, IsLaidModule, input_signals, output_signals}
use Rattle.netlist.specs.Sound.{IsSoundModule}
use Rattle.leaf_machine.specs.Rows.{EachOf}
use Rattle.leaf_machine.specs.Modules.{FitsMemory}
use Rattle.module_sound.specs.Grades.{AreGrades, ActsRight}
use Rattle.module_sound.specs.Kinds.{IsPlaced}

-- signal 0 is the clock
pub record BeginsWithClock (m : Module) : Type 0 where
  pub signal : Signal
  pub listed : slice_get m.signals 0 ≡ Some signal
  pub named : is_clk signal.name ≡ true
  pub input : signal.source ≡ Input
  pub wide : signal.width ≡ 1

-- a memory has words, as wide as a signal can be, whose initial constants fit; and its name is neither the clock's nor a signal's
pub record IsRightMemory (m : Module) (c : Memory) : Type 0 where
  pub laid : IsLaidMemory c
  pub begins : FitsMemory c
  pub unclocked : is_clk c.name ≡ false
  pub other : (x : ℕ) (s : Signal) → slice_get m.signals x ≡ Some s → s.name ≢ c.name

-- so are all, each under a name of its own
pub record AreRightMemories (m : Module) : Type 0 where
  pub each : (j : ℕ) (c : Memory) → slice_get m.memories j ≡ Some c → IsRightMemory m c
  pub apart : AreApart (memory_names m)

pub record IsSoundAlone (m : Module) (inputs first : ℕ) : Type 0 where
  pub laid : (before : List Module) → IsLaidModule before m
  pub sound : is_clk m.name ≡ false → (before : List Module) → IsSoundModule m before
  pub input_count : length (input_signals m) ≡ inputs
  pub output_count : length (output_signals m) ≡ length m.signals - first
  pub clock : (x : ℕ) (s : Signal) → slice_get m.signals x ≡ Some s → is_clk s.name ≡ nat_eq x 0

-- THE LAW: a module whose signals are graded and stand at their places, and whose memories are right, is sound
abbrev pub PlacedIsSound : Type 0
PlacedIsSound =
    (m : Module) (inputs first : ℕ) (grades : List ℕ) → AreGrades m inputs (length m.signals) grades → EachOf (ActsRight m) m.actions → m.instances ≡ []
    → AreRightMemories m → IsPlaced m inputs first → BeginsWithClock m → IsSoundAlone m inputs first
