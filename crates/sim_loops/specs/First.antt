-- The first signal of a net that depends on itself, by its place.
use Rattle.std.specs.Prelude.{◌≡◌, ℕ, Option, Some, None, List}
use Rattle.netlist.specs.declared.netlist.Signal.{Signal}
use Rattle.netlist.specs.declared.netlist.Module.{Module}
use Rattle.verilog_meaning.specs.Names.{top_of}
use Rattle.verilog_meaning.specs.Cycles.{Path, IsAt}
use Rattle.verilog_meaning.specs.Threads.{Place, Depends}
use Rattle.sim_values.specs.Loops.{Earlier}
use Rattle.sim_loops.specs.declared.find.Looped.{Looped}

-- signal x of the instance at a path depends on itself, and no signal of the net that comes before does
pub record IsLoopAt (modules : List Module) (top : Module) (path : Path) (x : ℕ) : Type 0 where
  pub kind : Module
  pub signal : Signal
  pub is : IsAt modules top path kind x signal
  pub depends : Depends modules top (path, x) (path, x)
  pub first : (q : Place) → Earlier q (path, x) → Depends modules top q q → ⊥

-- no signal of the net depends on itself
abbrev pub IsLoopless : List Module → Type 0
IsLoopless modules = (top : Module) → top_of modules ≡ Some top → (p : Place) → Depends modules top p p → ⊥

-- the first signal that depends on itself, or none
abbrev pub IsLooped : List Module → Option Looped → Type 0
IsLooped modules (Some l) = (top : Module) → top_of modules ≡ Some top → IsLoopAt modules top l.path l.signal
IsLooped modules None = IsLoopless modules
