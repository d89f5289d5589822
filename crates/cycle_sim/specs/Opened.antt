-- What a simulator of a net is when it is opened.
use Rattle.std.specs.Prelude.{◌≡◌, ℕ, Bool, true, false, List, [], Option, Some, None, slice_get, codes}
use Rattle.netlist.specs.declared.netlist.Signal.{Signal}
use Rattle.netlist.specs.declared.netlist.Module.{Module}
use Rattle.verilog_meaning.specs.Names.{top_of}
use Rattle.verilog_meaning.specs.Ports.{HasDone}
use Rattle.verilog_meaning.specs.Cycles.{Path, module_at, IsSameIn, initial_state}
use Rattle.verilog_meaning.specs.Threads.{Place, Depends}
use Rattle.sim_values.specs.declared.edge.Part.{Part}
use Rattle.cycle_sim.specs.declared.sim.OpenError.{OpenError}
use Rattle.cycle_sim.specs.declared.sim.OpenError.TheVariants as errors
use Rattle.sim_values.specs.Loops.{IsFirstLoop}
use Rattle.sim_layout.specs.Rounds.{prefs_of, TakesTurns}
use Rattle.sim_layout.specs.Running.{Running, state_of, IsRight, Stands, some_write}

abbrev pub writes_at : Option Module → Bool
writes_at None = false
writes_at (Some m) = some_write m.actions

-- one instance at most has a $write
abbrev pub IsOne : List Module → List Part → Type 0
IsOne modules parts =
    (q o : ℕ) (p other : Part) → slice_get parts q ≡ Some p → slice_get parts o ≡ Some other → writes_at (slice_get modules p.module) ≡ true → writes_at (slice_get modules other.module) ≡ true → q ≡ o

pub record IsWriter (modules : List Module) (parts : List Part) (q : ℕ) : Type 0 where
  pub part : Part
  pub listed : slice_get parts q ≡ Some part
  pub writes : writes_at (slice_get modules part.module) ≡ true

-- two parts have a $write
pub record AreTwo (modules : List Module) (parts : List Part) : Type 0 where
  pub first : ℕ
  pub other : ℕ
  pub apart : other ≡ first → ⊥
  pub writes : IsWriter modules parts first
  pub writes_too : IsWriter modules parts other

-- the number of the module `top`
pub record IsTopNumber (modules : List Module) (number : ℕ) : Type 0 where
  pub top : Module
  pub is_top : top_of modules ≡ Some top
  pub stands : slice_get modules number ≡ Some top

-- an output `done` of one bit
pub record IsDoneSignal (s : Signal) : Type 0 where
  pub named : s.name ≡ codes "done"
  pub out : s.is_output ≡ true
  pub bit : s.width ≡ 1

pub record IsDoneNumber (signals : List Signal) (number : ℕ) : Type 0 where
  pub signal : Signal
  pub listed : slice_get signals number ≡ Some signal
  pub is : IsDoneSignal signal

-- there is none
abbrev pub LacksDone : List Signal → Type 0
LacksDone signals = (x : ℕ) (s : Signal) → slice_get signals x ≡ Some s → IsDoneSignal s → ⊥

-- the net with a module `top`, whose widths fit
abbrev pub IsRightNet : List Module → Type 0
IsRightNet modules = (top : Module) → top_of modules ≡ Some top → IsRight modules top

-- a simulator of the net, in its initial state, for choices of a pref for each input `pref_k`
pub record IsOpened (modules : List Module) (r : Running) : Type 0 where
  pub net : r.modules ≡ modules
  pub prefs_are : r.prefs ≡ prefs_of modules
  pub top : Module
  pub is_top : top_of modules ≡ Some top
  pub begins : IsSameIn modules top [] (initial_state modules top) (state_of r)
  -- no signal depends on itself
  pub loopless : (p : Place) → Depends modules top p p → ⊥

-- words that stand for the net in its initial state
pub record IsReady (r : Running) : Type 0 where
  pub stands : Stands r
  pub prefs_are : r.prefs ≡ prefs_of r.modules
  pub begins : IsSameIn r.modules stands.top [] (initial_state r.modules stands.top) (state_of r)
  pub loopless : (p : Place) → Depends r.modules stands.top p p → ⊥

-- the instance at a path has a $write
pub record Writes (modules : List Module) (top : Module) (path : Path) : Type 0 where
  pub kind : Module
  pub stands : module_at modules top path ≡ Some kind
  pub writes : some_write kind.actions ≡ true

-- two instances have a $write
pub record HasPrinters (modules : List Module) : Type 0 where
  pub top : Module
  pub is_top : top_of modules ≡ Some top
  pub path : Path
  pub other : Path
  pub apart : path ≡ other → ⊥
  pub writes : Writes modules top path
  pub writes_too : Writes modules top other

-- what `open` takes: the net has a module `top` with an output `done` of one bit, its widths fit, one instance at most has a $write, and the
-- inputs of `top` take each choice in which all threads are enabled and the prefs have 4 bits
pub record IsOpenable (modules : List Module) : Type 0 where
  pub top : Module
  pub is_top : top_of modules ≡ Some top
  pub right : IsRight modules top
  pub printer : HasPrinters modules → ⊥
  pub done : HasDone top
  pub takes : TakesTurns modules top

-- ---- why there is none

abbrev pub IsCause : List Module → OpenError → Type 0
IsCause modules (errors.Loop k x) = IsFirstLoop modules k x
IsCause modules errors.Memory = Unit {0}
