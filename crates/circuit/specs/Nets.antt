-- The widths of a whole net fit.
use Rattle.std.specs.Prelude.{◌≡◌, ℕ, ◌^◌, ◌<◌, List, [], ◌∷◌, Some, slice_get}
use Rattle.netlist.specs.declared.netlist.Source.{Source}
use Rattle.netlist.specs.declared.netlist.Source.TheVariants.{Input, Register, Assigned, Port}
use Rattle.netlist.specs.declared.netlist.Signal.{Signal}
use Rattle.netlist.specs.declared.netlist.Module.{Module}
use Rattle.verilog_meaning.specs.Cycles.{Path, Valuation, Choice, Given, module_at, instance_at, connected, choice_number, IsAt, IsSettled, IsSettledGiven, IsState, Cycle, initial_state}
use Rattle.verilog_meaning.proofs.OneSettled.{IsLevelled}
use Rattle.circuit.specs.Rows.{EachOf}
use Rattle.circuit.specs.Modules.{Has, FitsValue, FitsAction, FitsMemory}

module _ (modules : List Module) (top : Module) where
  -- the width of each signal is that of what drives it
  abbrev pub FitsSource : Path → Module → ℕ → ℕ → Source → Type 0
  FitsSource path m x w (Register n) = n < 2 ^ w
  FitsSource path m x w (Assigned v) = FitsValue (Has m) (λ j. slice_get m.memories j) w v
  FitsSource path m x w (Port i port) = (sub : Module) × (module_at modules top (i ∷ path) ≡ Some sub) × Has sub port w
  FitsSource [] m x w Input = Unit {0}
  FitsSource (i ∷ outer) m x w Input = (holder : Module) × (module_at modules top outer ≡ Some holder) × Has holder (connected modules top (instance_at modules top outer i) x) w

  abbrev pub FitsNet : Type 0
  FitsNet = (path : Path) (m : Module) (x : ℕ) (s : Signal) → IsAt modules top path m x s → FitsSource path m x s.width s.source

  -- the numbers that are given fit their inputs
  abbrev pub FitsGiven : Given → Type 0
  FitsGiven given = (m : Module) (x : ℕ) (s : Signal) → IsAt modules top [] m x s → s.source ≡ Input → given s.name < 2 ^ s.width

  -- and those of a choice
  abbrev pub FitsChoice : Choice → Type 0
  FitsChoice c = FitsGiven (choice_number c)

  -- the statements and the initial constants of memories fit
  pub record FitsStatements : Type 0 where
    pub acts : (path : Path) (m : Module) → module_at modules top path ≡ Some m → EachOf (FitsAction m) m.actions
    pub begins : (path : Path) (m : Module) → module_at modules top path ≡ Some m → EachOf FitsMemory m.memories

-- a net that has levels and whose widths fit has a settled valuation of each state for each list of inputs
abbrev pub HasSettledGiven : Type 0
HasSettledGiven =
    (modules : List Module) (top : Module) (level : Path → ℕ → ℕ) → IsLevelled modules top level → FitsNet modules top
    → (h : Valuation) (given : Given) → IsState modules top h → FitsGiven modules top given → (v : Valuation) × IsSettledGiven modules top h given v

-- a net that has levels and whose widths fit has a settled valuation of each state for each choice
abbrev pub HasSettled : Type 0
HasSettled =
    (modules : List Module) (top : Module) (level : Path → ℕ → ℕ) → IsLevelled modules top level → FitsNet modules top
    → (h : Valuation) (c : Choice) → IsState modules top h → FitsChoice modules top c → (v : Valuation) × IsSettled modules top h c v

-- in a net whose widths fit each cycle leads from a state to a state, and so do the initial constants
abbrev pub KeepsStates : Type 0
KeepsStates =
    (modules : List Module) (top : Module) → FitsNet modules top → FitsStatements modules top
    → IsState modules top (initial_state modules top) × ((h g : Valuation) (c : Choice) (out : List ℕ) → IsState modules top h → Cycle modules top h c g out → IsState modules top g)
