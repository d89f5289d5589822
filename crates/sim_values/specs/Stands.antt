-- How flat words stand for the numbers of a net: the instances in a list, the spot of each, and what gives each signal its number.
use Rattle.std.specs.Prelude.{◌≡◌, ℕ, ◌+◌, ◌<◌, ◌≤◌, true, List, [], ◌∷◌, length, slice_index_or, false, Bool, Option, Some, None, slice_get}
use Rattle.netlist.specs.declared.netlist.Source.{Source}
use Rattle.netlist.specs.declared.netlist.Source.TheVariants.{Input, Register, Assigned, Port}
use Rattle.netlist.specs.declared.netlist.Signal.{Signal}
use Rattle.netlist.specs.declared.netlist.Module.{Module}
use Rattle.circuit.specs.Cycles.{Path, Valuation, Choice, choice_number, module_at, instance_at, connected, IsAt}
use Rattle.sim_values.specs.declared.value.Spot.{Spot}
use Rattle.sim_values.specs.declared.settle.Feed.{Feed}
use Rattle.sim_values.specs.declared.settle.Feed.TheVariants.{Copied, Computed}
use Rattle.sim_values.specs.declared.settle.Step.{Step}
use Rattle.sim_values.specs.declared.edge.Part.{Part}
use Rattle.circuit.specs.Rows.{EachOf}
use Rattle.sim_values.specs.Flat.{Flat, reading, fed}
use Rattle.sim_values.specs.Order.{InOrder}

-- of the part at a place of the list
abbrev pub children_of : Option Part → ℕ
children_of None = 0
children_of (Some p) = p.children

abbrev pub kind_of : Option Part → ℕ
kind_of None = 0
kind_of (Some p) = p.module

abbrev pub spot_of : Option Part → Spot
spot_of None = record { base = 0; memories = 0 }
spot_of (Some p) = p.spot

-- the place of the instance at a path: the instances in one instance stand one behind the other
abbrev pub place_of : List Part → Path → ℕ
place_of parts [] = 0
place_of parts (i ∷ outer) = children_of (slice_get parts (place_of parts outer)) + i

abbrev pub spot_at : List Part → Path → Spot
spot_at parts path = spot_of (slice_get parts (place_of parts path))

abbrev pub kind_at : List Part → Path → ℕ
kind_at parts path = kind_of (slice_get parts (place_of parts path))

-- the place of the word of signal x
abbrev pub word_of : List Part → Path → ℕ → ℕ
word_of parts path x = (spot_at parts path).base + x

-- the numbers of a net that flat words stand for
abbrev pub valuation_of : List Part → Flat → Valuation
valuation_of parts f path = reading (spot_at parts path) f

-- ---- steps

abbrev pub step : ℕ → Feed → Step
step target feed = record { target = target; feed = feed }

abbrev pub Has : List Step → Step → Type 0
Has steps s = (j : ℕ) × (slice_get steps j ≡ Some s)

-- a feed gives what a choice of at most so many prefs gives the input of a name
abbrev pub IsGiven : List Module → ℕ → List ℕ → Feed → Type 0
IsGiven modules most name feed = (c : Choice) (f : Flat) → length c.prefs ≤ most → fed modules c f feed ≡ choice_number c name

-- the places whose words are known before the first step
abbrev pub IsFree : List Bool → ℕ → Type 0
IsFree free k = slice_index_or free k false ≡ true

module _ (modules : List Module) (top : Module) (parts : List Part) (steps : List Step) (free : List Bool) (most : ℕ) where
  -- what gives a signal its word
  abbrev pub StandsFor : Path → ℕ → List ℕ → Source → Type 0
  StandsFor path x name (Register n) = IsFree free (word_of parts path x)
  StandsFor path x name (Assigned v) = Has steps (step (word_of parts path x) (Computed (kind_at parts path) x (spot_at parts path)))
  StandsFor path x name (Port i port) = Has steps (step (word_of parts path x) (Copied (word_of parts (i ∷ path) port)))
  StandsFor [] x name Input = (feed : Feed) × Has steps (step (word_of parts [] x) feed) × IsGiven modules most name feed
  StandsFor (i ∷ outer) x name Input =
      Has steps (step (word_of parts (i ∷ outer) x) (Copied (word_of parts outer (connected modules top (instance_at modules top outer i) x))))

  -- parts and steps stand for the net, over n words
  pub record IsPlan (n : ℕ) : Type 0 where
    pub laid : (path : Path) (m : Module) → module_at modules top path ≡ Some m → slice_get modules (kind_at parts path) ≡ Some m
    pub feeds : (path : Path) (m : Module) (x : ℕ) (s : Signal) → IsAt modules top path m x s → StandsFor path x s.name s.source
    pub targets : EachOf (λ (s : Step). s.target < n) steps
    pub ordered : InOrder modules (IsFree free) steps
