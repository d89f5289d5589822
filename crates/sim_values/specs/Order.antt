-- Steps in order: each reads only what is known, and gives what was not.
use Rattle.std.specs.Prelude.{◌≡◌, ℕ, ◌+◌, ◌<◌, ◌⊎◌, Bool, true, false, List, [], ◌∷◌, map, length, nat_eq, if◌then◌else◌, Option, Some, None, slice_get, slice_index_or}
use Rattle.netlist.specs.declared.netlist.Source.{Source}
use Rattle.netlist.specs.declared.netlist.Source.TheVariants.{Assigned}
use Rattle.netlist.specs.declared.netlist.Signal.{Signal}
use Rattle.netlist.specs.declared.netlist.Module.{Module}
use Rattle.circuit.specs.Threads.{operands}
use Rattle.sim_values.specs.declared.settle.Feed.{Feed}
use Rattle.sim_values.specs.declared.settle.Feed.TheVariants.{Zero, Enables, Preferred, Copied, Computed}
use Rattle.sim_values.specs.declared.settle.Step.{Step}
use Rattle.circuit.specs.Rows.{EachOf}

-- the places that a feed reads
abbrev pub source_reads : ℕ → Source → List ℕ
source_reads base (Assigned v) = map (λ y. base + y) (operands v)
source_reads base _ = []

abbrev pub signal_reads : ℕ → Option Signal → List ℕ
signal_reads base None = []
signal_reads base (Some s) = source_reads base s.source

abbrev pub module_reads : ℕ → ℕ → Option Module → List ℕ
module_reads base x None = []
module_reads base x (Some m) = signal_reads base (slice_get m.signals x)

abbrev pub reads : List Module → Feed → List ℕ
reads modules Zero = []
reads modules Enables = []
reads modules (Preferred k) = []
reads modules (Copied from) = from ∷ []
reads modules (Computed k x spot) = module_reads spot.base x (slice_get modules k)

abbrev pub InOrder : List Module → (ℕ → Type 0) → List Step → Type 0
InOrder modules known [] = Unit {0}
InOrder modules known (s ∷ steps) =
    EachOf known (reads modules s.feed) × (known s.target → ⊥) × InOrder modules (λ k. known k ⊎ (k ≡ s.target)) steps

-- the number of the step that gives a place its number, from 1 on, where i steps stand before these; 0 where none does
abbrev pub rank : ℕ → List Step → ℕ → ℕ
rank i [] k = 0
rank i (s ∷ steps) k = if nat_eq s.target k then i + 1 else rank (i + 1) steps k

-- ---- an order that grows

abbrev pub IsMarked : List Bool → ℕ → Type 0
IsMarked marks k = slice_index_or marks k false ≡ true

-- what is known after steps
abbrev pub Known : (ℕ → Type 0) → List Step → ℕ → Type 0
Known known [] k = known k
Known known (s ∷ steps) k = Known (λ j. known j ⊎ (j ≡ s.target)) steps k

abbrev pub Takes : List Step → Step → Type 0
Takes steps s = (j : ℕ) × (slice_get steps j ≡ Some s)

-- steps in order, which are some of the wires, and what is known after them
pub record IsPartial (modules : List Module) (wires : List Step) (free marks : List Bool) (done : List Step) : Type 0 where
  pub ordered : InOrder modules (IsMarked free) done
  pub known : (k : ℕ) → IsMarked marks k → Known (IsMarked free) done k
  pub all : (k : ℕ) → Known (IsMarked free) done k → IsMarked marks k
  pub from : (k : ℕ) (s : Step) → slice_get done k ≡ Some s → Takes wires s
  pub targets : EachOf (λ (s : Step). s.target < length free) done
  pub long : length marks ≡ length free

-- an order of the wires knows the target of each
pub record IsOrder (modules : List Module) (wires : List Step) (free : List Bool) (steps : List Step) : Type 0 where
  pub ordered : InOrder modules (IsMarked free) steps
  pub covers : (s : Step) → Takes wires s → Known (IsMarked free) steps s.target
  pub from : (k : ℕ) (s : Step) → slice_get steps k ≡ Some s → Takes wires s
  pub targets : EachOf (λ (s : Step). s.target < length free) steps

-- ---- where no order has them all

abbrev pub IsClear : List Bool → ℕ → Type 0
IsClear marks k = slice_index_or marks k false ≡ false

abbrev pub SomeOf : {X : Type 0} → (X → Type 0) → List X → Type 0
SomeOf P [] = ⊥
SomeOf P (x ∷ xs) = P x ⊎ SomeOf P xs

-- a step whose target is not known reads what is not known
abbrev pub IsHeld : List Module → List Bool → Step → Type 0
IsHeld modules marks s = s.target < length marks → IsClear marks s.target → SomeOf (IsClear marks) (reads modules s.feed)

-- no step can be taken
abbrev pub AreHeld : List Module → List Step → List Bool → ℕ → Type 0
AreHeld modules wires marks count = (k : ℕ) (s : Step) → k < count → slice_get wires k ≡ Some s → IsHeld modules marks s

-- the target of the step of a number is not known
pub record IsLeft (wires : List Step) (marks : List Bool) (k : ℕ) : Type 0 where
  pub step : Step
  pub listed : slice_get wires k ≡ Some step
  pub clear : IsClear marks step.target

-- what is free is known, and no other step can be taken, though the target of one is not known
pub record IsStuck (modules : List Module) (wires : List Step) (free : List Bool) : Type 0 where
  pub marks : List Bool
  pub long : length marks ≡ length free
  pub free_known : (k : ℕ) → IsMarked free k → IsMarked marks k
  pub held : (s : Step) → Takes wires s → IsHeld modules marks s
  pub left : Step
  pub taken : Takes wires left
  pub clear : IsClear marks left.target
