-- The fan-in cone of a word: the steps that its number hangs on.
use Rattle.std.specs.Prelude.{◌≡◌, ℕ, ◌<◌, Bool, false, if◌then◌else◌, List, [], ◌∷◌, length, Some, slice_get, slice_index_or}
use Rattle.netlist.specs.declared.netlist.Module.{Module}
use Rattle.verilog_meaning.specs.Threads.{IsOneOf}
use Rattle.sim_values.specs.declared.settle.Step.{Step}
use Rattle.sim_values.specs.Order.{reads, IsMarked}

-- the steps that give a marked word
abbrev pub cone_of : List Bool → List Step → List Step
cone_of marks [] = []
cone_of marks (s ∷ steps) = if slice_index_or marks s.target false then s ∷ cone_of marks steps else cone_of marks steps

-- what a step reads is marked where the word that it gives is
abbrev pub IsClosedAt : List Module → List Bool → Step → Type 0
IsClosedAt modules marks s = IsMarked marks s.target → (y : ℕ) → IsOneOf y (reads modules s.feed) → y < length marks → IsMarked marks y

abbrev pub AreClosed : List Module → List Bool → List Step → Type 0
AreClosed modules marks steps = (k : ℕ) (s : Step) → slice_get steps k ≡ Some s → IsClosedAt modules marks s

-- these are the steps that the number of one of so many words hangs on
pub record IsCone (modules : List Module) (steps : List Step) (words word : ℕ) (cone : List Step) : Type 0 where
  pub marks : List Bool
  pub long : length marks ≡ words
  pub closed : AreClosed modules marks steps
  pub has : word < words → IsMarked marks word
  pub is : cone ≡ cone_of marks steps
