-- Which steps are to be taken again, and which hold whatever the choice and the memories.
use Rattle.std.specs.Prelude.{◌≡◌, ℕ, ◌+◌, ◌/◌, ◌<◌, ◌≤◌, ◌⊎◌, Bool, true, false, nat_le, List, length, Option, Some, None, slice_get, slice_index, slice_index_or, slice_set, if◌then◌else◌}
use Rattle.netlist.specs.declared.netlist.Value.{Value}
use Rattle.netlist.specs.declared.netlist.Value.TheVariants.{MemoryRead}
use Rattle.netlist.specs.declared.netlist.Source.{Source}
use Rattle.netlist.specs.declared.netlist.Source.TheVariants.{Assigned}
use Rattle.netlist.specs.declared.netlist.Signal.{Signal}
use Rattle.netlist.specs.declared.netlist.Module.{Module}
use Rattle.verilog_meaning.specs.Cycles.{Choice}
use Rattle.verilog_meaning.specs.Threads.{IsOneOf}
use Rattle.sim_values.specs.declared.settle.Feed.{Feed}
use Rattle.sim_values.specs.declared.settle.Feed.TheVariants.{Zero, Enables, Preferred, Copied, Computed}
use Rattle.sim_values.specs.declared.settle.Step.{Step}
use Rattle.sim_values.specs.Rows.{EachOf}
use Rattle.sim_values.specs.Flat.{Flat, fed}
use Rattle.sim_values.specs.Order.{reads, InOrder, Takes, IsMarked}
use Rattle.sim_values.specs.Stands.{IsFree}

-- ---- which steps read or give a word

abbrev pub Touches : List Module → Step → ℕ → Type 0
Touches modules s y = (y ≡ s.target) ⊎ IsOneOf y (reads modules s.feed)

-- step k is listed among those of a word
pub record IsAmong (starts list : List ℕ) (y k : ℕ) : Type 0 where
  pub place : ℕ
  pub from : slice_index starts y ≤ place
  pub to : place < slice_index starts (y + 1)
  pub listed : slice_get list place ≡ Some k

-- of each of so many words all steps that read or give it are listed
abbrev pub IsFanout : List Module → List Step → ℕ → List ℕ → List ℕ → Type 0
IsFanout modules steps words starts list = (k y : ℕ) (s : Step) → slice_get steps k ≡ Some s → Touches modules s y → y < words → IsAmong starts list y k

-- the marks after that of the step of a number, where it is not below another
abbrev pub marked_from : ℕ → List Bool → Option ℕ → List Bool
marked_from from marks None = marks
marked_from from marks (Some number) = if nat_le from number then slice_set marks number true else marks

-- ---- which feeds hang on the words of signals alone: on no choice, and on no memory

abbrev pub steady_value : Value → Bool
steady_value (MemoryRead j x) = false
steady_value _ = true

abbrev pub steady_source : Source → Bool
steady_source (Assigned v) = steady_value v
steady_source _ = true

abbrev pub steady_signal : Option Signal → Bool
steady_signal None = true
steady_signal (Some s) = steady_source s.source

abbrev pub steady_module : ℕ → Option Module → Bool
steady_module x None = true
steady_module x (Some m) = steady_signal (slice_get m.signals x)

abbrev pub steady : List Module → Feed → Bool
steady modules Zero = true
steady modules Enables = false
steady modules (Preferred k) = false
steady modules (Copied from) = true
steady modules (Computed k x spot) = steady_module x (slice_get modules k)

-- ---- which steps hold

-- the words of signals beside those of memories
abbrev pub flat_at : List ℕ → List ℕ → List ℕ → Flat
flat_at numbers words starts = record { numbers = numbers; words = words; starts = starts }

-- a word is what its step gives
abbrev pub Gives : List Module → Choice → Flat → Step → Type 0
Gives modules c f s = slice_index f.numbers s.target ≡ fed modules c f s.feed

-- the same under each choice, and whatever stands in memories
abbrev pub Holds : List Module → List ℕ → Step → Type 0
Holds modules numbers s = (c : Choice) (words starts : List ℕ) → Gives modules c (flat_at numbers words starts) s

-- each steady step that is not pending holds
abbrev pub AreKept : List Module → List Step → List ℕ → List Bool → Type 0
AreKept modules steps numbers pending =
    (k : ℕ) (s : Step) → slice_get steps k ≡ Some s → slice_index_or pending k false ≡ false → steady modules s.feed ≡ true → Holds modules numbers s

-- the fanout has the steps of each word, each steady step that is not pending holds, and those that are not steady are pending
pub record IsKeeping (modules : List Module) (steps : List Step) (ends listed numbers : List ℕ) (pending : List Bool) : Type 0 where
  pub all : IsFanout modules steps (length numbers) ends listed
  pub long : length pending ≡ length steps
  pub kept : AreKept modules steps numbers pending
  pub moving : (k : ℕ) (s : Step) → slice_get steps k ≡ Some s → steady modules s.feed ≡ false → IsMarked pending k

-- a block of 16 steps of which one is pending is marked
pub record AreFlagged (pending blocks : List Bool) : Type 0 where
  pub room : (k : ℕ) → k < length pending → k / 16 < length blocks
  pub flagged : (k : ℕ) → IsMarked pending k → IsMarked blocks (k / 16)

-- the steps are in an order, and each gives one of so many words
pub record AreOrdered (modules : List Module) (steps : List Step) (n : ℕ) : Type 0 where
  pub free : List Bool
  pub ordered : InOrder modules (IsFree free) steps
  pub targets : EachOf (λ (s : Step). s.target < n) steps

-- from the first numbers on i steps were taken, or held
pub record IsSettling (modules : List Module) (steps : List Step) (c : Choice) (words starts ends listed first : List ℕ) (i : ℕ) (numbers : List ℕ) (pending : List Bool) : Type 0 where
  pub keeping : IsKeeping modules steps ends listed numbers pending
  pub long : length numbers ≡ length first
  pub same : (y : ℕ) → ((s : Step) → Takes steps s → s.target ≡ y → ⊥) → slice_index first y ≡ slice_index numbers y
  pub done : (k : ℕ) (s : Step) → k < i → slice_get steps k ≡ Some s → Gives modules c (flat_at numbers words starts) s
  pub clear : (k : ℕ) (s : Step) → k < i → slice_get steps k ≡ Some s → steady modules s.feed ≡ true → slice_index_or pending k false ≡ false
