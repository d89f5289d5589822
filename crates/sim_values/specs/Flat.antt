-- A net at work in flat words: one word for each signal of each instance, and the words of all memories side by side.
use Rattle.std.specs.Prelude.{◌≡◌, ℕ, ◌+◌, ◌≤◌, ◌<◌, nat_lt, List, [], ◌∷◌, ◌++◌, slice_index, slice_set, Option, Some, None, slice_get, if◌then◌else◌}
use Rattle.hls_ints.specs.Words.{word}
use Rattle.netlist.specs.declared.netlist.Value.{Value}
use Rattle.netlist.specs.declared.netlist.Value.TheVariants.{Select}
use Rattle.netlist.specs.declared.netlist.Source.{Source}
use Rattle.netlist.specs.declared.netlist.Source.TheVariants.{Assigned}
use Rattle.netlist.specs.declared.netlist.Signal.{Signal}
use Rattle.netlist.specs.declared.netlist.Effect.{Effect}
use Rattle.netlist.specs.declared.netlist.Effect.TheVariants.{Set, Store, Write}
use Rattle.netlist.specs.declared.netlist.Action.{Action}
use Rattle.netlist.specs.declared.netlist.Module.{Module}
use Rattle.circuit.specs.Rows.{EachOf}
use Rattle.circuit.specs.Threads.{operands}
use Rattle.circuit.specs.Readings.{Reading, width, value, is_on, memory_words, written}
use Rattle.circuit.specs.Cycles.{Choice}
use Rattle.netlist.specs.declared.netlist.Argument.{Argument}
use Rattle.netlist.specs.declared.netlist.Argument.TheVariants.{Unsigned, Signed}
use Rattle.sim_values.specs.declared.value.Spot.{Spot}
use Rattle.sim_values.specs.declared.value.Now.{Now}
use Rattle.sim_values.specs.declared.settle.Feed.{Feed}
use Rattle.sim_values.specs.declared.settle.Feed.TheVariants.{Zero, Enables, Preferred, Copied, Computed}
use Rattle.sim_values.specs.declared.settle.Step.{Step}
use Rattle.sim_values.specs.declared.edge.Part.{Part}

-- the words of all signals, of all memories, and where each memory starts
pub record Flat : Type 0 where
  pub numbers : List ℕ
  pub words : List ℕ
  pub starts : List ℕ

abbrev pub flat_of : Now → Flat
flat_of n = record { numbers = n.numbers.now; words = n.words.now; starts = n.starts.now }

-- what one instance is in them
abbrev pub reading : Spot → Flat → Reading
reading spot f = record {
  signal = λ x. slice_index f.numbers (spot.base + x);
  word = λ j k. slice_index f.words (slice_index f.starts (spot.memories + j) + k);
}

-- ---- what a right side needs

abbrev pub IsWide : Module → ℕ → Type 0
IsWide m x = (1 ≤ width m x) × (width m x ≤ 64)

abbrev pub HasRoom : Value → Type 0
HasRoom (Select x high low) = (low ≤ high) × (high < 64)
HasRoom _ = Unit {0}

-- operands have 1 to 64 bits
pub record IsNarrow (m : Module) (v : Value) : Type 0 where
  pub wide : EachOf (IsWide m) (operands v)
  pub room : HasRoom v

abbrev pub IsNarrowSource : Module → Source → Type 0
IsNarrowSource m (Assigned v) = IsNarrow m v
IsNarrowSource m _ = Unit {0}

abbrev pub AreNarrow : List Module → Type 0
AreNarrow modules = (k x : ℕ) (m : Module) (s : Signal) → slice_get modules k ≡ Some m → slice_get m.signals x ≡ Some s → IsNarrowSource m s.source

-- ---- settling: each step gives one signal its number

abbrev pub source_number : Module → Reading → Source → ℕ
source_number m r (Assigned v) = word 64 (value m r v)
source_number m r _ = 0

abbrev pub signal_number : Module → Reading → Option Signal → ℕ
signal_number m r None = 0
signal_number m r (Some s) = source_number m r s.source

abbrev pub module_number : Reading → ℕ → Option Module → ℕ
module_number r x None = 0
module_number r x (Some m) = signal_number m r (slice_get m.signals x)

abbrev pub fed : List Module → Choice → Flat → Feed → ℕ
fed modules c f Zero = 0
fed modules c f Enables = c.mask
fed modules c f (Preferred k) = slice_index c.prefs k
fed modules c f (Copied from) = slice_index f.numbers from
fed modules c f (Computed k x spot) = module_number (reading spot f) x (slice_get modules k)

abbrev pub with_numbers : Flat → List ℕ → Flat
with_numbers f numbers = record { numbers = numbers; words = f.words; starts = f.starts }

abbrev pub stepped : List Module → Choice → Flat → Step → List ℕ
stepped modules c f s = slice_set f.numbers s.target (fed modules c f s.feed)

abbrev pub settled : List Module → Choice → Flat → List Step → List ℕ
settled modules c f [] = f.numbers
settled modules c f (s ∷ steps) = settled modules c (with_numbers f (stepped modules c f s)) steps

-- ---- the edge: reads of `now`, changes of the next numbers and of the words

abbrev pub set_number : Spot → Flat → List ℕ → Effect → List ℕ
set_number spot f next (Set x y) = slice_set next (spot.base + x) (slice_index f.numbers (spot.base + y))
set_number spot f next (Store j x y) = next
set_number spot f next (Write text arguments) = next

abbrev pub stored_word : Module → Spot → Flat → Effect → List ℕ
stored_word m spot f (Set x y) = f.words
stored_word m spot f (Store j x y) =
    if nat_lt (slice_index f.numbers (spot.base + x)) (memory_words (slice_get m.memories j))
    then slice_set f.words (slice_index f.starts (spot.memories + j) + slice_index f.numbers (spot.base + x)) (slice_index f.numbers (spot.base + y))
    else f.words
stored_word m spot f (Write text arguments) = f.words

abbrev pub act_number : Spot → Flat → List ℕ → Action → List ℕ
act_number spot f next a = if is_on (reading spot f) a.conditions then set_number spot f next a.effect else next

abbrev pub acted_numbers : Spot → Flat → List ℕ → List Action → List ℕ
acted_numbers spot f next [] = next
acted_numbers spot f next (a ∷ actions) = acted_numbers spot f (act_number spot f next a) actions

abbrev pub with_words : Flat → List ℕ → Flat
with_words f words = record { numbers = f.numbers; words = words; starts = f.starts }

abbrev pub act_word : Module → Spot → Flat → Action → List ℕ
act_word m spot f a = if is_on (reading spot f) a.conditions then stored_word m spot f a.effect else f.words

abbrev pub acted_words : Module → Spot → Flat → List Action → List ℕ
acted_words m spot f [] = f.words
acted_words m spot f (a ∷ actions) = acted_words m spot (with_words f (act_word m spot f a)) actions

-- of all instances
abbrev pub actions_of : Option Module → List Action
actions_of None = []
actions_of (Some m) = m.actions

abbrev pub all_numbers : List Module → Flat → List ℕ → List Part → List ℕ
all_numbers modules f next [] = next
all_numbers modules f next (p ∷ parts) = all_numbers modules f (acted_numbers p.spot f next (actions_of (slice_get modules p.module))) parts

abbrev pub part_words : Part → Flat → Option Module → List ℕ
part_words p f None = f.words
part_words p f (Some m) = acted_words m p.spot f m.actions

abbrev pub all_words : List Module → Flat → List Part → List ℕ
all_words modules f [] = f.words
all_words modules f (p ∷ parts) = all_words modules (with_words f (part_words p f (slice_get modules p.module))) parts

-- ---- what is written

abbrev pub IsNarrowArgument : Module → Argument → Type 0
IsNarrowArgument m (Unsigned x) = Unit {0}
IsNarrowArgument m (Signed x) = IsWide m x

abbrev pub IsNarrowEffect : Module → Effect → Type 0
IsNarrowEffect m (Set x y) = Unit {0}
IsNarrowEffect m (Store j x y) = Unit {0}
IsNarrowEffect m (Write text arguments) = EachOf (IsNarrowArgument m) arguments

abbrev pub IsNarrowAction : Module → Action → Type 0
IsNarrowAction m a = IsNarrowEffect m a.effect

abbrev pub ArePrintable : List Module → Type 0
ArePrintable modules = (k : ℕ) (m : Module) → slice_get modules k ≡ Some m → EachOf (IsNarrowAction m) m.actions

abbrev pub part_written : Part → Flat → Option Module → List ℕ
part_written p f None = []
part_written p f (Some m) = written m (reading p.spot f)

abbrev pub all_written : List Module → Flat → List Part → List ℕ
all_written modules f [] = []
all_written modules f (p ∷ parts) = part_written p f (slice_get modules p.module) ++ all_written modules f parts
