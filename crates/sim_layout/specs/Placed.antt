-- Where the words of each instance stand, and what is in them at the start.
use Rattle.std.specs.Prelude.{◌≡◌, ℕ, ◌+◌, ◌<◌, Bool, true, false, List, [], ◌∷◌, ◌++◌, length, slice_index, slice_index_or, Option, Some, None, slice_get}
use Rattle.netlist.specs.declared.netlist.Source.{Source}
use Rattle.netlist.specs.declared.netlist.Source.TheVariants.{Register}
use Rattle.netlist.specs.declared.netlist.Signal.{Signal}
use Rattle.netlist.specs.declared.netlist.Memory.{Memory}
use Rattle.netlist.specs.declared.netlist.Module.{Module}
use Rattle.verilog_meaning.specs.Readings.{initial_number, or_zero, memory_words}
use Rattle.sim_values.specs.declared.edge.Part.{Part}
use Rattle.sim_layout.specs.Running.{IsPart}

abbrev pub is_register : Source → Bool
is_register (Register n) = true
is_register _ = false

abbrev pub numbers_in : List Signal → List ℕ
numbers_in [] = []
numbers_in (s ∷ signals) = initial_number s.source ∷ numbers_in signals

abbrev pub frees_in : List Signal → List Bool
frees_in [] = []
frees_in (s ∷ signals) = is_register s.source ∷ frees_in signals

-- where memories start, the first at a place
abbrev pub starts_in : ℕ → List Memory → List ℕ
starts_in place [] = []
starts_in place (m ∷ memories) = place ∷ starts_in (place + length m.initial) memories

abbrev pub words_in : List Memory → List ℕ
words_in [] = []
words_in (m ∷ memories) = m.initial ++ words_in memories

abbrev pub numbers_of : Option Module → List ℕ
numbers_of None = []
numbers_of (Some m) = numbers_in m.signals

abbrev pub frees_of : Option Module → List Bool
frees_of None = []
frees_of (Some m) = frees_in m.signals

abbrev pub starts_of : ℕ → Option Module → List ℕ
starts_of place None = []
starts_of place (Some m) = starts_in place m.memories

abbrev pub words_of : Option Module → List ℕ
words_of None = []
words_of (Some m) = words_in m.memories

pub record IsPlaced (modules : List Module) (kinds children : List ℕ) (parts : List Part) (numbers : List ℕ) (free : List Bool) (words starts : List ℕ) : Type 0 where
  pub each : (q : ℕ) (p : Part) → slice_get parts q ≡ Some p → (slice_get kinds q ≡ Some p.module) × (p.children ≡ slice_index children q)
  pub long : length free ≡ length numbers
  pub room : (q : ℕ) (p : Part) (m : Module) (x : ℕ) → IsPart modules parts q p m → x < length m.signals → p.spot.base + x < length numbers
  pub begins : (q : ℕ) (p : Part) (m : Module) (x : ℕ) (s : Signal) → IsPart modules parts q p m → slice_get m.signals x ≡ Some s
      → (slice_index numbers (p.spot.base + x) ≡ initial_number s.source) × (slice_index_or free (p.spot.base + x) false ≡ is_register s.source)
  pub signals : (q o : ℕ) (p other : Part) (m k : Module) (x y : ℕ) → IsPart modules parts q p m → IsPart modules parts o other k → x < length m.signals → y < length k.signals
      → p.spot.base + x ≡ other.spot.base + y → q ≡ o
  pub memories : (q : ℕ) (p : Part) (m : Module) (j : ℕ) → IsPart modules parts q p m → j < length m.memories → p.spot.memories + j < length starts
  pub word_room : (q : ℕ) (p : Part) (m : Module) (j x : ℕ) → IsPart modules parts q p m → x < memory_words (slice_get m.memories j)
      → slice_index starts (p.spot.memories + j) + x < length words
  pub word_begins : (q : ℕ) (p : Part) (m : Module) (j x : ℕ) (s : Memory) → IsPart modules parts q p m → slice_get m.memories j ≡ Some s → x < length s.initial
      → slice_index words (slice_index starts (p.spot.memories + j) + x) ≡ or_zero (slice_get s.initial x)
  pub words_apart : (q o : ℕ) (p other : Part) (m k : Module) (j i x y : ℕ) → IsPart modules parts q p m → IsPart modules parts o other k
      → x < memory_words (slice_get m.memories j) → y < memory_words (slice_get k.memories i)
      → slice_index starts (p.spot.memories + j) + x ≡ slice_index starts (other.spot.memories + i) + y → (q ≡ o) × (j ≡ i)
