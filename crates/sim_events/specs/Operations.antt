-- A step as one operation on places: which words it reads, and how wide they are, stands in the operation itself.
use Rattle.std.specs.Prelude.{◌≡◌, ℕ, ◌+◌, ◌-◌, ◌/◌, ◌%◌, ◌^◌, ◌≤◌, ◌<◌, nat_eq, nat_lt, not, min, if◌then◌else◌, List, map, Option, Some, None, slice_get, slice_index}
use Rattle.hls_ints.specs.Words.{word, word_complement, signed_less, arithmetic_shift}
use Rattle.netlist.specs.declared.netlist.Value.{Value}
use Rattle.netlist.specs.declared.netlist.Value.TheVariants as value
use Rattle.netlist.specs.declared.netlist.Source.{Source}
use Rattle.netlist.specs.declared.netlist.Source.TheVariants.{Assigned}
use Rattle.netlist.specs.declared.netlist.Signal.{Signal}
use Rattle.netlist.specs.declared.netlist.Module.{Module}
use Rattle.verilog_meaning.specs.Readings.{width, memory_words, binary, divided, signed_divided}
use Rattle.verilog_meaning.specs.Cycles.{Choice}
use Rattle.sim_values.specs.declared.value.Spot.{Spot}
use Rattle.sim_values.specs.declared.settle.Feed.{Feed}
use Rattle.sim_values.specs.declared.settle.Feed.TheVariants as feeds
use Rattle.sim_values.specs.declared.settle.Step.{Step}
use Rattle.sim_values.specs.Flat.{Flat, fed}
use Rattle.sim_events.specs.declared.operation.Operation.{Operation}
use Rattle.sim_events.specs.declared.operation.Operation.TheVariants.{Constant, Enables, Preferred, Connected, Copy, Not, Binary, SignedLess, ArithmeticShiftRight, Conditional, Divided, SignedDivided}
use Rattle.sim_events.specs.declared.operation.Operation.TheVariants.{MemoryRead, Select, Joined}
use Rattle.sim_events.specs.declared.operation.Row.{Row}
use Rattle.sim_events.specs.Events.{steady}

-- the place so far behind another. No list of words reaches the last place
abbrev pub place : ℕ → ℕ → ℕ
place base x = min (base + x) (2 ^ 64 - 1)

module _ (m : Module) (spot : Spot) (starts : List ℕ) where
  abbrev pub value_operation : Value → Operation
  value_operation (value.Copy x) = Copy (place spot.base x)
  value_operation (value.Constant n) = Constant (word 64 n)
  value_operation (value.BitwiseNot x) = Not (width m x) (place spot.base x)
  value_operation (value.Binary operator x y) = Binary operator (width m x) (place spot.base x) (place spot.base y)
  value_operation (value.SignedLess x y) = SignedLess (width m x) (place spot.base x) (place spot.base y)
  value_operation (value.ArithmeticShiftRight x y) = ArithmeticShiftRight (width m x) (place spot.base x) (place spot.base y)
  value_operation (value.Conditional c x y) = Conditional (place spot.base c) (place spot.base x) (place spot.base y)
  value_operation (value.Division operator x y) = Divided operator (width m x) (place spot.base x) (place spot.base y)
  value_operation (value.SignedDivision operator x y) = SignedDivided operator (width m x) (place spot.base x) (place spot.base y)
  value_operation (value.MemoryRead j x) = MemoryRead (slice_index starts (spot.memories + j)) (memory_words (slice_get m.memories j)) (place spot.base x)
  value_operation (value.Select x high low) = Select (place spot.base x) high low
  value_operation (value.Concatenation xs) = Joined
  value_operation (value.Replication n x) = Joined

  abbrev pub source_operation : Source → Operation
  source_operation (Assigned v) = value_operation v
  source_operation _ = Constant 0

  abbrev pub signal_operation : Option Signal → Operation
  signal_operation None = Constant 0
  signal_operation (Some s) = source_operation s.source

abbrev pub module_operation : Spot → List ℕ → ℕ → Option Module → Operation
module_operation spot starts x None = Constant 0
module_operation spot starts x (Some m) = signal_operation m spot starts (slice_get m.signals x)

-- where each memory starts is known before
abbrev pub operation_of : List Module → List ℕ → Feed → Operation
operation_of modules starts feeds.Zero = Constant 0
operation_of modules starts feeds.Enables = Enables
operation_of modules starts (feeds.Preferred k) = Preferred k
operation_of modules starts (feeds.Copied from) = Connected from
operation_of modules starts (feeds.Computed k x spot) = module_operation spot starts x (slice_get modules k)

abbrev pub row_of : List Module → List ℕ → Step → Row
row_of modules starts s = record { target = s.target; moving = not (steady modules s.feed); operation = operation_of modules starts s.feed }

abbrev pub AreRows : List Module → List ℕ → List Step → List Row → Type 0
AreRows modules starts steps rows = rows ≡ map (row_of modules starts) steps

-- what an operation gives. One that joins is left to the feed
abbrev pub result_of : List Module → Choice → Flat → Feed → Operation → ℕ
result_of modules c f feed (Constant n) = n
result_of modules c f feed Enables = c.mask
result_of modules c f feed (Preferred k) = slice_index c.prefs k
result_of modules c f feed (Connected x) = slice_index f.numbers x
result_of modules c f feed (Copy x) = word 64 (slice_index f.numbers x)
result_of modules c f feed (Not w x) = word 64 (word_complement w (slice_index f.numbers x))
result_of modules c f feed (Binary operator w x y) = word 64 (binary operator w (slice_index f.numbers x) (slice_index f.numbers y))
result_of modules c f feed (SignedLess w x y) = word 64 (signed_less w (slice_index f.numbers x) (slice_index f.numbers y))
result_of modules c f feed (ArithmeticShiftRight w x y) = word 64 (arithmetic_shift w (slice_index f.numbers x) (slice_index f.numbers y))
result_of modules c f feed (Conditional d x y) = word 64 (if nat_eq (slice_index f.numbers d) 0 then slice_index f.numbers y else slice_index f.numbers x)
result_of modules c f feed (Divided operator w x y) = word 64 (divided operator w (slice_index f.numbers x) (slice_index f.numbers y))
result_of modules c f feed (SignedDivided operator w x y) = word 64 (signed_divided operator w (slice_index f.numbers x) (slice_index f.numbers y))
result_of modules c f feed (MemoryRead start size x) = word 64 (if nat_lt (slice_index f.numbers x) size then slice_index f.words (start + slice_index f.numbers x) else 0)
result_of modules c f feed (Select x high low) = word 64 ((slice_index f.numbers x / 2 ^ low) % 2 ^ (high + 1 - low))
result_of modules c f feed Joined = fed modules c f feed

abbrev pub IsWidth : ℕ → Type 0
IsWidth w = (1 ≤ w) × (w ≤ 64)

-- an operation has operands of 1 to 64 bits
abbrev pub IsNarrowOperation : Operation → Type 0
IsNarrowOperation (Not w x) = IsWidth w
IsNarrowOperation (Binary operator w x y) = IsWidth w
IsNarrowOperation (SignedLess w x y) = IsWidth w
IsNarrowOperation (ArithmeticShiftRight w x y) = IsWidth w
IsNarrowOperation (Divided operator w x y) = IsWidth w
IsNarrowOperation (SignedDivided operator w x y) = IsWidth w
IsNarrowOperation (Select x high low) = (low ≤ high) × (high < 64)
IsNarrowOperation _ = Unit {0}
