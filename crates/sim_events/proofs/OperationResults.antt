-- The operation of a feed is narrow, and gives what the feed gives.
use Rattle.std.specs.Prelude.{◌≡◌, ℕ, ◌+◌, ◌-◌, ◌/◌, ◌%◌, ◌^◌, ◌<◌, nat_eq, nat_lt, if◌then◌else◌, List, length, Option, Some, None, slice_get, slice_index, refl}
use Rattle.std.proofs.Common.{ap, sym, ◌∙◌, arith, ⊎_elim}
use Rattle.std.proofs.lemmas.List.{get_or_past}
use Rattle.std.proofs.Math.Nat.{min-eq_left, min-eq_right}
use Rattle.hls_ints.specs.Words.{word, word_complement, signed_less, arithmetic_shift}
use Rattle.netlist.specs.declared.netlist.Value.{Value}
use Rattle.netlist.specs.declared.netlist.Value.TheVariants as values
use Rattle.netlist.specs.declared.netlist.Source.{Source}
use Rattle.netlist.specs.declared.netlist.Source.TheVariants.{Input, Register, Assigned, Port}
use Rattle.netlist.specs.declared.netlist.Signal.{Signal}
use Rattle.netlist.specs.declared.netlist.Module.{Module}
use Rattle.verilog_meaning.specs.Readings.{width, memory_words, binary, divided, signed_divided}
use Rattle.verilog_meaning.specs.Cycles.{Choice}
use Rattle.sim_values.specs.declared.value.Spot.{Spot}
use Rattle.sim_values.specs.declared.settle.Feed.{Feed}
use Rattle.sim_values.specs.declared.settle.Feed.TheVariants.{Zero, Enables, Preferred, Copied, Computed}
use Rattle.sim_values.specs.Flat.{Flat, IsNarrow, IsNarrowSource, AreNarrow, reading, source_number, signal_number, module_number, fed}
use Rattle.sim_values.proofs.Trees.{front_or_back}
use Rattle.sim_events.specs.Operations.{place, value_operation, source_operation, signal_operation, module_operation, operation_of, result_of, IsNarrowOperation}

-- no word stands past the last place
pub word_at_place : (numbers : List ℕ) → length numbers < 2 ^ 64 → (base x : ℕ) → slice_index numbers (place base x) ≡ slice_index numbers (base + x)
word_at_place numbers few base x = ⊎_elim
    (λ (inside : base + x < 2 ^ 64). ap (slice_index numbers) (min-eq_left (omega (arith, inside))))
    (λ past.
    let d = past.1 in
    let at : slice_index numbers (place base x) ≡ 0 = ap (slice_index numbers) (min-eq_right (omega (arith, d))) ∙ get_or_past numbers (2 ^ 64 - 1) 0 (omega (arith, few)) in
    at ∙ sym (get_or_past numbers (base + x) 0 (omega (arith, d, few))))
    (front_or_back (base + x) (2 ^ 64))

module _ (modules : List Module) (c : Choice) (f : Flat) (few : length f.numbers < 2 ^ 64) where
  abbrev At : ℕ → ℕ → ℕ
  At base x = slice_index f.numbers (place base x)

  value_gives : (feed : Feed) (m : Module) (spot : Spot) (s : Source) → source_number m (reading spot f) s ≡ fed modules c f feed
      → result_of modules c f feed (source_operation m spot f.starts s) ≡ fed modules c f feed
  value_gives feed m spot Input is = is
  value_gives feed m spot (Register n) is = is
  value_gives feed m spot (Port i port) is = is
  value_gives feed m spot (Assigned (values.Copy x)) is = ap (λ z. word 64 z) (word_at_place f.numbers few spot.base x) ∙ is
  value_gives feed m spot (Assigned (values.Constant n)) is = is
  value_gives feed m spot (Assigned (values.BitwiseNot x)) is = ap (λ z. word 64 (word_complement (width m x) z)) (word_at_place f.numbers few spot.base x) ∙ is
  value_gives feed m spot (Assigned (values.Binary operator x y)) is =
      ap (λ z. word 64 (binary operator (width m x) z (At spot.base y))) (word_at_place f.numbers few spot.base x)
      ∙ ap (λ z. word 64 (binary operator (width m x) (slice_index f.numbers (spot.base + x)) z)) (word_at_place f.numbers few spot.base y) ∙ is
  value_gives feed m spot (Assigned (values.SignedLess x y)) is =
      ap (λ z. word 64 (signed_less (width m x) z (At spot.base y))) (word_at_place f.numbers few spot.base x)
      ∙ ap (λ z. word 64 (signed_less (width m x) (slice_index f.numbers (spot.base + x)) z)) (word_at_place f.numbers few spot.base y) ∙ is
  value_gives feed m spot (Assigned (values.ArithmeticShiftRight x y)) is =
      ap (λ z. word 64 (arithmetic_shift (width m x) z (At spot.base y))) (word_at_place f.numbers few spot.base x)
      ∙ ap (λ z. word 64 (arithmetic_shift (width m x) (slice_index f.numbers (spot.base + x)) z)) (word_at_place f.numbers few spot.base y) ∙ is
  value_gives feed m spot (Assigned (values.Conditional d x y)) is =
      ap (λ z. word 64 (if nat_eq z 0 then At spot.base y else At spot.base x)) (word_at_place f.numbers few spot.base d)
      ∙ ap (λ z. word 64 (if nat_eq (slice_index f.numbers (spot.base + d)) 0 then At spot.base y else z)) (word_at_place f.numbers few spot.base x)
      ∙ ap (λ z. word 64 (if nat_eq (slice_index f.numbers (spot.base + d)) 0 then z else slice_index f.numbers (spot.base + x))) (word_at_place f.numbers few spot.base y) ∙ is
  value_gives feed m spot (Assigned (values.Division operator x y)) is =
      ap (λ z. word 64 (divided operator (width m x) z (At spot.base y))) (word_at_place f.numbers few spot.base x)
      ∙ ap (λ z. word 64 (divided operator (width m x) (slice_index f.numbers (spot.base + x)) z)) (word_at_place f.numbers few spot.base y) ∙ is
  value_gives feed m spot (Assigned (values.SignedDivision operator x y)) is =
      ap (λ z. word 64 (signed_divided operator (width m x) z (At spot.base y))) (word_at_place f.numbers few spot.base x)
      ∙ ap (λ z. word 64 (signed_divided operator (width m x) (slice_index f.numbers (spot.base + x)) z)) (word_at_place f.numbers few spot.base y) ∙ is
  value_gives feed m spot (Assigned (values.MemoryRead j x)) is =
      ap (λ z. word 64 (if nat_lt z (memory_words (slice_get m.memories j)) then slice_index f.words (slice_index f.starts (spot.memories + j) + z) else 0))
      (word_at_place f.numbers few spot.base x) ∙ is
  value_gives feed m spot (Assigned (values.Select x high low)) is = ap (λ z. word 64 ((z / 2 ^ low) % 2 ^ (high + 1 - low))) (word_at_place f.numbers few spot.base x) ∙ is
  value_gives feed m spot (Assigned (values.Concatenation xs)) is = refl
  value_gives feed m spot (Assigned (values.Replication n x)) is = refl

  signal_gives : (feed : Feed) (m : Module) (spot : Spot) (s : Option Signal) → signal_number m (reading spot f) s ≡ fed modules c f feed
      → result_of modules c f feed (signal_operation m spot f.starts s) ≡ fed modules c f feed
  signal_gives feed m spot None is = is
  signal_gives feed m spot (Some s) is = value_gives feed m spot s.source is

  module_gives : (feed : Feed) (spot : Spot) (x : ℕ) (m : Option Module) → module_number (reading spot f) x m ≡ fed modules c f feed
      → result_of modules c f feed (module_operation spot f.starts x m) ≡ fed modules c f feed
  module_gives feed spot x None is = is
  module_gives feed spot x (Some m) is = signal_gives feed m spot (slice_get m.signals x) is

  pub operation_gives : (feed : Feed) → result_of modules c f feed (operation_of modules f.starts feed) ≡ fed modules c f feed
  operation_gives Zero = refl
  operation_gives Enables = refl
  operation_gives (Preferred k) = refl
  operation_gives (Copied from) = refl
  operation_gives (Computed k x spot) = module_gives (Computed k x spot) spot x (slice_get modules k) refl

module _ (modules : List Module) (starts : List ℕ) (narrow : AreNarrow modules) where
  narrow_value : (m : Module) (spot : Spot) (v : Value) → IsNarrow m v → IsNarrowOperation (value_operation m spot starts v)
  narrow_value m spot (values.Copy x) n = tt
  narrow_value m spot (values.Constant k) n = tt
  narrow_value m spot (values.BitwiseNot x) n = n.wide.0
  narrow_value m spot (values.Binary operator x y) n = n.wide.0
  narrow_value m spot (values.SignedLess x y) n = n.wide.0
  narrow_value m spot (values.ArithmeticShiftRight x y) n = n.wide.0
  narrow_value m spot (values.Conditional d x y) n = tt
  narrow_value m spot (values.Division operator x y) n = n.wide.0
  narrow_value m spot (values.SignedDivision operator x y) n = n.wide.0
  narrow_value m spot (values.MemoryRead j x) n = tt
  narrow_value m spot (values.Select x high low) n = n.room
  narrow_value m spot (values.Concatenation xs) n = tt
  narrow_value m spot (values.Replication k x) n = tt

  narrow_source : (m : Module) (spot : Spot) (s : Source) → IsNarrowSource m s → IsNarrowOperation (source_operation m spot starts s)
  narrow_source m spot Input n = tt
  narrow_source m spot (Register k) n = tt
  narrow_source m spot (Assigned v) n = narrow_value m spot v n
  narrow_source m spot (Port i port) n = tt

  narrow_signal : (m : Module) (spot : Spot) (s : Option Signal) → ((t : Signal) → s ≡ Some t → IsNarrowSource m t.source) → IsNarrowOperation (signal_operation m spot starts s)
  narrow_signal m spot None n = tt
  narrow_signal m spot (Some s) n = narrow_source m spot s.source (n s refl)

  narrow_module : (spot : Spot) (k x : ℕ) (m : Option Module) → slice_get modules k ≡ m → IsNarrowOperation (module_operation spot starts x m)
  narrow_module spot k x None at = tt
  narrow_module spot k x (Some m) at = narrow_signal m spot (slice_get m.signals x) (λ s there. narrow k x m s at there)

  pub operation_narrow : (feed : Feed) → IsNarrowOperation (operation_of modules starts feed)
  operation_narrow Zero = tt
  operation_narrow Enables = tt
  operation_narrow (Preferred k) = tt
  operation_narrow (Copied from) = tt
  operation_narrow (Computed k x spot) = narrow_module spot k x (slice_get modules k) refl
