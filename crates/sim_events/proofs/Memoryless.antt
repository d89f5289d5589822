-- What a steady step gives hangs on the words of signals alone.
use Rattle.std.specs.Prelude.{◌≡◌, ℕ, ◌+◌, ◌*◌, ◌^◌, true, List, [], ◌∷◌, Option, Some, None, slice_get, refl}
use Rattle.std.proofs.Common.{ap, ◌∙◌}
use Rattle.hls_ints.specs.Words.{word}
use Rattle.netlist.specs.declared.netlist.Value.{Value}
use Rattle.netlist.specs.declared.netlist.Value.TheVariants.{Copy, Constant, BitwiseNot, Binary, SignedLess, ArithmeticShiftRight, Conditional, Division, SignedDivision, MemoryRead, Select}
use Rattle.netlist.specs.declared.netlist.Value.TheVariants.{Concatenation, Replication}
use Rattle.netlist.specs.declared.netlist.Source.{Source}
use Rattle.netlist.specs.declared.netlist.Source.TheVariants.{Input, Register, Assigned, Port}
use Rattle.netlist.specs.declared.netlist.Signal.{Signal}
use Rattle.netlist.specs.declared.netlist.Module.{Module}
use Rattle.verilog_meaning.specs.Readings.{value, joined, width}
use Rattle.verilog_meaning.specs.Cycles.{Choice}
use Rattle.sim_values.specs.declared.value.Spot.{Spot}
use Rattle.sim_values.specs.declared.settle.Feed.{Feed}
use Rattle.sim_values.specs.declared.settle.Feed.TheVariants.{Zero, Enables, Preferred, Copied, Computed}
use Rattle.sim_values.specs.declared.settle.Step.{Step}
use Rattle.sim_values.specs.Flat.{reading, source_number, signal_number, module_number, fed}
use Rattle.sim_events.specs.Events.{steady_value, steady_source, steady_signal, steady_module, steady, flat_at, Gives, Holds}

module _ (numbers words starts more others : List ℕ) where
  joined_same : (m : Module) (spot : Spot) (xs : List ℕ) (above : ℕ)
      → joined m (reading spot (flat_at numbers words starts)) xs above ≡ joined m (reading spot (flat_at numbers more others)) xs above
  joined_same m spot [] above = refl
  joined_same m spot (x ∷ xs) above = joined_same m spot xs (above * 2 ^ width m x + (reading spot (flat_at numbers words starts)).signal x)

  value_same : (m : Module) (spot : Spot) (v : Value) → steady_value v ≡ true
      → value m (reading spot (flat_at numbers words starts)) v ≡ value m (reading spot (flat_at numbers more others)) v
  value_same m spot (Copy x) e = refl
  value_same m spot (Constant n) e = refl
  value_same m spot (BitwiseNot x) e = refl
  value_same m spot (Binary operator x y) e = refl
  value_same m spot (SignedLess x y) e = refl
  value_same m spot (ArithmeticShiftRight x y) e = refl
  value_same m spot (Conditional c x y) e = refl
  value_same m spot (Division operator x y) e = refl
  value_same m spot (SignedDivision operator x y) e = refl
  value_same m spot (MemoryRead j x) e = absurd cc
  value_same m spot (Select x high low) e = refl
  value_same m spot (Concatenation xs) e = joined_same m spot xs 0
  value_same m spot (Replication n x) e = refl

  source_same : (m : Module) (spot : Spot) (s : Source) → steady_source s ≡ true
      → source_number m (reading spot (flat_at numbers words starts)) s ≡ source_number m (reading spot (flat_at numbers more others)) s
  source_same m spot Input e = refl
  source_same m spot (Register n) e = refl
  source_same m spot (Assigned v) e = ap (word 64) (value_same m spot v e)
  source_same m spot (Port i port) e = refl

  signal_same : (m : Module) (spot : Spot) (s : Option Signal) → steady_signal s ≡ true
      → signal_number m (reading spot (flat_at numbers words starts)) s ≡ signal_number m (reading spot (flat_at numbers more others)) s
  signal_same m spot None e = refl
  signal_same m spot (Some s) e = source_same m spot s.source e

  module_same : (spot : Spot) (x : ℕ) (m : Option Module) → steady_module x m ≡ true
      → module_number (reading spot (flat_at numbers words starts)) x m ≡ module_number (reading spot (flat_at numbers more others)) x m
  module_same spot x None e = refl
  module_same spot x (Some m) e = signal_same m spot (slice_get m.signals x) e

  feed_same : (modules : List Module) (c d : Choice) (feed : Feed) → steady modules feed ≡ true
      → fed modules c (flat_at numbers words starts) feed ≡ fed modules d (flat_at numbers more others) feed
  feed_same modules c d Zero e = refl
  feed_same modules c d Enables e = absurd cc
  feed_same modules c d (Preferred k) e = absurd cc
  feed_same modules c d (Copied from) e = refl
  feed_same modules c d (Computed k x spot) e = module_same spot x (slice_get modules k) e

-- where it gives its word once it does so under each choice
pub steady_holds : (modules : List Module) (numbers words starts : List ℕ) (c : Choice) (s : Step) → steady modules s.feed ≡ true → Gives modules c (flat_at numbers words starts) s
    → Holds modules numbers s
steady_holds modules numbers words starts c s e g = λ d more others. g ∙ feed_same numbers words starts more others modules c d s.feed e
