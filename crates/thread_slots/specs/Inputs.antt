-- The input ports.
use Rattle.std.specs.Prelude.{◌≡◌, ℕ, ◌+◌, ◌<◌, List, length, Some, slice_get, slice_index}
use Rattle.netlist.specs.declared.netlist.Source.TheVariants.{Input}
use Rattle.netlist.specs.declared.netlist.Signal.{Signal}
use Rattle.operator_wires.specs.Gives.{Grows}
use Rattle.operator_wires.specs.declared.wires.Role.TheVariants.{Clock}
use Rattle.operator_wires.specs.Built.{name_at}
use Rattle.thread_slots.specs.declared.inputs.Inputs.{Inputs}
use Rattle.thread_slots.specs.Slots.{StandsAt}

-- ---- inputs

-- the clock, whether the thread is enabled, and whether each of so many cores grants
pub record LaysInputs (cores : ℕ) (old new : List Signal) (inputs : Inputs) : Type 0 where
  pub grows : Grows old new
  pub long : length new ≡ length old + 2 + cores
  pub clock : StandsAt new (length old) 1 Input
  pub clock_named : (s : Signal) → slice_get new (length old) ≡ Some s → s.name ≡ name_at Clock (length old)
  pub enable : inputs.enable ≡ length old + 1
  pub enable_stands : StandsAt new (length old + 1) 1 Input
  pub count : length inputs.grants ≡ cores
  pub grants : (k : ℕ) → k < cores → slice_index inputs.grants k ≡ length old + 2 + k
  pub grants_stand : (k : ℕ) → k < cores → StandsAt new (length old + 2 + k) 1 Input
