-- Whether an operation is at work.
use Rattle.std.specs.Prelude.{◌≡◌, ℕ, ◌+◌, ◌^◌, ◌<◌, ◌≤◌, nat_le, Bool, true, ◌&&◌, List}
use Rattle.hls_ints.specs.Residues.{bit_of}
use Rattle.netlist.specs.declared.netlist.Signal.{Signal}
use Rattle.netlist.specs.declared.netlist.Module.{Module}
use Rattle.verilog_meaning.specs.Readings.{Reading, width}
use Rattle.circuit.specs.Modules.{Obeys}
use Rattle.operator_wires.specs.Gives.{Grows}
use Rattle.operator_wires.specs.Built.{Base, IsEarlier, Adds}
use Rattle.block_datapath.specs.declared.registers.Registers.{Registers}
use Rattle.block_datapath.specs.declared.states.Moment.{Moment}
use Rattle.block_datapath.specs.Chains.{IsMoment}

-- from a state to so many ones after it
abbrev pub is_within : ℕ → ℕ → ℕ → Bool
is_within start further s = nat_le start s && nat_le s (start + further)

-- a bit that tells whether the slot is at a stage in one of these states
pub record TellsWork (old new : List Signal) (registers : Registers) (end : Moment) (start further place : ℕ) : Type 0 where
  pub grows : Grows old new
  pub wide : (m : Module) → Grows new m.signals → width m end.at ≡ 1 → width m place ≡ 1
  pub shows : (m : Module) (r : Reading) (s : ℕ) → Grows new m.signals → Obeys m r → IsMoment m r registers end.at end.states true s → end.states < 2 ^ 64 →
      start + further < end.states → r.signal place ≡ bit_of (is_within start further s)
  -- not where the slot is at another stage
  pub rests : (m : Module) (r : Reading) → Grows new m.signals → Obeys m r → width m end.at ≡ 1 → r.signal end.at ≡ 0 → r.signal place ≡ 0
  pub wired : (base : Base) → IsEarlier old base registers.state.register registers.state.width → IsEarlier old base end.at 1 → end.states ≤ 2 ^ registers.state.width →
      Adds base old new 1 place
