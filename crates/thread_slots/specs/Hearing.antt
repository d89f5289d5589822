-- Words that banks tell, heard where a bit is set.
use Rattle.std.specs.Prelude.{◌≡◌, ℕ, ◌<◌, ◌≤◌, nat_eq, if◌then◌else◌, List, length, Some, slice_get}
use Rattle.netlist.specs.declared.netlist.Signal.{Signal}
use Rattle.netlist.specs.declared.netlist.Module.{Module}
use Rattle.verilog_meaning.specs.Readings.{Reading, width}
use Rattle.circuit.specs.Modules.{Obeys}
use Rattle.operator_wires.specs.Gives.{Grows}
use Rattle.operator_wires.specs.Built.{Base, IsEarlier, AreWires}
use Rattle.block_datapath.specs.declared.registers.Held.{Held}

-- a signal of the width of a word shows the word where a bit is set, and else 0
pub record IsHeard (new : List Signal) (need : ℕ) (word out : Held) : Type 0 where
  pub says : out.width ≡ word.width
  pub wide : (m : Module) → Grows new m.signals → width m out.register ≡ word.width
  pub shows : (m : Module) (r : Reading) → Grows new m.signals → Obeys m r → r.signal out.register ≡ (if nat_eq (r.signal need) 0 then 0 else r.signal word.register)

-- where the bit is not set each signal behind others is 0
abbrev pub IsSilent : List Signal → List Signal → ℕ → Type 0
IsSilent old new need = (m : Module) (r : Reading) (x : ℕ) → Grows new m.signals → Obeys m r → length old ≤ x → x < length new → r.signal need ≡ 0 → r.signal x ≡ 0

-- wires are added, and one of them, on whatever base is not past the earlier signals, is so wide
pub record AddsBehind (base : Base) (old new : List Signal) (out : Held) : Type 0 where
  pub wires : AreWires base old new
  pub stands : (later : Base) → later.first ≤ length old → IsEarlier new later out.register out.width

-- ONE WORD is heard
pub record HearsWord (old new : List Signal) (need : ℕ) (word out : Held) : Type 0 where
  pub grows : Grows old new
  pub heard : IsHeard new need word out
  pub silent : IsSilent old new need
  pub wired : (base : Base) → IsEarlier old base need 1 → IsEarlier old base word.register word.width → AddsBehind base old new out

-- THE FIRST n WORDS are heard
pub record HearsWords (old new : List Signal) (need : ℕ) (words : List Held) (n : ℕ) (outs : List Held) : Type 0 where
  pub grows : Grows old new
  pub silent : IsSilent old new need
  pub count : length outs ≡ n
  pub each : (k : ℕ) (word : Held) → k < n → slice_get words k ≡ Some word → (out : Held) × (slice_get outs k ≡ Some out) × IsHeard new need word out

-- wires are added, and these are among them
pub record AddAllBehind (base : Base) (old new : List Signal) (outs : List Held) : Type 0 where
  pub wires : AreWires base old new
  pub stand : (later : Base) → later.first ≤ length old → (k : ℕ) (out : Held) → slice_get outs k ≡ Some out → IsEarlier new later out.register out.width

abbrev pub AddsHeard : List Signal → List Signal → ℕ → List Held → List Held → Type 0
AddsHeard old new need words outs =
    (base : Base) → IsEarlier old base need 1 → ((k : ℕ) (word : Held) → slice_get words k ≡ Some word → IsEarlier old base word.register word.width) →
    AddAllBehind base old new outs
