-- Words that banks tell on inputs, and the one of them that an index names.
use Rattle.std.specs.Prelude.{◌≡◌, ℕ, ◌+◌, ◌%◌, ◌^◌, ◌<◌, ◌≤◌, List, Some, slice_get, ℤ}
use Rattle.hls_ints.specs.Residues.{residue_of}
use Rattle.hls_ints.specs.Types.{IntegerType}
use Rattle.bank_partition.specs.declared.banks.Spread.{Spread}
use Rattle.block_ir.specs.declared.operand.Operand.{Operand}
use Rattle.netlist.specs.declared.netlist.Signal.{Signal}
use Rattle.netlist.specs.declared.netlist.Module.{Module}
use Rattle.verilog_meaning.specs.Readings.{Reading, width}
use Rattle.operator_wires.specs.Modules.{Obeys}
use Rattle.operator_wires.specs.declared.words.Word.{Word}
use Rattle.operator_wires.specs.Gives.{Grows}
use Rattle.operator_wires.specs.Words.{IsWord}
use Rattle.operator_wires.specs.Built.{Base, IsEarlier, Adds}
use Rattle.thread_promise.specs.Globals.{IsSmallPower}
use Rattle.block_datapath.specs.declared.registers.Held.{Held}
use Rattle.block_datapath.specs.declared.registers.Registers.{Registers}
use Rattle.block_datapath.specs.declared.operands.Given.{Given}
use Rattle.block_datapath.specs.Seen.{SeesSource}
use Rattle.block_datapath.specs.Operations.{seen_value, IsTold}
use Rattle.block_datapath.specs.Wired.{AreRegisters}

-- the input of bank n tells a number of w bits
pub record TellsNumber (registers : Registers) (m : Module) (r : Reading) (n w number : ℕ) : Type 0 where
  pub held : Held
  pub listed : slice_get registers.words n ≡ Some held
  pub says : held.width ≡ w
  pub wide : width m held.register ≡ w
  pub shows : r.signal held.register ≡ number

module _ (old new : List Signal) (registers : Registers) where
  -- a signal shows what bank n tells, as wide
  pub record ShowsNumber (n w place : ℕ) : Type 0 where
    pub grows : Grows old new
    pub shows : (m : Module) (r : Reading) (number : ℕ) → Grows new m.signals → Obeys m r → TellsNumber registers m r n w number →
        (width m place ≡ w) × (r.signal place ≡ number)

  module _ (s : Spread) (w index : ℕ) where
    -- a signal shows what the bank of an index tells, if it is one of the first n of a global
    pub record ChoosesSome (bits n place : ℕ) : Type 0 where
      pub grows : Grows old new
      pub shows : (m : Module) (r : Reading) (number : ℕ) → Grows new m.signals → Obeys m r → width m index ≡ 64 → n < 1 + 2 ^ bits → s.first + s.count < 2 ^ 64 → n ≤ s.count →
          r.signal index % 2 ^ bits < n → TellsNumber registers m r (s.first + r.signal index % 2 ^ bits) w number → (width m place ≡ w) × (r.signal place ≡ number)

    -- and what the bank of an index tells
    pub record ChoosesWord (place : ℕ) : Type 0 where
      pub grows : Grows old new
      pub shows : (m : Module) (r : Reading) (number : ℕ) → Grows new m.signals → Obeys m r → width m index ≡ 64 → IsSmallPower s.count → s.first + s.count < 2 ^ 64 →
          TellsNumber registers m r (s.first + r.signal index % s.count) w number → (width m place ≡ w) × (r.signal place ≡ number)

  -- a word of the value that the bank of an operand tells
  pub record TakesWord (types : List IntegerType) (values : List Given) (state : ℕ) (s : Spread) (ty : IntegerType) (index : Operand) (out : Word) : Type 0 where
    pub grows : Grows old new
    pub shows : (m : Module) (r : Reading) (variables given : ℕ → ℤ) (v : ℤ) → Grows new m.signals → Obeys m r →
        SeesSource m r registers types values state variables given index.source → IsSmallPower s.count → s.first + s.count < 2 ^ 64 →
        IsTold registers m r (s.first + residue_of 64 (seen_value variables given index) % s.count) ty v → IsWord m r out ty v

  -- ---- how they are put together

  abbrev pub IsNumberWire : ℕ → ℕ → Type 0
  IsNumberWire w place =
      (base : Base) (types : List IntegerType) → AreRegisters old base types registers → ((n : ℕ) (h : Held) → slice_get registers.words n ≡ Some h → base.first ≤ h.register) →
      1 ≤ w →
      w ≤ 64 → Adds base old new w place

  abbrev pub IsChosenWord : Spread → ℕ → ℕ → ℕ → Type 0
  IsChosenWord s w index place =
      (base : Base) (types : List IntegerType) → AreRegisters old base types registers → ((n : ℕ) (h : Held) → slice_get registers.words n ≡ Some h → base.first ≤ h.register) →
      IsEarlier old base index 64 → IsSmallPower s.count → 1 ≤ w → w ≤ 64 → Adds base old new w place
