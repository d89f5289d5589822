-- What a request says: which object it names, its number, and its values.
use Rattle.std.specs.Prelude.{◌≡◌, ◌≢◌, ℕ, suc, ◌<◌, ◌≤◌, false, List, length, Some, slice_get, ℤ}
use Rattle.hls_ints.specs.Residues.{residue_of}
use Rattle.hls_ints.specs.Types.{IntegerType, HasType}
use Rattle.block_ir.specs.declared.code.ActOperand.{ActOperand}
use Rattle.block_ir.specs.declared.code.ActOperand.TheVariants as act_operand
use Rattle.block_ir.specs.declared.code.ThreadCode.{ThreadCode}
use Rattle.netlist.specs.declared.netlist.Signal.{Signal}
use Rattle.netlist.specs.declared.netlist.Module.{Module}
use Rattle.verilog_meaning.specs.Readings.{Reading}
use Rattle.circuit.specs.Modules.{Obeys}
use Rattle.operator_wires.specs.Gives.{Grows}
use Rattle.operator_wires.specs.Words.{IsWord, resized_word}
use Rattle.operator_wires.specs.declared.words.Word.{Word}
use Rattle.block_ir.specs.Asked.{act_value}
use Rattle.block_datapath.specs.declared.registers.Registers.{Registers}
use Rattle.block_datapath.specs.Seen.{IsVariable}
use Rattle.block_datapath.specs.Chains.{next_number}
use Rattle.operator_wires.specs.Built.{Base, IsEarlier, Adds, AddsWord}
use Rattle.thread_slots.specs.Wired.{AreSlots, LinkFields, KeepsFields}

-- ---- acts

-- an operand of an act is of the type that it says
abbrev pub IsTypedActOperand : ThreadCode → ActOperand → Type 0
IsTypedActOperand code (act_operand.Constant ty v) = HasType ty v
IsTypedActOperand code (act_operand.Variable x ty) = slice_get code.variables x ≡ Some ty

abbrev pub act_type : ActOperand → IntegerType
act_type (act_operand.Constant ty v) = ty
act_type (act_operand.Variable x ty) = ty

module _ (code : ThreadCode) (registers : Registers) where
  -- the variables of a reading
  abbrev pub SeesVariables : Module → Reading → (ℕ → ℤ) → Type 0
  SeesVariables m r variables = (x : ℕ) (ty : IntegerType) → slice_get code.variables x ≡ Some ty → IsVariable m r registers code.variables x ty (variables x)

  -- the word of an operand of an act
  pub record ShowsActOperand (old new : List Signal) (operand : ActOperand) (out : Word) : Type 0 where
    pub grows : Grows old new
    pub shows : (m : Module) (r : Reading) (variables : ℕ → ℤ) → Grows new m.signals → Obeys m r → SeesVariables m r variables → IsTypedActOperand code operand →
        IsWord m r out (act_type operand) (act_value variables operand)
    pub wired : (base : Base) → AreSlots base old code registers → AddsWord base old new (act_type operand) out

  -- where a bit is set an object is named by this value
  pub record NamesObject (old new : List Signal) (at before : ℕ) (v : ActOperand) (after : ℕ) : Type 0 where
    pub grows : Grows old new
    pub rests : (m : Module) (r : Reading) → Grows new m.signals → Obeys m r → r.signal at ≡ 0 → r.signal after ≡ r.signal before
    pub names : (m : Module) (r : Reading) (variables : ℕ → ℤ) → Grows new m.signals → Obeys m r → r.signal at ≡ 1 → SeesVariables m r variables → IsTypedActOperand code v →
        r.signal after ≡ residue_of 64 (act_value variables v)
    pub wired : (base : Base) → AreSlots base old code registers → IsEarlier old base at 1 → IsEarlier old base before 64 → Adds base old new 64 after

  -- where a bit is set the fields of a request are these values, from the second field on: the first n
  pub record AsksValues (old new : List Signal) (at : ℕ) (before after : List ℕ) (values : List ActOperand) (n : ℕ) : Type 0 where
    pub grows : Grows old new
    pub count : length after ≡ length before
    pub rests : (m : Module) (r : Reading) (x : ℕ) → Grows new m.signals → Obeys m r → r.signal at ≡ 0 → x < length before → next_number r after x ≡ next_number r before x
    pub first : (m : Module) (r : Reading) → Grows new m.signals → Obeys m r → 0 < length before → next_number r after 0 ≡ next_number r before 0
    pub asks : (m : Module) (r : Reading) (variables : ℕ → ℤ) (j : ℕ) (v : ActOperand) → Grows new m.signals → Obeys m r → r.signal at ≡ 1 → SeesVariables m r variables → j < n →
        slice_get values j ≡ Some v → IsTypedActOperand code v → suc j < length before → next_number r after (suc j) ≡ residue_of 64 (act_value variables v)
    pub wired : (base : Base) (site_width : ℕ) → AreSlots base old code registers → IsEarlier old base at 1 → LinkFields base old site_width before →
        KeepsFields base old new site_width after

  -- one of them, in field number j + 1
  pub record AsksValue (old new : List Signal) (at : ℕ) (before after : List ℕ) (j : ℕ) (v : ActOperand) : Type 0 where
    pub grows : Grows old new
    pub count : length after ≡ length before
    pub rests : (m : Module) (r : Reading) (x : ℕ) → Grows new m.signals → Obeys m r → r.signal at ≡ 0 → x < length before → next_number r after x ≡ next_number r before x
    pub others : (m : Module) (r : Reading) (x : ℕ) → Grows new m.signals → Obeys m r → x ≢ suc j → x < length before → next_number r after x ≡ next_number r before x
    pub asks : (m : Module) (r : Reading) (variables : ℕ → ℤ) → Grows new m.signals → Obeys m r → r.signal at ≡ 1 → SeesVariables m r variables → IsTypedActOperand code v →
        suc j < length before → next_number r after (suc j) ≡ residue_of 64 (act_value variables v)
    pub wired : (base : Base) (site_width : ℕ) → AreSlots base old code registers → IsEarlier old base at 1 → LinkFields base old site_width before →
        KeepsFields base old new site_width after

-- where a bit is set the first field is a number
pub record AsksNumber (old new : List Signal) (at : ℕ) (before after : List ℕ) (w number : ℕ) : Type 0 where
  pub grows : Grows old new
  pub count : length after ≡ length before
  pub rests : (m : Module) (r : Reading) (x : ℕ) → Grows new m.signals → Obeys m r → r.signal at ≡ 0 → x < length before → next_number r after x ≡ next_number r before x
  pub asks : (m : Module) (r : Reading) → Grows new m.signals → Obeys m r → r.signal at ≡ 1 → 0 < length before → next_number r after 0 ≡ resized_word false 32 w number
  pub wired : (base : Base) → IsEarlier old base at 1 → 1 ≤ w → w ≤ 64 → LinkFields base old w before → KeepsFields base old new w after
