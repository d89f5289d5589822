-- What operands see: variables in their registers, and values of earlier operations on wires or in registers.
use Rattle.std.specs.Prelude.{◌≡◌, ◌≢◌, ℕ, ◌%◌, ◌^◌, ◌<◌, ◌≤◌, List, Option, Some, None, slice_get, ℤ, false}
use Rattle.netlist.specs.declared.netlist.Signal.{Signal}
use Rattle.netlist.specs.declared.netlist.Module.{Module}
use Rattle.verilog_meaning.specs.Readings.{Reading, width}
use Rattle.hls_ints.specs.Residues.{residue_of}
use Rattle.hls_ints.specs.Types.{IntegerType, HasType, width_of}
use Rattle.block_ir.specs.declared.operand.Source.{Source}
use Rattle.block_ir.specs.declared.operand.Source.TheVariants.{Constant, Variable, Value}
use Rattle.block_ir.specs.declared.operand.Operand.{Operand}
use Rattle.planned_block.specs.Block.{operand_value, Operand as PlannedOperand}
use Rattle.thread_promise.specs.View.{source_view, operand_view, converted_to}
use Rattle.operator_wires.specs.Modules.{Obeys}
use Rattle.operator_wires.specs.declared.words.Word.{Word}
use Rattle.operator_wires.specs.Gives.{Grows}
use Rattle.operator_wires.specs.Words.{IsWord, Resizes}
use Rattle.block_datapath.specs.declared.registers.Held.{Held}
use Rattle.block_datapath.specs.declared.registers.Registers.{Registers}
use Rattle.block_datapath.specs.declared.operands.Given.{Given}
use Rattle.thread_promise.specs.Types.{source_type, operand_type, last_type}

-- the register of a number, if it is one
abbrev pub kept_register : List Held → Option ℕ → Option Held
kept_register kept None = None
kept_register kept (Some n) = slice_get kept n

module _ (m : Module) (r : Reading) (registers : Registers) where
  -- variable x has this type and this value
  pub record IsVariable (types : List IntegerType) (x : ℕ) (ty : IntegerType) (v : ℤ) : Type 0 where
    pub declared : slice_get types x ≡ Some ty
    pub held : Held
    pub listed : slice_get registers.variables x ≡ Some held
    pub wide : width m held.register ≡ width_of ty
    pub shows : r.signal held.register ≡ residue_of (width_of ty) v
    pub typed : HasType ty v

  -- a register keeps a value of this type in its low bits
  pub record IsKept (number : Option ℕ) (ty : IntegerType) (v : ℤ) : Type 0 where
    pub held : Held
    pub listed : kept_register registers.kept number ≡ Some held
    pub wide : width m held.register ≡ held.width
    pub room : width_of ty ≤ held.width
    pub fits : r.signal held.register < 2 ^ held.width
    pub shows : r.signal held.register % 2 ^ width_of ty ≡ residue_of (width_of ty) v
    pub typed : HasType ty v

  -- the value of an operation in a state: on its wire in the operation's last state, and else in its register
  pub record IsGiven (given : Given) (state : ℕ) (ty : IntegerType) (v : ℤ) : Type 0 where
    pub says : given.word.width ≡ width_of ty
    pub sign : given.word.signed ≡ ty.signed
    pub here : given.last ≡ state → IsWord m r given.word ty v
    pub later : given.last ≢ state → IsKept given.register ty v

  pub record IsValue (values : List Given) (state k : ℕ) (ty : IntegerType) (v : ℤ) : Type 0 where
    pub given : Given
    pub listed : slice_get values k ≡ Some given
    pub is : IsGiven given state ty v

  -- what an operand comes from can be seen in a state, where the variables and the values of operations are these
  abbrev pub SeesSource : List IntegerType → List Given → ℕ → (ℕ → ℤ) → (ℕ → ℤ) → Source → Type 0
  SeesSource types values state variables given (Constant ty v) = HasType ty v
  SeesSource types values state variables given (Variable x ty) = IsVariable types x ty (variables x)
  SeesSource types values state variables given (Value k ty) = IsValue values state k ty (given k)

module _ (old new : List Signal) (registers : Registers) where
  pub record ShowsVariable (types : List IntegerType) (x : ℕ) (ty : IntegerType) (out : Word) : Type 0 where
    pub grows : Grows old new
    pub shows : (m : Module) (r : Reading) (v : ℤ) → Grows new m.signals → Obeys m r → IsVariable m r registers types x ty v → IsWord m r out ty v

  pub record ShowsKept (given : Given) (out : Word) : Type 0 where
    pub grows : Grows old new
    pub shows : (m : Module) (r : Reading) (ty : IntegerType) (v : ℤ) → Grows new m.signals → Obeys m r → given.word.width ≡ width_of ty → given.word.signed ≡ ty.signed →
        IsKept m r registers given.register ty v → IsWord m r out ty v

  pub record ShowsGiven (given : Given) (state : ℕ) (out : Word) : Type 0 where
    pub grows : Grows old new
    pub shows : (m : Module) (r : Reading) (ty : IntegerType) (v : ℤ) → Grows new m.signals → Obeys m r → IsGiven m r registers given state ty v → IsWord m r out ty v

  pub record ShowsValue (values : List Given) (state k : ℕ) (ty : IntegerType) (out : Word) : Type 0 where
    pub grows : Grows old new
    pub shows : (m : Module) (r : Reading) (v : ℤ) → Grows new m.signals → Obeys m r → IsValue m r registers values state k ty v → IsWord m r out ty v

  pub record ShowsSource (types : List IntegerType) (values : List Given) (state : ℕ) (source : Source) (out : Word) : Type 0 where
    pub grows : Grows old new
    pub shows : (m : Module) (r : Reading) (variables given : ℕ → ℤ) → Grows new m.signals → Obeys m r → SeesSource m r registers types values state variables given source →
        IsWord m r out (source_type source) (operand_value variables given (source_view source))

  -- THE WORD OF AN OPERAND shows its value, in each reading in which the operand can be seen
  pub record ShowsOperand (types : List IntegerType) (values : List Given) (state : ℕ) (operand : Operand) (out : Word) : Type 0 where
    pub grows : Grows old new
    pub shows : (m : Module) (r : Reading) (variables given : ℕ → ℤ) → Grows new m.signals → Obeys m r →
        SeesSource m r registers types values state variables given operand.source →
        IsWord m r out (operand_type operand) (operand_value variables given (operand_view operand))

-- a word, converted to these types one after the other
pub record Converts (old new : List Signal) (word : Word) (types : List IntegerType) (out : Word) : Type 0 where
  pub grows : Grows old new
  pub shows : (m : Module) (r : Reading) (from : IntegerType) (variables given : ℕ → ℤ) (o : PlannedOperand) → Grows new m.signals → Obeys m r
      → IsWord m r word from (operand_value variables given o) →
      IsWord m r out (last_type from types) (operand_value variables given (converted_to types o))

-- a register's low bits, as a word like another one
pub record Narrows (old new : List Signal) (held : Held) (word out : Word) : Type 0 where
  pub says : out.width ≡ word.width
  pub sign : out.signed ≡ word.signed
  pub resizes : Resizes old new held.register held.width word.width false out.place
