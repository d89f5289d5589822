-- What the end of a block leaves: variables, and the stage that follows.
use Rattle.std.specs.Prelude.{◌≡◌, ℕ, ◌<◌, nat_eq, Bool, false, ◌&&◌, if◌then◌else◌, List, length, slice_get, Option, Some, None, ℤ, min}
use Rattle.hls_ints.specs.Residues.{bit_of}
use Rattle.hls_ints.specs.Types.{IntegerType}
use Rattle.block_ir.specs.declared.block.Final.{Final}
use Rattle.block_ir.specs.declared.block.Next.{Next}
use Rattle.block_ir.specs.declared.block.Next.TheVariants.{Jump, Branch}
use Rattle.block_ir.specs.declared.code.ThreadCode.{ThreadCode}
use Rattle.planned_block.specs.Advance.{last_of}
use Rattle.hls_ints.specs.Operators.{is_zero}
use Rattle.netlist.specs.declared.netlist.Signal.{Signal}
use Rattle.netlist.specs.declared.netlist.Module.{Module}
use Rattle.verilog_meaning.specs.Readings.{Reading, width}
use Rattle.operator_wires.specs.Modules.{Obeys}
use Rattle.operator_wires.specs.declared.words.Word.{Word}
use Rattle.operator_wires.specs.Gives.{Grows}
use Rattle.operator_wires.specs.Words.{IsWord}
use Rattle.block_datapath.specs.declared.registers.Registers.{Registers}
use Rattle.block_datapath.specs.declared.operands.Given.{Given}
use Rattle.block_datapath.specs.declared.ending.Finish.{Finish}
use Rattle.thread_promise.specs.Types.{operand_type}
use Rattle.block_datapath.specs.Seen.{SeesSource}
use Rattle.block_datapath.specs.Operations.{seen_value}
use Rattle.block_datapath.specs.Chains.{next_number}

-- a word of a value of a variable's type becomes one of that type
pub record BecomesOwn (old new : List Signal) (types : List IntegerType) (number : ℕ) (word out : Word) : Type 0 where
  pub grows : Grows old new
  pub shows : (m : Module) (r : Reading) (ty : IntegerType) (v : ℤ) → Grows new m.signals → Obeys m r → slice_get types number ≡ Some ty → IsWord m r word ty v →
      IsWord m r out ty v

module _ (registers : Registers) (code : ThreadCode) (values : List Given) (state : ℕ) where
  -- the word of what a variable holds at the end, in each reading in which the operand can be seen
  pub record IsFinal (new : List Signal) (f : Final) (out : Finish) : Type 0 where
    pub variable : out.variable ≡ f.variable
    pub shows : (m : Module) (r : Reading) (variables given : ℕ → ℤ) (ty : IntegerType) → Grows new m.signals → Obeys m r →
        SeesSource m r registers code.variables values state variables given f.value.source → slice_get code.variables f.variable ≡ Some ty → operand_type f.value ≡ ty →
        IsWord m r out.word ty (seen_value variables given f.value)

  pub record ShowsFinal (old new : List Signal) (f : Final) (out : Finish) : Type 0 where
    pub grows : Grows old new
    pub is : IsFinal new f out

  pub record ShowsFinals (old new : List Signal) (finals : List Final) (n : ℕ) (finishes : List Finish) : Type 0 where
    pub grows : Grows old new
    pub count : length finishes ≡ n
    pub each : (k : ℕ) (f : Final) → k < n → slice_get finals k ≡ Some f → (out : Finish) × (slice_get finishes k ≡ Some out) × IsFinal new f out

  -- the number of the stage that follows; past the last one there is one more
  abbrev pub next_stage : (ℕ → ℤ) → (ℕ → ℤ) → Next → ℕ
  next_stage variables given (Jump l) = min l (length code.stages)
  next_stage variables given (Branch test nonzero otherwise) = if is_zero (seen_value variables given test) then min otherwise (length code.stages) else min nonzero
      (length code.stages)

  abbrev pub SeesTest : Module → Reading → (ℕ → ℤ) → (ℕ → ℤ) → Next → Type 0
  SeesTest m r variables given (Jump l) = Unit {0}
  SeesTest m r variables given (Branch test nonzero otherwise) = SeesSource m r registers code.variables values state variables given test.source

  pub record ShowsNext (old new : List Signal) (next : Next) (place : ℕ) : Type 0 where
    pub grows : Grows old new
    pub wide : (m : Module) → Grows new m.signals → width m place ≡ registers.stage.width
    pub shows : (m : Module) (r : Reading) (variables given : ℕ → ℤ) → Grows new m.signals → Obeys m r → SeesTest m r variables given next →
        r.signal place ≡ next_stage variables given next

-- ---- chains of variables

abbrev pub finishes_in : Option Finish → ℕ → Bool
finishes_in None x = false
finishes_in (Some f) x = nat_eq x f.variable

abbrev pub finish_number : Reading → Option Finish → ℕ
finish_number r None = 0
finish_number r (Some f) = r.signal f.word.place

-- VARIABLES GET the first n of these, where the last state of the block is left
pub record SetsFirst (old new : List Signal) (last : ℕ) (before after : List ℕ) (finishes : List Finish) (n : ℕ) : Type 0 where
  pub grows : Grows old new
  pub count : length after ≡ length before
  pub shows : (m : Module) (r : Reading) (t : Bool) (x : ℕ) → Grows new m.signals → Obeys m r → r.signal last ≡ bit_of t → x < length before →
      next_number r after x ≡ last_of (λ k. finishes_in (slice_get finishes k) x && t) (λ k. finish_number r (slice_get finishes k)) (next_number r before x) n
