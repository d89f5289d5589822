-- What operands of iterations are that are ahead of the variables' registers: variables are unrolled through what the iterations between leave.
use Rattle.std.specs.Prelude.{◌≡◌, ℕ, zero, suc, ◌+◌, ◌-◌, ◌<◌, ◌≤◌, nat_eq, nat_le, if◌then◌else◌, false, List, [], ◌∷◌, Option, Some, None, slice_get, slice_index, ℤ}
use Rattle.std.specs.Option.{option_or}
use Rattle.netlist.specs.declared.netlist.Signal.{Signal}
use Rattle.netlist.specs.declared.netlist.Module.{Module}
use Rattle.verilog_meaning.specs.Readings.{Reading, width}
use Rattle.hls_ints.specs.Residues.{residue_of, bit_of}
use Rattle.hls_ints.specs.Types.{IntegerType, HasType, width_of}
use Rattle.block_ir.specs.declared.operand.Source.{Source}
use Rattle.block_ir.specs.declared.operand.Source.TheVariants.{Constant, Variable, Value}
use Rattle.block_ir.specs.declared.operand.Operand.{Operand}
use Rattle.block_ir.specs.declared.block.Final.{Final}
use Rattle.block_ir.specs.declared.block.Block.{Block}
use Rattle.plan_blocks.specs.View.{operand_view, source_view}
use Rattle.planned_block.specs.Block.{operand_value}
use Rattle.planned_block.specs.Slot.{Slot}
use Rattle.planned_loop.specs.Move.{value_ahead, variables_ahead, operand_ahead}
use Rattle.circuit.specs.Modules.{Obeys}
use Rattle.operator_wires.specs.declared.words.Word.{Word}
use Rattle.operator_wires.specs.Gives.{Grows}
use Rattle.operator_wires.specs.Words.{IsWord, Resizes}
use Rattle.thread_promise.specs.Types.{source_type, operand_type}
use Rattle.block_datapath.specs.declared.registers.Held.{Held}
use Rattle.block_datapath.specs.declared.registers.Registers.{Registers}
use Rattle.block_datapath.specs.Seen.{IsVariable, IsKept}
use Rattle.loop_datapath.specs.declared.times.LoopTimes.{LoopTimes}
use Rattle.loop_datapath.specs.declared.times.RoundPhase.{RoundPhase}
use Rattle.loop_datapath.specs.declared.times.ValuePlace.{ValuePlace}
use Rattle.loop_datapath.specs.declared.times.ValuePlace.TheVariants.{Wire, Register}
use Rattle.loop_datapath.specs.Times.{times_view, loop_of, value_place}

-- ---- what an iteration leaves in a variable

-- the last final of a variable, which is what an iteration leaves there
abbrev pub last_final : List Final → ℕ → Option Final
last_final [] x = None
last_final (f ∷ fs) x = option_or (last_final fs x) (if nat_eq x f.variable then Some f else None)

-- that of the iteration before, if there is one
abbrev pub final_behind : List Final → ℕ → ℕ → Option Final
final_behind finals zero x = None
final_behind finals (suc d) x = last_final finals x

abbrev pub left_source : Option Final → Option Source
left_source None = None
left_source (Some f) = Some f.value.source

-- what the source is made of in the iteration before, if it is a variable in which an iteration leaves something
abbrev pub source_behind : List Final → Source → Option Source
source_behind finals (Constant ty v) = None
source_behind finals (Variable x ty) = left_source (last_final finals x)
source_behind finals (Value k ty) = None

-- how many iterations back, n at most, the source still changes with how many there are
abbrev pub reach_by : (Source → ℕ) → Option Source → ℕ
reach_by more None = 0
reach_by more (Some source) = suc (more source)

abbrev pub reach_of : List Final → ℕ → Source → ℕ
reach_of finals zero source = 0
reach_of finals (suc n) source = reach_by (reach_of finals n) (source_behind finals source)

-- ---- readings in which it can be seen

-- where so many iterations are ahead, in this phase, the slot is this one, and the operations whose phase it is give these
module _ (turn : Block) (comparison : ℕ) (times : LoopTimes) (begun phase : ℕ) (q : Slot) (wire : ℕ → ℤ) where
  -- of the iteration that is d behind the oldest one: the value of an operation, the variables as it begins
  abbrev pub value_there : ℕ → ℕ → ℤ
  value_there = value_ahead (loop_of turn comparison) (times_view times) begun phase q wire

  abbrev pub variable_there : ℕ → ℕ → ℤ
  variable_there = variables_ahead (loop_of turn comparison) (times_view times) begun phase q wire

  -- a source of an operand, and an operand
  abbrev pub source_there : ℕ → Source → ℤ
  source_there d source = operand_ahead (loop_of turn comparison) (times_view times) begun phase q wire d (source_view source)

  abbrev pub operand_there : ℕ → Operand → ℤ
  operand_there d operand = operand_ahead (loop_of turn comparison) (times_view times) begun phase q wire d (operand_view operand)

module _ (m : Module) (r : Reading) (registers : Registers) (words : List Word) where
  -- the value of operation k is at this place
  abbrev pub IsAt : ValuePlace → ℕ → IntegerType → ℤ → Type 0
  IsAt Wire k ty v = (word : Word) × (slice_get words k ≡ Some word) × IsWord m r word ty v
  IsAt (Register n) k ty v = IsKept m r registers (Some n) ty v

  -- a variable by what the iteration before leaves there
  abbrev pub SeesLeft : List IntegerType → (Source → Type 0) → Option Final → ℕ → IntegerType → ℤ → Type 0
  SeesLeft types Sees None x ty v = IsVariable m r registers types x ty v
  SeesLeft types Sees (Some f) x ty v = (slice_get types x ≡ Some ty) × (operand_type f.value ≡ ty) × Sees f.value.source

  module _ (types : List IntegerType) (turn : Block) (comparison : ℕ) (times : LoopTimes) (begun phase : ℕ) (q : Slot) (wire : ℕ → ℤ) where
    abbrev pub SeesValue : ℕ → ℕ → IntegerType → Type 0
    SeesValue d k ty = IsAt (value_place times.operations begun phase d k) k ty (value_there turn comparison times begun phase q wire d k)

    -- A SOURCE CAN BE SEEN in the iteration that is d behind the oldest one
    abbrev pub SeesAhead : ℕ → Source → Type 0
    SeesAhead zero (Constant ty v) = HasType ty v
    SeesAhead zero (Variable x ty) = IsVariable m r registers types x ty (q.variables x)
    SeesAhead zero (Value k ty) = SeesValue 0 k ty
    SeesAhead (suc d) (Constant ty v) = HasType ty v
    SeesAhead (suc d) (Variable x ty) = SeesLeft types (SeesAhead d) (last_final turn.finals x) x ty (q.variables x)
    SeesAhead (suc d) (Value k ty) = SeesValue (suc d) k ty

-- ---- what words of operands show

-- the word of operation k, as a value of a type
pub record ShowsWire (old new : List Signal) (words : List Word) (k : ℕ) (ty : IntegerType) (out : Word) : Type 0 where
  pub grows : Grows old new
  pub shows : (m : Module) (r : Reading) (word : Word) (v : ℤ) → Grows new m.signals → Obeys m r → slice_get words k ≡ Some word → IsWord m r word ty v → IsWord m r out ty v

-- the value of a type that a register keeps
pub record ShowsRegister (old new : List Signal) (registers : Registers) (n : ℕ) (ty : IntegerType) (out : Word) : Type 0 where
  pub grows : Grows old new
  pub shows : (m : Module) (r : Reading) (v : ℤ) → Grows new m.signals → Obeys m r → IsKept m r registers (Some n) ty v → IsWord m r out ty v

-- the low bits of a register that has room for a type
pub record ShowsLow (old new : List Signal) (held : Held) (ty : IntegerType) (out : Word) : Type 0 where
  pub says : out.width ≡ width_of ty
  pub sign : out.signed ≡ ty.signed
  pub resizes : Resizes old new held.register held.width (width_of ty) false out.place

module _ (old new : List Signal) (registers : Registers) (times : LoopTimes) (words : List Word) (at : RoundPhase) (d : ℕ) where
  -- the word of the value of operation k in the iteration that is d behind the oldest one
  pub record ShowsValueAhead (k : ℕ) (ty : IntegerType) (out : Word) : Type 0 where
    pub grows : Grows old new
    pub shows : (m : Module) (r : Reading) (v : ℤ) → Grows new m.signals → Obeys m r →
        IsAt m r registers words (value_place times.operations at.begun at.phase d k) k ty v → IsWord m r out ty v

  module _ (types : List IntegerType) (turn : Block) where
    -- THE WORD OF A SOURCE of that iteration, and of an operand
    pub record ShowsSourceAhead (source : Source) (out : Word) : Type 0 where
      pub grows : Grows old new
      pub shows : (comparison : ℕ) (m : Module) (r : Reading) (q : Slot) (wire : ℕ → ℤ) → Grows new m.signals → Obeys m r →
          SeesAhead m r registers words types turn comparison times at.begun at.phase q wire d source →
          IsWord m r out (source_type source) (source_there turn comparison times at.begun at.phase q wire d source)

    pub record ShowsOperandAhead (operand : Operand) (out : Word) : Type 0 where
      pub grows : Grows old new
      pub shows : (comparison : ℕ) (m : Module) (r : Reading) (q : Slot) (wire : ℕ → ℤ) → Grows new m.signals → Obeys m r →
          SeesAhead m r registers words types turn comparison times at.begun at.phase q wire d operand.source →
          IsWord m r out (operand_type operand) (operand_there turn comparison times at.begun at.phase q wire d operand)

-- a word of an operand becomes what a final leaves in a variable, converted to the type that a source says
pub record BecomesLeft (old new : List Signal) (types : List IntegerType) (f : Final) (word : Word) (ty : IntegerType) (out : Word) : Type 0 where
  pub grows : Grows old new
  pub shows : (m : Module) (r : Reading) (variables values : ℕ → ℤ) → Grows new m.signals → Obeys m r → slice_get types f.variable ≡ Some ty → operand_type f.value ≡ ty →
      IsWord m r word (source_type f.value.source) (operand_value variables values (source_view f.value.source)) →
      IsWord m r out ty (operand_value variables values (operand_view f.value))

-- ---- in each round

-- bits tell which of so many rounds have begun
abbrev pub HasRounds : Module → Reading → List ℕ → ℕ → ℕ → Type 0
HasRounds m r rounds n round = (z : ℕ) → z < n → (width m (slice_index rounds z) ≡ 1) × (r.signal (slice_index rounds z) ≡ bit_of (nat_le z round))

-- the word of an operand of the iteration that is in a stage shows it, in this phase of each round
abbrev pub ShowsIn : List Signal → Registers → List IntegerType → Block → LoopTimes → List Word → List ℕ → ℕ → ℕ → Operand → Word → Type 0
ShowsIn new registers types turn times words rounds stage phase operand out =
    (comparison : ℕ) (m : Module) (r : Reading) (q : Slot) (wire : ℕ → ℤ) (begun : ℕ) → Grows new m.signals → Obeys m r → HasRounds m r rounds times.stages begun →
    stage ≤ begun → begun < times.stages → SeesAhead m r registers words types turn comparison times begun phase q wire (begun - stage) operand.source →
    IsWord m r out (operand_type operand) (operand_there turn comparison times begun phase q wire (begun - stage) operand)

-- the signal at a place is as wide as a type, and shows this value of it
pub record IsNumber (m : Module) (r : Reading) (place : ℕ) (ty : IntegerType) (v : ℤ) : Type 0 where
  pub wide : width m place ≡ width_of ty
  pub shows : r.signal place ≡ residue_of (width_of ty) v
  pub typed : HasType ty v

-- where so many rounds have begun a place shows the operand of the iteration that is d behind the oldest one, and before it shows what another place does
pub record ShowsFurther (old new : List Signal) (registers : Registers) (types : List IntegerType) (turn : Block) (times : LoopTimes) (words : List Word) (rounds : List ℕ)
    (at : RoundPhase) (d : ℕ) (operand : Operand) (place out : ℕ) : Type 0 where
  pub grows : Grows old new
  pub wide : (m : Module) → Grows new m.signals → width m out ≡ width_of (operand_type operand)
  pub before : (m : Module) (r : Reading) (begun : ℕ) → Grows new m.signals → Obeys m r → HasRounds m r rounds times.stages begun → begun < at.begun →
      at.begun < times.stages → r.signal out ≡ r.signal place
  pub behind : (comparison : ℕ) (m : Module) (r : Reading) (q : Slot) (wire : ℕ → ℤ) (begun : ℕ) → Grows new m.signals → Obeys m r →
      HasRounds m r rounds times.stages begun → at.begun ≤ begun → at.begun < times.stages →
      SeesAhead m r registers words types turn comparison times at.begun at.phase q wire d operand.source →
      IsNumber m r out (operand_type operand) (operand_there turn comparison times at.begun at.phase q wire d operand)

module _ (old new : List Signal) (registers : Registers) (types : List IntegerType) (turn : Block) (times : LoopTimes) (words : List Word) (rounds : List ℕ)
    (stage phase : ℕ) (operand : Operand) where
  -- where no more rounds than so many have begun behind those that the operation needs, a place shows the operand; and where more have, it shows what it
  -- was in the last one of them
  pub record ShowsTo (n place : ℕ) : Type 0 where
    pub grows : Grows old new
    pub before : (comparison : ℕ) (m : Module) (r : Reading) (q : Slot) (wire : ℕ → ℤ) (begun : ℕ) → Grows new m.signals → Obeys m r →
        HasRounds m r rounds times.stages begun → stage ≤ begun → begun ≤ stage + n → begun < times.stages →
        SeesAhead m r registers words types turn comparison times begun phase q wire (begun - stage) operand.source →
        IsNumber m r place (operand_type operand) (operand_there turn comparison times begun phase q wire (begun - stage) operand)
    pub behind : (comparison : ℕ) (m : Module) (r : Reading) (q : Slot) (wire : ℕ → ℤ) (begun : ℕ) → Grows new m.signals → Obeys m r →
        HasRounds m r rounds times.stages begun → stage + n ≤ begun → begun < times.stages →
        SeesAhead m r registers words types turn comparison times (stage + n) phase q wire n operand.source →
        IsNumber m r place (operand_type operand) (operand_there turn comparison times (stage + n) phase q wire n operand)

  -- THE WORD OF AN OPERAND in each round
  pub record ShowsOperandIn (out : Word) : Type 0 where
    pub grows : Grows old new
    pub shows : ShowsIn new registers types turn times words rounds stage phase operand out
