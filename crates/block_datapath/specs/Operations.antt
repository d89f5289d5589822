-- What the operations of a block give, and what their words show.
use Rattle.std.specs.Prelude.{◌≡◌, ℕ, ◌<◌, ◌≤◌, ◌+◌, ◌%◌, ◌^◌, List, length, Option, Some, None, slice_get, slice_index, ℤ, pos, negsuc}
use Rattle.interleaving.specs.Memory.{Location, Memory}
use Rattle.hls_ints.specs.Residues.{residue_of}
use Rattle.hls_ints.specs.Types.{IntegerType, HasType, width_of}
use Rattle.block_ir.specs.Arithmetic.{unary_total, binary_total}
use Rattle.bank_partition.specs.declared.banks.Spread.{Spread}
use Rattle.block_ir.specs.Run.{place_read, global_read}
use Rattle.block_ir.specs.declared.operand.Operand.{Operand}
use Rattle.block_ir.specs.declared.block.Operation.{Operation}
use Rattle.block_ir.specs.declared.block.Operation.TheVariants.{Unary, Binary, ReadGlobal, WriteGlobal, ReadArray, WriteArray}
use Rattle.block_ir.specs.declared.block.Block.{Block}
use Rattle.block_ir.specs.declared.code.Array.{Array}
use Rattle.block_ir.specs.declared.code.ThreadCode.{ThreadCode}
use Rattle.block_ir.specs.declared.plan.BlockPlan.{BlockPlan}
use Rattle.planned_block.specs.Block.{operand_value, element}
use Rattle.planned_block.specs.Plan.{last_state, further_states, KeepsOrders}
use Rattle.planned_block.specs.Slot.{Slot, IsWired}
use Rattle.thread_promise.specs.View.{operand_view, operation_view, planned_view, plan_view, register_at}
use Rattle.netlist.specs.declared.netlist.Signal.{Signal}
use Rattle.netlist.specs.declared.netlist.Memory.{Memory as Words}
use Rattle.netlist.specs.declared.netlist.Module.{Module}
use Rattle.verilog_meaning.specs.Readings.{Reading, width}
use Rattle.operator_wires.specs.Modules.{Obeys}
use Rattle.operator_wires.specs.declared.words.Word.{Word}
use Rattle.operator_wires.specs.Gives.{Grows}
use Rattle.operator_wires.specs.Words.{IsWord}
use Rattle.block_datapath.specs.declared.registers.Held.{Held}
use Rattle.block_datapath.specs.declared.registers.UnitResults.{UnitResults}
use Rattle.block_datapath.specs.declared.registers.Registers.{Registers}
use Rattle.block_datapath.specs.declared.operands.Given.{Given}
use Rattle.thread_promise.specs.Types.{value_type, IsOfLength, IsTypedBlock}
use Rattle.thread_promise.specs.Globals.{IsSmallPower, IsAccess}
use Rattle.block_datapath.specs.Seen.{IsVariable, IsKept, SeesSource}
use Rattle.block_datapath.specs.Units.{shared_place, word_at, HasUnits}
use Rattle.thread_promise.specs.Slots.{element_at, IsAlive}

-- the value of an operand, where the variables and the values of operations are these
abbrev pub seen_value : (ℕ → ℤ) → (ℕ → ℤ) → Operand → ℤ
seen_value variables given o = operand_value variables given (operand_view o)

-- what an operation gives, where banks tell these words of elements
abbrev pub operation_value : (ℕ → ℤ) → (ℕ → ℤ) → Memory ℤ → Memory ℤ → Operation → ℤ
operation_value variables given arrays told (Unary operator ty a) = unary_total operator ty (seen_value variables given a)
operation_value variables given arrays told (Binary operator ty a b) = binary_total operator ty (seen_value variables given a) (seen_value variables given b)
operation_value variables given arrays told (ReadGlobal x n i) = told (element x (pos (global_read n (seen_value variables given i))))
operation_value variables given arrays told (WriteGlobal x n i a) = pos 0
operation_value variables given arrays told (ReadArray x n i) = arrays (element_at x (place_read n (seen_value variables given i)))
operation_value variables given arrays told (WriteArray x n i a) = pos 0

-- the input of bank n tells this value
pub record IsTold (registers : Registers) (m : Module) (r : Reading) (n : ℕ) (ty : IntegerType) (v : ℤ) : Type 0 where
  pub held : Held
  pub listed : slice_get registers.words n ≡ Some held
  pub says : held.width ≡ width_of ty
  pub wide : width m held.register ≡ width_of ty
  pub shows : r.signal held.register ≡ residue_of (width_of ty) v
  pub typed : HasType ty v

-- banks tell these words of elements, each on the input of the bank that the last bits of an index name
pub record HasTold (globals : List IntegerType) (registers : Registers) (m : Module) (r : Reading) (told : Memory ℤ) : Type 0 where
  pub fits : (x : ℕ) (s : Spread) → slice_get registers.spreads x ≡ Some s → IsSmallPower s.count × (s.first + s.count < 2 ^ 64)
  pub words : (x : ℕ) (s : Spread) (ty : IntegerType) (v : ℤ) → slice_get registers.spreads x ≡ Some s → slice_get globals x ≡ Some ty →
      IsTold registers m r (s.first + residue_of 64 v % s.count) ty (told (element x (pos (global_read s.length v))))

-- the memories of a module are the arrays of the code, and show these elements; the place past the end of an array holds 0
pub record HasArrays (code : ThreadCode) (m : Module) (r : Reading) (arrays : Memory ℤ) : Type 0 where
  pub declared : (a : ℕ) (array : Array) → slice_get code.arrays a ≡ Some array → (s : Words) × (slice_get m.memories a ≡ Some s) × (length s.initial ≡ array.length)
  pub words : (a i : ℕ) (array : Array) → slice_get code.arrays a ≡ Some array → i < array.length → r.word a i ≡ residue_of (width_of array.ty) (arrays (element_at a i))
  pub typed : (a i : ℕ) (array : Array) → slice_get code.arrays a ≡ Some array → i < array.length → HasType array.ty (arrays (element_at a i))
  pub outside : (a : ℕ) (array : Array) → slice_get code.arrays a ≡ Some array → arrays (element_at a array.length) ≡ pos 0
  -- so few that no negative index is a number of a word
  pub few : (a : ℕ) (array : Array) → slice_get code.arrays a ≡ Some array → array.length < 2 ^ 31

-- the operands that an operation's value needs can be seen: of an operator and a read of a global in its last state, of an access of an array in
-- its first one
module _ (m : Module) (r : Reading) (registers : Registers) (code : ThreadCode) (values : List Given) (start last : ℕ) (variables given : ℕ → ℤ) where
  abbrev pub Sees : ℕ → Operand → Type 0
  Sees state o = SeesSource m r registers code.variables values state variables given o.source

  abbrev pub SeesOperands : Operation → Type 0
  SeesOperands (Unary operator ty a) = Sees last a
  SeesOperands (Binary operator ty a b) = Sees last a × Sees last b
  SeesOperands (ReadGlobal x n i) = Sees last i
  SeesOperands (WriteGlobal x n i a) = Unit {0}
  SeesOperands (ReadArray x n i) = Sees start i
  SeesOperands (WriteArray x n i a) = Unit {0}

-- an index of none of n elements
abbrev pub IsOutside : ℕ → ℤ → Type 0
IsOutside n (pos i) = n ≤ i
IsOutside n (negsuc i) = Unit {0}

-- a global has this length, and a type
pub record IsGlobal (globals : List IntegerType) (spreads : List Spread) (x n : ℕ) : Type 0 where
  pub spread : Spread
  pub listed : slice_get spreads x ≡ Some spread
  pub long : spread.length ≡ n
  pub ty : IntegerType
  pub typed : slice_get globals x ≡ Some ty

-- an access of an array, and a read of a global, says its length
abbrev pub IsSized : List IntegerType → ThreadCode → Registers → Operation → Type 0
IsSized globals code registers (Unary operator ty a) = Unit {0}
IsSized globals code registers (Binary operator ty a b) = Unit {0}
IsSized globals code registers (ReadGlobal x n i) = IsGlobal globals registers.spreads x n
IsSized globals code registers (WriteGlobal x n i a) = Unit {0}
IsSized globals code registers (ReadArray x n i) = IsOfLength code x n
IsSized globals code registers (WriteArray x n i a) = IsOfLength code x n

-- where the result of an operation on unit n stands, if that is shared
abbrev pub result_place : List UnitResults → ℕ → Operation → Option ℕ
result_place units n (Unary operator ty a) = None
result_place units n (Binary operator ty a b) = shared_place units operator ty a b n
result_place units n (ReadGlobal x count i) = None
result_place units n (WriteGlobal x count i a) = None
result_place units n (ReadArray x count i) = None
result_place units n (WriteArray x count i a) = None

-- where it is shared, it shows this value
abbrev pub HasResult : List UnitResults → ℕ → Operation → Module → Reading → IntegerType → ℤ → Type 0
HasResult units n o m r ty v = (place : ℕ) → result_place units n o ≡ Some place → IsWord m r (word_at place ty) ty v

module _ (old new : List Signal) where
  -- the address of an index: its own number where it is one of so many, and else none of their numbers
  pub record Addresses (index : Word) (size place : ℕ) : Type 0 where
    pub grows : Grows old new
    pub inside : (m : Module) (r : Reading) (ty : IntegerType) (i : ℕ) → Grows new m.signals → Obeys m r → IsWord m r index ty (pos i) → i < size → r.signal place ≡ i
    pub outside : (m : Module) (r : Reading) (ty : IntegerType) (v : ℤ) → Grows new m.signals → Obeys m r → IsWord m r index ty v → size < 2 ^ 31 → IsOutside size v →
        size ≤ r.signal place

  pub record ReadsArray (code : ThreadCode) (a : ℕ) (index out : Word) : Type 0 where
    pub grows : Grows old new
    pub shows : (m : Module) (r : Reading) (ty : IntegerType) (v : ℤ) (array : Array) (arrays : Memory ℤ) → Grows new m.signals → Obeys m r → HasArrays code m r arrays →
        slice_get code.arrays a ≡ Some array → IsWord m r index ty v → IsWord m r out array.ty (arrays (element_at a (place_read array.length v)))

  -- THE WORD OF AN OPERATION shows what it gives, in each reading in which its operands can be seen
  pub record ShowsOperation (globals : List IntegerType) (code : ThreadCode) (registers : Registers) (values : List Given) (unit start last : ℕ) (operation : Operation)
      (out : Word) : Type 0 where
    pub grows : Grows old new
    -- an operation on a shared unit has no operator of its own
    pub shared : (place : ℕ) → result_place registers.units unit operation ≡ Some place → (new ≡ old) × (out.place ≡ place)
    pub shows : (m : Module) (r : Reading) (variables given : ℕ → ℤ) (arrays told : Memory ℤ) → Grows new m.signals → Obeys m r → HasArrays code m r arrays →
        HasTold globals registers m r told → SeesOperands m r registers code values start last variables given operation → IsSized globals code registers operation →
        HasResult registers.units unit operation m r (value_type globals code operation) (operation_value variables given arrays told operation) →
        IsWord m r out (value_type globals code operation) (operation_value variables given arrays told operation)

  -- the same of what is kept of it
  pub record GivesOperation (globals : List IntegerType) (code : ThreadCode) (registers : Registers) (values : List Given) (plan : BlockPlan) (k : ℕ) (operation : Operation)
      (given :
      Given) : Type 0 where
    pub says : given.word.width ≡ width_of (value_type globals code operation)
    pub sign : given.word.signed ≡ (value_type globals code operation).signed
    pub last : slice_index plan.starts k + further_states (operation_view operation).kind < 2 ^ 64 →
        given.last ≡ slice_index plan.starts k + further_states (operation_view operation).kind
    pub register : given.register ≡ register_at plan.registers k
    pub shows : ShowsOperation globals code registers values (slice_index plan.units k) (slice_index plan.starts k) given.last operation given.word

-- ---- the operations of a block

module _ (globals : List IntegerType) (code : ThreadCode) (registers : Registers) (b : Block) (p : BlockPlan) where
  -- a reading shows a slot in this block
  pub record SeesSlot (m : Module) (r : Reading) (q : Slot) : Type 0 where
    pub variables : (x : ℕ) (ty : IntegerType) → slice_get code.variables x ≡ Some ty → IsVariable m r registers code.variables x ty (q.variables x)
    pub arrays : HasArrays code m r q.arrays
    pub alive : (k n : ℕ) (t : IsAlive b p q k n) → IsKept m r registers (Some n) (value_type globals code t.operation) (q.registers n)

  -- its wires are those of the planned block, banks tell the words that the slot has, and shared units show what their operations give
  pub record IsFed (bank : Location → ℕ) (m : Module) (r : Reading) (q : Slot) (wire : ℕ → ℤ) : Type 0 where
    pub wired : IsWired bank (planned_view b) (plan_view b p) q wire
    pub told : HasTold globals registers m r (λ l. q.words (bank l))
    pub units : HasUnits registers.units b p m r q wire

  -- the block is right: its operands have the types that they say, its accesses the lengths, and its plan keeps its orders
  pub record IsRight : Type 0 where
    pub typed : IsTypedBlock globals code b
    pub accesses : (k : ℕ) (o : Operation) → slice_get b.operations k ≡ Some o → IsAccess registers.spreads o
    pub keeps : KeepsOrders (planned_view b) (plan_view b p)
    pub small : p.states < 2 ^ 64

  -- the value of operation k: its word shows what the planned block's wire has in the operation's last state, and stands where the result of
  -- its unit does, if that is shared
  pub record IsShown (new : List Signal) (k : ℕ) (o : Operation) (given : Given) : Type 0 where
    pub says : given.word.width ≡ width_of (value_type globals code o)
    pub sign : given.word.signed ≡ (value_type globals code o).signed
    pub last : IsRight → given.last ≡ last_state (planned_view b) (plan_view b p) k
    pub register : given.register ≡ (plan_view b p).register k
    pub shared : (place : ℕ) → result_place registers.units (slice_index p.units k) o ≡ Some place → given.word.place ≡ place
    pub shows : (bank : Location → ℕ) (m : Module) (r : Reading) (q : Slot) (wire : ℕ → ℤ) → IsRight → Grows new m.signals → Obeys m r → SeesSlot m r q →
        IsFed bank m r q wire → last_state (planned_view b) (plan_view b p) k ≡ q.state →
        IsWord m r given.word (value_type globals code o) (wire k)

  -- THE VALUES OF THE FIRST n OPERATIONS, one after the other
  pub record ShowsFirst (old new : List Signal) (n : ℕ) (values : List Given) : Type 0 where
    pub grows : Grows old new
    pub count : length values ≡ n
    pub each : (k : ℕ) (o : Operation) → k < n → slice_get b.operations k ≡ Some o → (given : Given) × (slice_get values k ≡ Some given) × IsShown new k o given
