-- What the words of the operations of a loop show.
use Rattle.std.specs.Prelude.{◌≡◌, ℕ, ◌-◌, ◌<◌, ◌≤◌, List, length, Some, slice_get, ℤ, ◌+◌}
use Rattle.hls_ints.specs.Types.{IntegerType, width_of}
use Rattle.block_ir.specs.declared.operand.Source.{Source}
use Rattle.block_ir.specs.declared.block.Operation.{Operation}
use Rattle.block_ir.specs.declared.block.Operation.TheVariants.{Unary, Binary, ReadGlobal, WriteGlobal, ReadArray, WriteArray}
use Rattle.block_ir.specs.declared.block.Block.{Block}
use Rattle.block_ir.specs.declared.code.ThreadCode.{ThreadCode}
use Rattle.planned_block.specs.Block.{operation_at, size}
use Rattle.planned_block.specs.Run.{value_of}
use Rattle.planned_block.specs.Slot.{Slot}
use Rattle.planned_loop.specs.Loop.{nothing}
use Rattle.planned_loop.specs.Plan.{KeepsLoop}
use Rattle.planned_loop.specs.Move.{operand_ahead}
use Rattle.netlist.specs.declared.netlist.Signal.{Signal}
use Rattle.netlist.specs.declared.netlist.Module.{Module}
use Rattle.verilog_meaning.specs.Readings.{Reading}
use Rattle.circuit.specs.Modules.{Obeys}
use Rattle.operator_wires.specs.declared.words.Word.{Word}
use Rattle.operator_wires.specs.Gives.{Grows}
use Rattle.operator_wires.specs.Words.{IsWord}
use Rattle.thread_promise.specs.Types.{value_type, IsTypedBlock, IsOfLength}
use Rattle.block_datapath.specs.declared.registers.Registers.{Registers}
use Rattle.block_datapath.specs.Seen.{IsVariable, IsKept}
use Rattle.block_datapath.specs.Operations.{operation_value, HasArrays}
use Rattle.loop_datapath.specs.declared.times.LoopTimes.{LoopTimes}
use Rattle.loop_datapath.specs.Times.{time_at, times_view, loop_of, lateness}
use Rattle.loop_datapath.specs.Ahead.{value_there, variable_there, SeesAhead, HasRounds}

-- the operands that an operation's value needs can be seen
abbrev pub SeesAll : (Source → Type 0) → Operation → Type 0
SeesAll Sees (Unary operator ty a) = Sees a.source
SeesAll Sees (Binary operator ty a b) = Sees a.source × Sees b.source
SeesAll Sees (ReadGlobal x n i) = Unit {0}
SeesAll Sees (WriteGlobal x n i a) = Unit {0}
SeesAll Sees (ReadArray x n i) = Sees i.source
SeesAll Sees (WriteArray x n i a) = Unit {0}

-- no global is accessed, and an access of an array says its length
abbrev pub IsOwn : ThreadCode → Operation → Type 0
IsOwn code (Unary operator ty a) = Unit {0}
IsOwn code (Binary operator ty a b) = Unit {0}
IsOwn code (ReadGlobal x n i) = ⊥
IsOwn code (WriteGlobal x n i a) = ⊥
IsOwn code (ReadArray x n i) = IsOfLength code x n
IsOwn code (WriteArray x n i a) = IsOfLength code x n

module _ (globals : List IntegerType) (code : ThreadCode) (registers : Registers) (turn : Block) (times : LoopTimes) where
  -- what an operation gives in the iteration that is d behind the oldest one
  abbrev pub gives_there : ℕ → ℕ → ℕ → Slot → (ℕ → ℤ) → ℕ → Operation → ℤ
  gives_there comparison begun phase q wire d o =
      operation_value (variable_there turn comparison times begun phase q wire d) (value_there turn comparison times begun phase q wire d) q.arrays nothing o

  -- THE WORD OF AN OPERATION in its stage, in its phase of each round
  pub record ShowsOperationIn (old new : List Signal) (words : List Word) (rounds : List ℕ) (stage phase : ℕ) (o : Operation) (out : Word) : Type 0 where
    pub grows : Grows old new
    pub shows : (comparison : ℕ) (m : Module) (r : Reading) (q : Slot) (wire : ℕ → ℤ) (begun : ℕ) → Grows new m.signals → Obeys m r →
        HasRounds m r rounds times.stages begun → stage ≤ begun → begun < times.stages → HasArrays code m r q.arrays → IsOwn code o →
        SeesAll (SeesAhead m r registers words code.variables turn comparison times begun phase q wire (begun - stage)) o →
        IsWord m r out (value_type globals code o) (gives_there comparison begun phase q wire (begun - stage) o)

  -- ---- readings of the loop

  -- the loop is right: its operands have the types that they say, it accesses its own arrays alone, and its plan keeps its iterations
  pub record IsRightLoop (comparison : ℕ) : Type 0 where
    pub typed : IsTypedBlock globals code turn
    pub own : (k : ℕ) (o : Operation) → slice_get turn.operations k ≡ Some o → IsOwn code o
    pub keeps : KeepsLoop (loop_of turn comparison) (times_view times)

  -- the register holds what an operation gave an iteration that has left nothing in the variables yet
  pub record IsLive (begun phase k d n : ℕ) : Type 0 where
    pub operation : Operation
    pub listed : slice_get turn.operations k ≡ Some operation
    pub register : n ≡ (times_view times).register k d
    pub ahead : d + (time_at times.operations k).stage + lateness (time_at times.operations k) phase ≤ begun

  -- a reading shows the variables, the arrays and the values of a slot, in a phase of a round in which so many iterations are ahead of the oldest one
  pub record SeesValues (m : Module) (r : Reading) (q : Slot) (begun phase : ℕ) : Type 0 where
    pub variables : (x : ℕ) (ty : IntegerType) → slice_get code.variables x ≡ Some ty → IsVariable m r registers code.variables x ty (q.variables x)
    pub arrays : HasArrays code m r q.arrays
    pub live : (k d n : ℕ) (t : IsLive begun phase k d n) → IsKept m r registers (Some n) (value_type globals code t.operation) (q.registers n)

  -- each operation whose phase it is gives its value
  abbrev pub IsComputed : ℕ → ℕ → ℕ → Slot → (ℕ → ℤ) → Type 0
  IsComputed comparison begun phase q wire =
      (k : ℕ) → k < size (loop_of turn comparison).block → (times_view times).phase k ≡ phase →
      wire k
      ≡ value_of (operation_at (loop_of turn comparison).block k).kind q.arrays nothing
      (operand_ahead (loop_of turn comparison) (times_view times) begun phase q wire (begun - (times_view times).stage k)
      (operation_at (loop_of turn comparison).block k).left)
      (operand_ahead (loop_of turn comparison) (times_view times) begun phase q wire (begun - (times_view times).stage k)
      (operation_at (loop_of turn comparison).block k).right)

  -- ---- all operations

  -- the word of operation k shows its wire where its phase is, in each round in which its stage has begun
  pub record IsShownIn (rounds : List ℕ) (new : List Signal) (k : ℕ) (o : Operation) (word : Word) : Type 0 where
    pub says : word.width ≡ width_of (value_type globals code o)
    pub sign : word.signed ≡ (value_type globals code o).signed
    pub shows : (comparison : ℕ) (m : Module) (r : Reading) (q : Slot) (wire : ℕ → ℤ) (begun : ℕ) → IsRightLoop comparison → Grows new m.signals → Obeys m r →
        HasRounds m r rounds times.stages begun → begun < times.stages → (time_at times.operations k).stage ≤ begun →
        SeesValues m r q begun (time_at times.operations k).phase →
        IsComputed comparison begun (time_at times.operations k).phase q wire → IsWord m r word (value_type globals code o) (wire k)

  -- THE WORDS OF THE FIRST n OPERATIONS, one after the other
  pub record ShowsWords (rounds : List ℕ) (old new : List Signal) (n : ℕ) (words : List Word) : Type 0 where
    pub grows : Grows old new
    pub count : length words ≡ n
    pub each : (k : ℕ) (o : Operation) → k < n → slice_get turn.operations k ≡ Some o → (word : Word) × (slice_get words k ≡ Some word) × IsShownIn rounds new k o word
