-- A loop at a stage: what a state of it leaves in the variables and in the registers for values, and what it writes.
use Rattle.std.specs.Prelude.{◌≡◌, ◌≢◌, ℕ, suc, ◌+◌, ◌-◌, ◌*◌, ◌%◌, ◌^◌, ◌<◌, ◌≤◌, max, nat_eq, Bool, true, false, ◌&&◌, if◌then◌else◌}
use Rattle.std.specs.Prelude.{List, length, take, Some, slice_get, slice_index_or, ℤ}
use Rattle.hls_ints.specs.Residues.{residue_of, bit_of}
use Rattle.hls_ints.specs.Types.{IntegerType, HasType, width_of}
use Rattle.block_ir.specs.declared.operand.Operand.{Operand}
use Rattle.block_ir.specs.declared.block.Operation.{Operation}
use Rattle.block_ir.specs.declared.block.Final.{Final}
use Rattle.block_ir.specs.declared.block.Block.{Block}
use Rattle.block_ir.specs.declared.code.ThreadCode.{ThreadCode}
use Rattle.plan_blocks.specs.View.{finals_view}
use Rattle.planned_block.specs.Block.{finished}
use Rattle.planned_block.specs.Slot.{Slot}
use Rattle.planned_loop.specs.Move.{smaller, is_set, operand_ahead, goes_round}
use Rattle.planned_loop.specs.Next.{Owner, AreOwners, wires, is_leaving, loop_next}
use Rattle.netlist.specs.declared.netlist.Signal.{Signal}
use Rattle.netlist.specs.declared.netlist.Module.{Module}
use Rattle.verilog_meaning.specs.Readings.{Reading, width}
use Rattle.circuit.specs.Modules.{Obeys}
use Rattle.operator_wires.specs.declared.words.Word.{Word}
use Rattle.operator_wires.specs.Gives.{Grows}
use Rattle.thread_promise.specs.Types.{value_type, operand_type}
use Rattle.block_datapath.specs.declared.registers.Held.{Held}
use Rattle.block_datapath.specs.declared.registers.Registers.{Registers}
use Rattle.block_datapath.specs.Chains.{next_number}
use Rattle.block_datapath.specs.Leave.{HasStage}
use Rattle.thread_slots.specs.Bits.{HasBit}
use Rattle.loop_datapath.specs.declared.times.OperationTime.{OperationTime}
use Rattle.loop_datapath.specs.declared.times.LoopTimes.{LoopTimes}
use Rattle.loop_datapath.specs.declared.times.RoundPhase.{RoundPhase}
use Rattle.loop_datapath.specs.declared.states.LoopStates.{LoopStates}
use Rattle.loop_datapath.specs.declared.stage_bits.StageBits.{StageBits}
use Rattle.loop_datapath.specs.declared.leaving_loop.LoopWrite.{LoopWrite}
use Rattle.loop_datapath.specs.declared.leaving_loop.LoopLeft.{LoopLeft}
use Rattle.loop_datapath.specs.Times.{time_at, times_view, loop_of}
use Rattle.loop_datapath.specs.Ahead.{operand_there, SeesAhead, ShowsIn}
use Rattle.loop_datapath.specs.Operations.{IsRightLoop, IsLive, SeesValues, ShowsWords}
use Rattle.loop_datapath.specs.States.{state_count, phase_bit, IsInRound, TellsLoop}
use Rattle.loop_datapath.specs.StageBits.{HasFlags, IsKnown, TellsStages}

-- ---- variables

module _ (old new : List Signal) (code : ThreadCode) (registers : Registers) (turn : Block) (times : LoopTimes) (words : List Word) where
  -- where a bit is set a variable gets what the oldest iteration leaves there
  pub record SetsLoopFinal (at : RoundPhase) (ends : ℕ) (before after : List ℕ) (f : Final) : Type 0 where
    pub grows : Grows old new
    pub count : length after ≡ length before
    pub rests : (m : Module) (r : Reading) (x : ℕ) → Grows new m.signals → Obeys m r → HasBit m r ends false → x < length before → next_number r after x ≡ next_number r before x
    pub shows : (comparison : ℕ) (m : Module) (r : Reading) (q : Slot) (wire : ℕ → ℤ) (ty : IntegerType) (x : ℕ) → Grows new m.signals → Obeys m r → HasBit m r ends true →
        slice_get code.variables f.variable ≡ Some ty → operand_type f.value ≡ ty →
        SeesAhead m r registers words code.variables turn comparison times at.begun at.phase q wire 0 f.value.source → x < length before →
        (next_number r after x
        ≡ (if nat_eq x f.variable then residue_of (width_of ty) (operand_there turn comparison times at.begun at.phase q wire 0 f.value) else next_number r before x))
        × HasType ty (operand_there turn comparison times at.begun at.phase q wire 0 f.value)

  -- where an iteration ends with a round variables get the first n of its finals
  pub record SetsLoopFinals (bits : StageBits) (end : ℕ) (before after : List ℕ) (finals : List Final) (n : ℕ) : Type 0 where
    pub grows : Grows old new
    pub count : length after ≡ length before
    pub rests : (m : Module) (r : Reading) (x : ℕ) → Grows new m.signals → Obeys m r → HasBit m r end false → x < length before → next_number r after x ≡ next_number r before x
    pub stays : (m : Module) (r : Reading) (x : ℕ) → Grows new m.signals → Obeys m r → HasBit m r end true → HasBit m r bits.is_last false → x < length before →
        next_number r after x ≡ next_number r before x
    pub shows : (comparison : ℕ) (m : Module) (r : Reading) (q : Slot) (wire : ℕ → ℤ) (x : ℕ) (ty : IntegerType) → Grows new m.signals → Obeys m r →
        HasBit m r end true → HasBit m r bits.is_last true →
        ((k : ℕ) (f : Final) → slice_get finals k ≡ Some f → (slice_get code.variables f.variable ≡ Some (operand_type f.value))
        × SeesAhead m r registers words code.variables turn comparison times (times.stages - 1) (times.interval - 1) q wire 0 f.value.source) →
        slice_get code.variables x ≡ Some ty → x < length before → next_number r before x ≡ residue_of (width_of ty) (q.variables x) → HasType ty (q.variables x) →
        (next_number r after x
        ≡ residue_of (width_of ty) (finished
        (operand_ahead (loop_of turn comparison) (times_view times) (times.stages - 1) (times.interval - 1) q wire 0) (finals_view (take n finals)) q.variables x))
        × HasType ty (finished
        (operand_ahead (loop_of turn comparison) (times_view times) (times.stages - 1) (times.interval - 1) q wire 0) (finals_view (take n finals)) q.variables x)

  -- ---- writes

  -- A WRITE of an array: where the phase is its operation's and its stage has an iteration; in each round the index and the value are shown
  pub record ShowsWrite (bits : StageBits) (states : LoopStates) (time : OperationTime) (number : ℕ) (place source : Operand) (write : LoopWrite) : Type 0 where
    pub grows : Grows old new
    pub array : write.array ≡ number
    pub condition : (m : Module) (r : Reading) (s t : Bool) → Grows new m.signals → Obeys m r → HasBit m r (phase_bit states time.phase) s →
        HasBit m r (slice_index_or bits.inside time.stage states.never) t → HasBit m r write.condition (s && t)
    pub rests : (m : Module) (r : Reading) → Grows new m.signals → Obeys m r → HasBit m r (phase_bit states time.phase) false → HasBit m r write.condition false
    pub index : ShowsIn new registers code.variables turn times words states.rounds time.stage time.phase place write.index
    pub value : ShowsIn new registers code.variables turn times words states.rounds time.stage time.phase source write.value

-- ---- the loop at stage l

module _ (globals : List IntegerType) (code : ThreadCode) (registers : Registers) (l : ℕ) (turn : Block) (comparison : ℕ) (times : LoopTimes) where
  -- how many iterations are ahead of the oldest one in a round
  abbrev pub ahead_in : ℕ → ℕ
  ahead_in round = smaller round (times.stages - 1)

  -- A READING SHOWS A SLOT of the loop in a phase of a round, which the number of its state tells
  pub record SeesLoop (m : Module) (r : Reading) (q : Slot) (round phase : ℕ) : Type 0 where
    pub in_round : IsInRound registers l times m r round phase
    pub state : q.state ≡ round * times.interval + phase
    pub values : SeesValues globals code registers turn times m r q (ahead_in round) phase
    pub flags : HasFlags m r registers times comparison round phase q

  -- the registers of the plan are there, each one's, hold next what they hold, and have room for what they keep
  pub record HasLoopRoom (owner : ℕ → Owner) (m : Module) (r : Reading) (kept : List ℕ) : Type 0 where
    pub owners : AreOwners (loop_of turn comparison) (times_view times) owner
    pub count : length kept ≡ length registers.kept
    pub still : (n : ℕ) (h : Held) → slice_get registers.kept n ≡ Some h → (width m h.register ≡ h.width) × (next_number r kept n ≡ r.signal h.register)
    pub chains : (k d : ℕ) (o : Operation) → slice_get turn.operations k ≡ Some o → d + (time_at times.operations k).stage < times.stages →
        (h : Held) × (slice_get registers.kept ((times_view times).register k d) ≡ Some h) × (width_of (value_type globals code o) ≤ h.width)
    pub bits : (s : ℕ) → s < times.stages → (h : Held) × (slice_get registers.kept (times.bits + s) ≡ Some h) × (1 ≤ h.width)

  -- the next round and phase, where the loop goes on
  abbrev pub next_phase : ℕ → ℕ
  next_phase phase = if nat_eq (suc phase) times.interval then 0 else suc phase

  abbrev pub next_round : ℕ → ℕ → ℕ
  next_round round phase = if nat_eq (suc phase) times.interval then smaller (suc round) (max 2 times.stages - 1) else round

  module _ (before after kept kept_after : List ℕ) (left : LoopLeft) where
    -- what a state of the loop leaves: the slot that follows it
    pub record LeavesRound (owner : ℕ → Owner) (exit : ℕ) (m : Module) (r : Reading) (q : Slot) (round phase : ℕ) (next : Slot) : Type 0 where
      pub last : HasBit m r left.last
          (is_leaving (loop_of turn comparison) (times_view times) owner exit round phase q)
      pub again : HasBit m r left.again
          (nat_eq (suc q.state) (state_count times)
          && goes_round (loop_of turn comparison) (times_view times) round phase q (wires (loop_of turn comparison) (times_view times) owner exit round phase q))
      pub variables : (x : ℕ) (ty : IntegerType) → slice_get code.variables x ≡ Some ty → x < length before →
          next_number r before x ≡ residue_of (width_of ty) (q.variables x) →
          (next_number r after x ≡ residue_of (width_of ty) (next.variables x)) × HasType ty (next.variables x)
      pub live : (k d n : ℕ) (t : IsLive globals code registers turn times (ahead_in (next_round round phase)) (next_phase phase) k d n) →
          (next_number r kept_after n % 2 ^ width_of (value_type globals code t.operation) ≡ residue_of (width_of (value_type globals code t.operation)) (next.registers n))
          × HasType (value_type globals code t.operation) (next.registers n)
      pub flags : (s : ℕ) → s < times.stages → IsKnown times comparison (next_round round phase) (next_phase phase) s →
          next_number r kept_after (times.bits + s) % 2 ^ 1 ≡ bit_of (is_set (next.registers (times.bits + s)))

    -- in a reading of another stage nothing changes
    pub record RestsSo (m : Module) (r : Reading) : Type 0 where
      pub last : HasBit m r left.last false
      pub again : HasBit m r left.again false
      pub variables : (x : ℕ) → x < length before → next_number r after x ≡ next_number r before x
      pub keeps : (x : ℕ) → x < length kept → next_number r kept_after x ≡ next_number r kept x

    -- A LOOP AT A STAGE: in a reading of another stage nothing changes, in one of this stage all is as one cycle of the planned loop says
    pub record LeavesLoop (old new : List Signal) : Type 0 where
      pub grows : Grows old new
      pub count : length after ≡ length before
      pub kept_count : length kept_after ≡ length kept
      pub told : TellsLoop registers l times old new left.states
      pub shown : ShowsWords globals code registers turn times left.states.rounds old new (length turn.operations) left.words
      pub stages : TellsStages old new registers times comparison left.words left.states left.bits
      pub rests : (m : Module) (r : Reading) → Grows new m.signals → Obeys m r → HasStage registers l m r → r.signal registers.stage.register ≢ l → RestsSo m r
      pub moves : (owner : ℕ → Owner) (exit : ℕ) (m : Module) (r : Reading) (q : Slot) (round phase : ℕ) → IsRightLoop globals code registers turn times comparison →
          Grows new m.signals → Obeys m r → SeesLoop m r q round phase → HasLoopRoom owner m r kept →
          LeavesRound owner exit m r q round phase (loop_next (loop_of turn comparison) (times_view times) owner exit round phase q)
