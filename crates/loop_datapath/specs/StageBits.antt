-- Which stages of a loop have an iteration, as bits.
use Rattle.std.specs.Prelude.{◌≡◌, ℕ, zero, suc, ◌+◌, ◌%◌, ◌^◌, ◌<◌, ◌≤◌, ◌⊎◌, max, Bool, false, List, length, Some, slice_get, slice_index, ℤ}
use Rattle.netlist.specs.declared.netlist.Signal.{Signal}
use Rattle.netlist.specs.declared.netlist.Module.{Module}
use Rattle.verilog_meaning.specs.Readings.{Reading, width}
use Rattle.hls_ints.specs.Residues.{bit_of}
use Rattle.hls_ints.specs.Types.{IntegerType}
use Rattle.block_ir.specs.declared.block.Block.{Block}
use Rattle.planned_block.specs.Slot.{Slot}
use Rattle.planned_loop.specs.Move.{is_set, is_in, running_next, goes_round, is_last}
use Rattle.circuit.specs.Modules.{Obeys}
use Rattle.operator_wires.specs.declared.words.Word.{Word}
use Rattle.operator_wires.specs.Gives.{Grows}
use Rattle.operator_wires.specs.Words.{IsWord}
use Rattle.block_datapath.specs.declared.registers.Held.{Held}
use Rattle.block_datapath.specs.declared.registers.Registers.{Registers}
use Rattle.thread_slots.specs.Bits.{HasBit}
use Rattle.loop_datapath.specs.declared.times.LoopTimes.{LoopTimes}
use Rattle.loop_datapath.specs.declared.states.LoopStates.{LoopStates}
use Rattle.loop_datapath.specs.declared.stage_bits.StageBits.{StageBits}
use Rattle.loop_datapath.specs.Times.{time_at, times_view, loop_of}
use Rattle.loop_datapath.specs.Ahead.{HasRounds}
use Rattle.loop_datapath.specs.States.{ShowsPhase}

-- a register for values holds a bit
pub record IsFlag (m : Module) (r : Reading) (registers : Registers) (n : ℕ) (t : Bool) : Type 0 where
  pub held : Held
  pub listed : slice_get registers.kept n ≡ Some held
  pub wide : width m held.register ≡ held.width
  pub room : 1 ≤ held.width
  pub fits : r.signal held.register < 2 ^ held.width
  pub shows : r.signal held.register % 2 ^ 1 ≡ bit_of t

-- the registers tell of each stage whether an iteration is in it, where that is known: of the first one behind its comparison, of another one once
-- so many rounds have begun
abbrev pub IsKnown : LoopTimes → ℕ → ℕ → ℕ → ℕ → Type 0
IsKnown times comparison round phase zero = (0 < round) ⊎ ((time_at times.operations comparison).phase < phase)
IsKnown times comparison round phase (suc s) = s < round

abbrev pub HasFlags : Module → Reading → Registers → LoopTimes → ℕ → ℕ → ℕ → Slot → Type 0
HasFlags m r registers times comparison round phase q =
    (s : ℕ) → s < times.stages → IsKnown times comparison round phase s → IsFlag m r registers (times.bits + s) (is_set (q.registers (times.bits + s)))

-- which phase it is, and which rounds have begun
pub record IsTold (m : Module) (r : Reading) (times : LoopTimes) (states : LoopStates) (round phase : ℕ) : Type 0 where
  pub none : HasBit m r states.never false
  pub phases : ShowsPhase m r states phase
  pub rounds : HasRounds m r states.rounds (max 2 times.stages) round

-- in a phase the word of the comparison shows this, if the phase is its own
pub record SeesComparison (m : Module) (r : Reading) (times : LoopTimes) (comparison : ℕ) (words : List Word) (phase : ℕ) (wire : ℕ → ℤ) : Type 0 where
  pub word : Word
  pub listed : slice_get words comparison ≡ Some word
  pub ty : IntegerType
  pub shows : (time_at times.operations comparison).phase ≡ phase → IsWord m r word ty (wire comparison)

-- a reading of a phase of a round shows a slot as far as it tells where the iterations are
pub record SeesStages (m : Module) (r : Reading) (registers : Registers) (times : LoopTimes) (comparison : ℕ) (words : List Word) (states : LoopStates)
    (round phase : ℕ) (q : Slot) (wire : ℕ → ℤ) : Type 0 where
  pub some : 0 < times.stages
  pub told : IsTold m r times states round phase
  pub flags : HasFlags m r registers times comparison round phase q
  pub compares : SeesComparison m r times comparison words phase wire
  pub inside : (time_at times.operations comparison).phase < times.interval

module _ (old new : List Signal) where
  pub record ShowsFlag (registers : Registers) (n place : ℕ) : Type 0 where
    pub grows : Grows old new
    pub shows : (m : Module) (r : Reading) (t : Bool) → Grows new m.signals → Obeys m r → IsFlag m r registers n t → HasBit m r place t

  module _ (registers : Registers) (times : LoopTimes) where
    -- WHETHER THE ITERATION OF THIS ROUND RUNS, where that is known at the end of this state
    pub record ShowsRunning (comparison : ℕ) (words : List Word) (states : LoopStates) (place : ℕ) : Type 0 where
      pub grows : Grows old new
      pub shows : (turn : Block) (m : Module) (r : Reading) (round phase : ℕ) (q : Slot) (wire : ℕ → ℤ) → Grows new m.signals → Obeys m r →
          SeesStages m r registers times comparison words states round phase q wire → (0 < round) ⊎ ((time_at times.operations comparison).phase ≤ phase) →
          HasBit m r place (is_set (running_next (loop_of turn comparison) (times_view times) round phase q wire))

    -- which of the first n stages have an iteration
    pub record ShowsInside (running : ℕ) (rounds : List ℕ) (n : ℕ) (inside : List ℕ) : Type 0 where
      pub grows : Grows old new
      pub count : length inside ≡ n
      pub first : slice_index inside 0 ≡ running
      pub shows : (comparison : ℕ) (turn : Block) (m : Module) (r : Reading) (round phase : ℕ) (q : Slot) (wire : ℕ → ℤ) → Grows new m.signals → Obeys m r →
          HasRounds m r rounds (max 2 times.stages) round → HasFlags m r registers times comparison round phase q → (s : ℕ) → suc s < n → suc s < times.stages →
          HasBit m r (slice_index inside (suc s)) (is_in (loop_of turn comparison) (times_view times) round phase q wire (suc s))

    -- WHERE THE ITERATIONS ARE
    pub record TellsStages (comparison : ℕ) (words : List Word) (states : LoopStates) (bits : StageBits) : Type 0 where
      pub grows : Grows old new
      pub count : length bits.inside ≡ max 1 times.stages
      pub inside : (turn : Block) (m : Module) (r : Reading) (round phase : ℕ) (q : Slot) (wire : ℕ → ℤ) → Grows new m.signals → Obeys m r →
          SeesStages m r registers times comparison words states round phase q wire →
          (s : ℕ) → s < times.stages → (0 < s) ⊎ (0 < round) ⊎ ((time_at times.operations comparison).phase ≤ phase) →
          HasBit m r (slice_index bits.inside s) (is_in (loop_of turn comparison) (times_view times) round phase q wire s)
      pub goes_round : (turn : Block) (m : Module) (r : Reading) (round phase : ℕ) (q : Slot) (wire : ℕ → ℤ) → Grows new m.signals → Obeys m r →
          SeesStages m r registers times comparison words states round phase q wire → suc phase ≡ times.interval →
          HasBit m r bits.goes_round (goes_round (loop_of turn comparison) (times_view times) round phase q wire)
      pub is_last : (turn : Block) (m : Module) (r : Reading) (round phase : ℕ) (q : Slot) (wire : ℕ → ℤ) → Grows new m.signals → Obeys m r →
          SeesStages m r registers times comparison words states round phase q wire → suc phase ≡ times.interval →
          HasBit m r bits.is_last (is_last (loop_of turn comparison) (times_view times) round phase q wire)
