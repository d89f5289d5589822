-- The states of a loop as bits. State round * interval + phase is the phase of a round; the last round stands for all that come after it, too.
use Rattle.std.specs.Prelude.{◌≡◌, ◌≢◌, ℕ, suc, ◌+◌, ◌*◌, ◌%◌, ◌^◌, ◌<◌, ◌≤◌, max, nat_eq, nat_le, Bool, true, false, not, ◌&&◌, List, length, slice_index_or}
use Rattle.netlist.specs.declared.netlist.Signal.{Signal}
use Rattle.netlist.specs.declared.netlist.Module.{Module}
use Rattle.verilog_meaning.specs.Readings.{Reading, width}
use Rattle.circuit.specs.Modules.{Obeys}
use Rattle.operator_wires.specs.Gives.{Grows}
use Rattle.block_datapath.specs.declared.registers.Registers.{Registers}
use Rattle.block_datapath.specs.Chains.{IsMoment}
use Rattle.block_datapath.specs.Leave.{HasStage}
use Rattle.thread_slots.specs.Bits.{HasBit, HaveBits}
use Rattle.loop_datapath.specs.declared.times.LoopTimes.{LoopTimes}
use Rattle.loop_datapath.specs.declared.states.StateSet.{StateSet}
use Rattle.loop_datapath.specs.declared.states.StateSet.TheVariants.{Phase, From}
use Rattle.loop_datapath.specs.declared.states.LoopStates.{LoopStates}
use Rattle.loop_datapath.specs.Ahead.{HasRounds}

abbrev pub contains : StateSet → ℕ → Bool
contains (Phase interval phase) s = not (nat_eq interval 0) && nat_eq (s % interval) phase
contains (From first) s = nat_le first s

-- how many states a loop has: two rounds at least have states of their own
abbrev pub state_count : LoopTimes → ℕ
state_count t = max 2 t.stages * t.interval

-- the bit of a phase; of one that the loop does not have it is the one that is never set
abbrev pub phase_bit : LoopStates → ℕ → ℕ
phase_bit states k = slice_index_or states.phases k states.never

-- ---- of what bit number k is made

-- whether a reading is at the stage, of which another bit tells, and there in state k of so many
pub record StateOf (registers : Registers) (at count : ℕ) (m : Module) (r : Reading) (k : ℕ) (t : Bool) : Type 0 where
  pub there : Bool
  pub state : ℕ
  pub moment : IsMoment m r registers at count there state
  pub is : t ≡ (there && nat_eq state k)

-- whether it is at the stage, and there in one of the states of a part, by the bits of all states
pub record PartOf (never : ℕ) (states : List ℕ) (part : ℕ → StateSet) (m : Module) (r : Reading) (k : ℕ) (t : Bool) : Type 0 where
  pub none : HasBit m r never false
  pub there : Bool
  pub state : ℕ
  pub below : there ≡ true → state < length states
  pub has : HaveBits m r states (length states) (λ j. there && nat_eq state j)
  pub is : t ≡ (there && contains (part k) state)

-- ---- the loop at stage l

-- a reading is in this phase, or in none
abbrev pub ShowsPhase : Module → Reading → LoopStates → ℕ → Type 0
ShowsPhase m r states phase = (k : ℕ) → HasBit m r (phase_bit states k) (nat_eq phase k)

abbrev pub ShowsNoPhase : Module → Reading → LoopStates → Type 0
ShowsNoPhase m r states = (k : ℕ) → HasBit m r (phase_bit states k) false

module _ (registers : Registers) (l : ℕ) (times : LoopTimes) where
  -- a reading is in this phase of this round
  pub record IsInRound (m : Module) (r : Reading) (round phase : ℕ) : Type 0 where
    pub has : HasStage registers l m r
    pub stage : r.signal registers.stage.register ≡ l
    pub wide : width m registers.state.register ≡ registers.state.width
    pub state : r.signal registers.state.register ≡ round * times.interval + phase
    pub phase_below : phase < times.interval
    pub round_below : round < max 2 times.stages
    pub room : state_count times ≤ 2 ^ registers.state.width

  -- THE BITS OF A LOOP tell the phase and the round, and are not set at another stage
  pub record TellsLoop (old new : List Signal) (states : LoopStates) : Type 0 where
    pub grows : Grows old new
    pub round_count : length states.rounds ≡ max 2 times.stages
    pub none : (m : Module) (r : Reading) → Grows new m.signals → Obeys m r → HasBit m r states.never false
    pub phases : (m : Module) (r : Reading) (round phase : ℕ) → Grows new m.signals → Obeys m r → IsInRound m r round phase → ShowsPhase m r states phase
    pub rounds : (m : Module) (r : Reading) (round phase : ℕ) → Grows new m.signals → Obeys m r → IsInRound m r round phase →
        HasRounds m r states.rounds (max 2 times.stages) round
    pub last : (m : Module) (r : Reading) (round phase : ℕ) → Grows new m.signals → Obeys m r → IsInRound m r round phase →
        HasBit m r states.last (nat_eq (suc (round * times.interval + phase)) (state_count times))
    pub rests : (m : Module) (r : Reading) → Grows new m.signals → Obeys m r → HasStage registers l m r → r.signal registers.stage.register ≢ l →
        ShowsNoPhase m r states
    pub last_rests : (m : Module) (r : Reading) → Grows new m.signals → Obeys m r → HasStage registers l m r → r.signal registers.stage.register ≢ l →
        HasBit m r states.last false
