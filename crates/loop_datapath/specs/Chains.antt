-- What the registers for values hold next in a loop: the values of operations, handed on along chains, and which stages have an iteration.
use Rattle.std.specs.Prelude.{◌≡◌, ◌≢◌, ℕ, zero, suc, ◌+◌, ◌-◌, ◌<◌, nat_eq, Bool, true, false, List, length, Option, Some, None, slice_get, slice_index}
use Rattle.netlist.specs.declared.netlist.Signal.{Signal}
use Rattle.netlist.specs.declared.netlist.Module.{Module}
use Rattle.verilog_meaning.specs.Readings.{Reading, width}
use Rattle.hls_ints.specs.Residues.{bit_of}
use Rattle.circuit.specs.Modules.{Obeys}
use Rattle.operator_wires.specs.declared.words.Word.{Word}
use Rattle.operator_wires.specs.Gives.{Grows}
use Rattle.operator_wires.specs.Words.{resized_word}
use Rattle.block_datapath.specs.declared.registers.Held.{Held}
use Rattle.block_datapath.specs.declared.registers.Registers.{Registers}
use Rattle.block_datapath.specs.Chains.{next_number, held_width}
use Rattle.thread_slots.specs.Bits.{HasBit}
use Rattle.loop_datapath.specs.declared.times.LoopTimes.{LoopTimes}
use Rattle.loop_datapath.specs.declared.states.LoopStates.{LoopStates}
use Rattle.loop_datapath.specs.declared.stage_bits.StageBits.{StageBits}
use Rattle.loop_datapath.specs.Times.{time_at}
use Rattle.loop_datapath.specs.States.{ShowsPhase, ShowsNoPhase}

-- the number of a register, in w bits; of none it is 0
abbrev pub held_number : Reading → ℕ → Option Held → ℕ
held_number r w None = 0
held_number r w (Some h) = resized_word false h.width w (r.signal h.register)

-- what a register of a chain gets, in w bits: the value, or what the register before it holds
abbrev pub copy_number : Reading → List Held → ℕ → Word → ℕ → ℕ → ℕ
copy_number r kept chain word w zero = resized_word false word.width w (r.signal word.place)
copy_number r kept chain word w (suc d) = held_number r w (slice_get kept (chain + d))

-- what register x of these gets there, as wide as it is
abbrev pub copy_in : Reading → List Held → ℕ → Word → ℕ → ℕ → ℕ
copy_in r kept chain word d x = copy_number r kept chain word (held_width (slice_get kept x)) d

-- a bit as wide as register x
abbrev pub bit_in : List Held → ℕ → Bool → ℕ
bit_in kept x t = resized_word false 1 (held_width (slice_get kept x)) (bit_of t)

-- the word and the registers are as wide as they say
pub record CanCopy (m : Module) (registers : Registers) (word : Word) : Type 0 where
  pub value : width m word.place ≡ word.width
  pub kept : (n : ℕ) (h : Held) → slice_get registers.kept n ≡ Some h → width m h.register ≡ h.width

-- register d of the chain of operation k
abbrev pub chain_at : LoopTimes → ℕ → ℕ → ℕ
chain_at times k d = (time_at times.operations k).chain + d

-- operation k has a register d
abbrev pub IsInChain : LoopTimes → ℕ → ℕ → Type 0
IsInChain times k d = d + (time_at times.operations k).stage < times.stages

-- no two registers of the chains of the first n operations are the same
abbrev pub AreChainsApart : LoopTimes → ℕ → Type 0
AreChainsApart times n =
    (i j d e : ℕ) → i < n → j < n → IsInChain times i d → IsInChain times j e → chain_at times i d ≡ chain_at times j e → (i ≡ j) × (d ≡ e)

-- whether the register of stage s is given a bit in a phase, and that of which stage
abbrev pub is_given : LoopTimes → ℕ → ℕ → ℕ → Bool
is_given times comparison phase zero = nat_eq phase (time_at times.operations comparison).phase
is_given times comparison phase (suc s) = nat_eq phase (times.interval - 1)

module _ (old new : List Signal) (registers : Registers) where
  pub record Copies (chain : ℕ) (word : Word) (d w place : ℕ) : Type 0 where
    pub grows : Grows old new
    pub shows : (m : Module) (r : Reading) → Grows new m.signals → Obeys m r → CanCopy m registers word → r.signal place ≡ copy_number r registers.kept chain word w d

  module _ (chain : ℕ) (word : Word) (here : ℕ) (before after : List ℕ) where
    -- where the bit is set register d of a chain gets its copy; all else stays
    pub record KeepsCopy (d : ℕ) : Type 0 where
      pub grows : Grows old new
      pub count : length after ≡ length before
      pub shows : (m : Module) (r : Reading) → Grows new m.signals → Obeys m r → CanCopy m registers word → HasBit m r here true → chain + d < length before →
          length before ≡ length registers.kept → next_number r after (chain + d) ≡ copy_in r registers.kept chain word d (chain + d)
      pub others : (m : Module) (r : Reading) (x : ℕ) → Grows new m.signals → Obeys m r → x < length before → x ≢ chain + d → next_number r after x ≡ next_number r before x
      pub rests : (m : Module) (r : Reading) (x : ℕ) → Grows new m.signals → Obeys m r → HasBit m r here false → x < length before →
          next_number r after x ≡ next_number r before x

    -- and so do the first n of the chain
    pub record KeepsCopies (n : ℕ) : Type 0 where
      pub grows : Grows old new
      pub count : length after ≡ length before
      pub shows : (m : Module) (r : Reading) (d : ℕ) → Grows new m.signals → Obeys m r → CanCopy m registers word → HasBit m r here true → d < n → chain + d < length before →
          length before ≡ length registers.kept → next_number r after (chain + d) ≡ copy_in r registers.kept chain word d (chain + d)
      pub others : (m : Module) (r : Reading) (x : ℕ) → Grows new m.signals → Obeys m r → x < length before → ((d : ℕ) → d < n → x ≢ chain + d) →
          next_number r after x ≡ next_number r before x
      pub rests : (m : Module) (r : Reading) (x : ℕ) → Grows new m.signals → Obeys m r → HasBit m r here false → x < length before →
          next_number r after x ≡ next_number r before x

  module _ (times : LoopTimes) (states : LoopStates) (before after : List ℕ) (words : List Word) where
    -- THE CHAINS of the first n operations: in the phase of an operation its value, and what its registers hold, are handed on
    pub record KeepsChains (n : ℕ) : Type 0 where
      pub grows : Grows old new
      pub count : length after ≡ length before
      pub shows : (m : Module) (r : Reading) (phase i d : ℕ) (word : Word) → Grows new m.signals → Obeys m r → ShowsPhase m r states phase → AreChainsApart times n →
          i < n → slice_get words i ≡ Some word → CanCopy m registers word → phase ≡ (time_at times.operations i).phase → IsInChain times i d →
          chain_at times i d < length before → length before ≡ length registers.kept →
          next_number r after (chain_at times i d) ≡ copy_in r registers.kept (time_at times.operations i).chain word d (chain_at times i d)
      pub stays : (m : Module) (r : Reading) (phase i d : ℕ) → Grows new m.signals → Obeys m r → ShowsPhase m r states phase → AreChainsApart times n →
          i < n → phase ≢ (time_at times.operations i).phase → IsInChain times i d → chain_at times i d < length before →
          next_number r after (chain_at times i d) ≡ next_number r before (chain_at times i d)
      pub others : (m : Module) (r : Reading) (x : ℕ) → Grows new m.signals → Obeys m r → x < length before →
          ((i d : ℕ) → i < n → IsInChain times i d → x ≢ chain_at times i d) → next_number r after x ≡ next_number r before x
      pub rests : (m : Module) (r : Reading) (x : ℕ) → Grows new m.signals → Obeys m r → ShowsNoPhase m r states → x < length before →
          next_number r after x ≡ next_number r before x

  -- ---- stages

  -- where a condition holds a register gets a bit; all else stays
  pub record KeepsBit (before after : List ℕ) (number condition bit : ℕ) : Type 0 where
    pub grows : Grows old new
    pub count : length after ≡ length before
    pub shows : (m : Module) (r : Reading) (t : Bool) → Grows new m.signals → Obeys m r → HasBit m r condition true → HasBit m r bit t → number < length before →
        length before ≡ length registers.kept → next_number r after number ≡ bit_in registers.kept number t
    pub others : (m : Module) (r : Reading) (x : ℕ) → Grows new m.signals → Obeys m r → x < length before → x ≢ number → next_number r after x ≡ next_number r before x
    pub rests : (m : Module) (r : Reading) (x : ℕ) → Grows new m.signals → Obeys m r → HasBit m r condition false → x < length before →
        next_number r after x ≡ next_number r before x

  -- THE BITS OF THE FIRST n STAGES: that of the first one in the comparison's phase, and at the end of a round each other one that of the stage before
  pub record KeepsStages (times : LoopTimes) (comparison : ℕ) (bits : StageBits) (states : LoopStates) (before after : List ℕ) (n : ℕ) : Type 0 where
    pub grows : Grows old new
    pub count : length after ≡ length before
    pub shows : (m : Module) (r : Reading) (phase s : ℕ) (t : Bool) → Grows new m.signals → Obeys m r → ShowsPhase m r states phase → s < n →
        is_given times comparison phase s ≡ true → HasBit m r (slice_index bits.inside (s - 1)) t → times.bits + s < length before →
        length before ≡ length registers.kept → next_number r after (times.bits + s) ≡ bit_in registers.kept (times.bits + s) t
    pub stays : (m : Module) (r : Reading) (phase s : ℕ) → Grows new m.signals → Obeys m r → ShowsPhase m r states phase → s < n →
        is_given times comparison phase s ≡ false → times.bits + s < length before → next_number r after (times.bits + s) ≡ next_number r before (times.bits + s)
    pub others : (m : Module) (r : Reading) (x : ℕ) → Grows new m.signals → Obeys m r → x < length before → ((s : ℕ) → s < n → x ≢ times.bits + s) →
        next_number r after x ≡ next_number r before x
    pub rests : (m : Module) (r : Reading) (x : ℕ) → Grows new m.signals → Obeys m r → ShowsNoPhase m r states → x < length before →
        next_number r after x ≡ next_number r before x
