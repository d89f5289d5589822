-- What stands while the wires of a loop are put together.
use Rattle.std.specs.Prelude.{◌≡◌, ℕ, ◌<◌, ◌≤◌, ◌^◌, max, List, length, Some, slice_get}
use Rattle.hls_ints.specs.Types.{IntegerType, width_of}
use Rattle.netlist.specs.declared.netlist.Signal.{Signal}
use Rattle.operator_wires.specs.declared.words.Word.{Word}
use Rattle.operator_wires.specs.Built.{Base, IsEarlier, AreWires, Adds, StandsAs, AddsWord}
use Rattle.block_ir.specs.declared.block.Final.{Final}
use Rattle.block_ir.specs.declared.code.ThreadCode.{ThreadCode}
use Rattle.thread_promise.specs.Types.{source_type}
use Rattle.block_datapath.specs.declared.registers.Held.{Held}
use Rattle.block_datapath.specs.declared.registers.Registers.{Registers}
use Rattle.block_datapath.specs.Wired.{AreRegisters, CanRead, AreChains, AddsLinks}
use Rattle.thread_slots.specs.Bits.{AddsBits}
use Rattle.loop_datapath.specs.declared.times.LoopTimes.{LoopTimes}
use Rattle.loop_datapath.specs.declared.leaving_loop.LoopWrite.{LoopWrite}
use Rattle.loop_datapath.specs.declared.leaving_loop.LoopLeft.{LoopLeft}
use Rattle.loop_datapath.specs.declared.states.LoopStates.{LoopStates}
use Rattle.loop_datapath.specs.declared.stage_bits.StageBits.{StageBits}
use Rattle.loop_datapath.specs.States.{state_count, phase_bit}

module _ (signals : List Signal) (base : Base) where
  -- words of values of types
  abbrev pub AreWords : List Word → Type 0
  AreWords words = (k : ℕ) (word : Word) → slice_get words k ≡ Some word → (ty : IntegerType) × StandsAs signals base ty word

  -- bits
  abbrev pub AreBits : List ℕ → Type 0
  AreBits bits = (k place : ℕ) → slice_get bits k ≡ Some place → IsEarlier signals base place 1

  -- those of phases, and all of the states of a loop
  abbrev pub ArePhases : LoopStates → Type 0
  ArePhases states = (k : ℕ) → IsEarlier signals base (phase_bit states k) 1

  pub record AreLoopStates (states : LoopStates) : Type 0 where
    pub never : IsEarlier signals base states.never 1
    pub phases : ArePhases states
    pub rounds : AreBits states.rounds
    pub last : IsEarlier signals base states.last 1

  -- what operands of iterations come from
  pub record AreFound (types : List IntegerType) (slot : Registers) (given : List Word) : Type 0 where
    pub registers : AreRegisters signals base types slot
    pub words : AreWords given

  -- what bits of stages are made of, in a loop with so many
  pub record AreStages (types : List IntegerType) (slot : Registers) (times : LoopTimes) (given : List Word) (states : LoopStates) : Type 0 where
    pub registers : AreRegisters signals base types slot
    pub words : AreWords given
    pub bits : AreLoopStates states
    pub round_count : length states.rounds ≡ max 2 times.stages

-- ---- what is promised of what is added, from some signals to others

module _ (old new : List Signal) where
  -- a word of an operand, of a type
  abbrev pub IsWordAhead : List IntegerType → Registers → List Word → IntegerType → Word → Type 0
  IsWordAhead types registers words ty out = (base : Base) → AreFound old base types registers words → AddsWord base old new ty out

  -- the same of the value of an operation, which is no variable
  abbrev pub IsValueAhead : Registers → List Word → IntegerType → Word → Type 0
  IsValueAhead registers words ty out = (types : List IntegerType) → IsWordAhead types registers words ty out

  abbrev pub IsWireWord : List Word → IntegerType → Word → Type 0
  IsWireWord words ty out = (base : Base) → base.first ≤ length old → AreWords old base words → AddsWord base old new ty out

  abbrev pub IsRegisterWord : Registers → IntegerType → Word → Type 0
  IsRegisterWord registers ty out = (base : Base) (types : List IntegerType) → AreRegisters old base types registers → AddsWord base old new ty out

  abbrev pub IsLowWord : Held → IntegerType → Word → Type 0
  IsLowWord held ty out = (base : Base) → IsEarlier old base held.register held.width → AddsWord base old new ty out

  -- of what a final leaves, from a word of what it is made of
  abbrev pub IsLeftWord : Final → Word → IntegerType → Word → Type 0
  IsLeftWord f word ty out = (base : Base) → StandsAs old base (source_type f.value.source) word → AddsWord base old new ty out

  -- a word of an operand in each round, where there are bits of so many rounds
  abbrev pub IsWordIn : List IntegerType → Registers → List Word → List ℕ → ℕ → IntegerType → Word → Type 0
  IsWordIn types registers words rounds stages ty out =
      (base : Base) → AreFound old base types registers words → AreBits old base rounds → stages ≤ length rounds → AddsWord base old new ty out

  -- the same place by place: where more rounds have begun
  abbrev pub IsFurther : List IntegerType → Registers → List Word → List ℕ → ℕ → IntegerType → ℕ → ℕ → Type 0
  IsFurther types registers words rounds round ty place out =
      (base : Base) → AreFound old base types registers words → AreBits old base rounds → round < length rounds → IsEarlier old base place (width_of ty) →
      Adds base old new (width_of ty) out

  -- a word of an operation in each round, where the memories are the arrays of the code
  abbrev pub IsOperationIn : ThreadCode → Registers → List Word → List ℕ → ℕ → IntegerType → Word → Type 0
  IsOperationIn code registers words rounds stages ty out =
      (base : Base) → CanRead base code registers → AreFound old base code.variables registers words → AreBits old base rounds → stages ≤ length rounds →
      AddsWord base old new ty out

  -- words of all operations
  pub record AddsWords (base : Base) (given : List Word) : Type 0 where
    pub wires : AreWires base old new
    pub words : AreWords new base given

  abbrev pub AreWordsAdded : ThreadCode → Registers → List ℕ → ℕ → List Word → Type 0
  AreWordsAdded code registers rounds stages words =
      (base : Base) → CanRead base code registers → AreRegisters old base code.variables registers → AreBits old base rounds → stages ≤ length rounds →
      AddsWords base words

  -- bits of states, where a bit tells the stage
  abbrev pub AreStateBits : Registers → ℕ → ℕ → List ℕ → Type 0
  AreStateBits registers at states bits =
      (base : Base) → IsEarlier old base registers.state.register registers.state.width → IsEarlier old base at 1 → states ≤ 2 ^ registers.state.width →
      AddsBits base old new bits

  -- bits of some states, where another one is never set
  abbrev pub AreSomeBits : ℕ → List ℕ → List ℕ → Type 0
  AreSomeBits never states bits = (base : Base) → IsEarlier old base never 1 → AreBits old base states → AddsBits base old new bits

  -- THE BITS OF A LOOP stand
  pub record AddsLoopBits (base : Base) (states : LoopStates) : Type 0 where
    pub wires : AreWires base old new
    pub bits : AreLoopStates new base states

  abbrev pub AreLoopBits : Registers → ℕ → LoopTimes → LoopStates → Type 0
  AreLoopBits registers l times states =
      (base : Base) (types : List IntegerType) → AreRegisters old base types registers → l < 2 ^ registers.stage.width →
      state_count times ≤ 2 ^ registers.state.width → AddsLoopBits base states

  -- bits of stages
  abbrev pub IsFlagBit : Registers → ℕ → Type 0
  IsFlagBit registers place = (base : Base) (types : List IntegerType) → AreRegisters old base types registers → Adds base old new 1 place

  abbrev pub IsRunningBit : Registers → LoopTimes → List Word → LoopStates → ℕ → Type 0
  IsRunningBit registers times words states place =
      (base : Base) (types : List IntegerType) → AreStages old base types registers times words states → Adds base old new 1 place

  abbrev pub AreInsideBits : Registers → LoopTimes → ℕ → List ℕ → List ℕ → Type 0
  AreInsideBits registers times running rounds inside =
      (base : Base) (types : List IntegerType) → AreRegisters old base types registers → IsEarlier old base running 1 → AreBits old base rounds →
      times.stages ≤ length rounds → AddsBits base old new inside

  pub record AddsStageBits (base : Base) (bits : StageBits) : Type 0 where
    pub wires : AreWires base old new
    pub inside : AreBits new base bits.inside
    pub goes_round : IsEarlier new base bits.goes_round 1
    pub is_last : IsEarlier new base bits.is_last 1

  abbrev pub AreStageBits : Registers → LoopTimes → List Word → LoopStates → StageBits → Type 0
  AreStageBits registers times words states bits =
      (base : Base) (types : List IntegerType) → AreStages old base types registers times words states → AddsStageBits base bits

  -- ---- links

  -- what a register of a chain gets
  abbrev pub IsCopy : Registers → Word → ℕ → ℕ → Type 0
  IsCopy registers word width place =
      (base : Base) (types : List IntegerType) → AreRegisters old base types registers → IsEarlier old base word.place word.width → 1 ≤ width → width ≤ 64 →
      Adds base old new width place

  abbrev pub KeepsCopyLinks : Registers → Word → ℕ → List ℕ → List ℕ → Type 0
  KeepsCopyLinks registers word here before after =
      (base : Base) (types : List IntegerType) → AreRegisters old base types registers → IsEarlier old base word.place word.width → IsEarlier old base here 1 →
      AreChains old base registers.kept before → AddsLinks base old new registers.kept after

  abbrev pub KeepsChainLinks : Registers → List Word → LoopStates → List ℕ → List ℕ → Type 0
  KeepsChainLinks registers words states before after =
      (base : Base) (types : List IntegerType) → AreRegisters old base types registers → AreWords old base words → ArePhases old base states →
      AreChains old base registers.kept before → AddsLinks base old new registers.kept after

  abbrev pub KeepsBitLinks : Registers → List ℕ → List ℕ → ℕ → ℕ → Type 0
  KeepsBitLinks registers before after condition bit =
      (base : Base) (types : List IntegerType) → AreRegisters old base types registers → IsEarlier old base condition 1 → IsEarlier old base bit 1 →
      AreChains old base registers.kept before → AddsLinks base old new registers.kept after

  abbrev pub KeepsStageLinks : Registers → LoopTimes → StageBits → LoopStates → List ℕ → List ℕ → Type 0
  KeepsStageLinks registers times bits states before after =
      (base : Base) (types : List IntegerType) → AreRegisters old base types registers → ArePhases old base states → AreBits old base bits.inside →
      length bits.inside ≡ max 1 times.stages → AreChains old base registers.kept before → AddsLinks base old new registers.kept after

  -- what variables get, where two bits are set
  abbrev pub SetsFinalLinks : List IntegerType → Registers → List Word → ℕ → ℕ → List ℕ → List ℕ → Type 0
  SetsFinalLinks types registers words last end before after =
      (base : Base) → AreFound old base types registers words → IsEarlier old base last 1 → IsEarlier old base end 1 → AreChains old base registers.variables before →
      AddsLinks base old new registers.variables after

  -- a write of an array
  pub record AddsWrite (base : Base) (s t : IntegerType) (write : LoopWrite) : Type 0 where
    pub wires : AreWires base old new
    pub condition : IsEarlier new base write.condition 1
    pub index : StandsAs new base s write.index
    pub value : StandsAs new base t write.value

  abbrev pub IsWriteAdded : List IntegerType → Registers → LoopTimes → List Word → StageBits → LoopStates → IntegerType → IntegerType → LoopWrite → Type 0
  IsWriteAdded types registers times words bits states s t write =
      (base : Base) → AreFound old base types registers words → AreBits old base bits.inside → AreLoopStates old base states →
      times.stages ≤ length states.rounds → AddsWrite base s t write

  -- A LOOP AT A STAGE
  pub record AddsLoop (base : Base) (registers : Registers) (variables nexts : List ℕ) (left : LoopLeft) : Type 0 where
    pub wires : AreWires base old new
    pub words : AreWords new base left.words
    pub states : AreLoopStates new base left.states
    pub inside : AreBits new base left.bits.inside
    pub last : IsEarlier new base left.last 1
    pub again : IsEarlier new base left.again 1
    pub chains : AreChains new base registers.variables variables
    pub kept : AreChains new base registers.kept nexts

  abbrev pub IsLoopAdded : ThreadCode → Registers → ℕ → LoopTimes → List ℕ → List ℕ → List ℕ → List ℕ → LoopLeft → Type 0
  IsLoopAdded code registers l times before after kept kept_after left =
      (base : Base) → CanRead base code registers → AreRegisters old base code.variables registers → l < 2 ^ registers.stage.width →
      state_count times ≤ 2 ^ registers.state.width → AreChains old base registers.variables before → AreChains old base registers.kept kept →
      AddsLoop base registers after kept_after left
