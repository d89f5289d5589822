-- What stands while the wires of a block are put together: registers, values of operations, and the last links of chains.
use Rattle.std.specs.Prelude.{◌≡◌, ℕ, ◌<◌, ◌≤◌, ◌^◌, List, length, slice_get, Some}
use Rattle.hls_ints.specs.Types.{IntegerType, width_of}
use Rattle.netlist.specs.declared.netlist.Signal.{Signal}
use Rattle.netlist.specs.declared.netlist.Memory.{Memory}
use Rattle.bank_partition.specs.declared.banks.Spread.{Spread}
use Rattle.thread_promise.specs.Globals.{IsSmallPower}
use Rattle.block_ir.specs.declared.code.Array.{Array}
use Rattle.block_ir.specs.declared.code.ThreadCode.{ThreadCode}
use Rattle.block_ir.specs.declared.plan.BlockPlan.{BlockPlan}
use Rattle.operator_wires.specs.declared.words.Word.{Word}
use Rattle.operator_wires.specs.Built.{Base, IsEarlier, AreWires, Adds, StandsAs, AddsWord}
use Rattle.thread_promise.specs.Types.{last_type, element_type}
use Rattle.block_datapath.specs.declared.registers.Held.{Held}
use Rattle.block_datapath.specs.declared.registers.UnitResults.{UnitResults}
use Rattle.block_datapath.specs.declared.registers.Registers.{Registers}
use Rattle.block_datapath.specs.declared.operands.Given.{Given}
use Rattle.block_datapath.specs.declared.states.Moment.{Moment}
use Rattle.block_datapath.specs.declared.ending.Finish.{Finish}
use Rattle.block_datapath.specs.declared.leaving_block.Left.{Left}

-- the memories of a base are the arrays of a code: as many words, as wide as the type of the elements
pub record HasMemories (base : Base) (code : ThreadCode) : Type 0 where
  pub each : (a : ℕ) (array : Array) → slice_get code.arrays a ≡ Some array →
      (s : Memory) × (base.memory a ≡ Some s) × (s.width ≡ width_of array.ty) × (length s.initial ≡ array.length)

-- what wires may read besides earlier wires: memories, and the inputs on which banks tell words, which are 1, 2, 4 or 8 for each global
pub record CanRead (base : Base) (code : ThreadCode) (registers : Registers) : Type 0 where
  pub memories : HasMemories base code
  pub words : (n : ℕ) (h : Held) → slice_get registers.words n ≡ Some h → base.first ≤ h.register
  pub powers : (x : ℕ) (s : Spread) → slice_get registers.spreads x ≡ Some s → IsSmallPower s.count

module _ (signals : List Signal) (base : Base) where
  -- variable x has a type, and its register has this width
  pub record IsVariableRegister (types : List IntegerType) (x : ℕ) (h : Held) : Type 0 where
    pub ty : IntegerType
    pub declared : slice_get types x ≡ Some ty
    pub says : h.width ≡ width_of ty
    pub stands : IsEarlier signals base h.register (width_of ty)

  -- the results of units stand, as wide as their types
  abbrev pub AreUnits : List UnitResults → Type 0
  AreUnits units = (x n place : ℕ) (u : UnitResults) → slice_get units x ≡ Some u → slice_get u.places n ≡ Some place → IsEarlier signals base place (width_of u.ty)

  -- THE REGISTERS of a slot stand at earlier places, as wide as they say
  pub record AreRegisters (types : List IntegerType) (registers : Registers) : Type 0 where
    pub stage : IsEarlier signals base registers.stage.register registers.stage.width
    pub state : IsEarlier signals base registers.state.register registers.state.width
    pub beat : IsEarlier signals base registers.beat 1
    pub variables : (x : ℕ) (h : Held) → slice_get registers.variables x ≡ Some h → IsVariableRegister types x h
    pub kept : (x : ℕ) (h : Held) → slice_get registers.kept x ≡ Some h → IsEarlier signals base h.register h.width
    -- and inputs of banks, where they may be read
    pub words : (n : ℕ) (h : Held) → slice_get registers.words n ≡ Some h → base.first ≤ h.register → IsEarlier signals base h.register h.width
    pub units : AreUnits registers.units

  -- values are words of types
  abbrev pub AreValues : List Given → Type 0
  AreValues values = (k : ℕ) (g : Given) → slice_get values k ≡ Some g → (ty : IntegerType) × StandsAs signals base ty g.word

  -- what operands come from
  pub record AreSources (types : List IntegerType) (slot : Registers) (given : List Given) : Type 0 where
    pub registers : AreRegisters types slot
    pub values : AreValues given

  -- a word of the type of a variable, if it is one's number
  pub record IsOwnWord (types : List IntegerType) (number : ℕ) (word : Word) : Type 0 where
    pub ty : IntegerType
    pub own : (declared : IntegerType) → slice_get types number ≡ Some declared → ty ≡ declared
    pub stands : StandsAs signals base ty word

  abbrev pub AreFinishes : List IntegerType → List Finish → Type 0
  AreFinishes types finishes = (k : ℕ) (f : Finish) → slice_get finishes k ≡ Some f → IsOwnWord types f.variable f.word

  -- CHAINS: one for each of these registers, with a last link as wide as its register
  pub record AreChains (registers : List Held) (nexts : List ℕ) : Type 0 where
    pub count : length nexts ≡ length registers
    pub each : (x y : ℕ) (h : Held) → slice_get registers x ≡ Some h → slice_get nexts x ≡ Some y → IsEarlier signals base y h.width

-- register number x of these, if there is one, is w bits wide
abbrev pub HasWidthAt : List Held → ℕ → ℕ → Type 0
HasWidthAt registers x w = (h : Held) → slice_get registers x ≡ Some h → h.width ≡ w

module _ (base : Base) (old new : List Signal) where
  -- wires are added, and the signal at a place is wide enough for the numbers of so many words
  pub record AddsAddress (size place : ℕ) : Type 0 where
    pub wires : AreWires base old new
    pub wide : ℕ
    pub stands : IsEarlier new base place wide
    pub room : size < 2 ^ wide

  -- wires are added, and there are these values
  pub record AddsValues (given : List Given) : Type 0 where
    pub wires : AreWires base old new
    pub values : AreValues new base given

  pub record AddsOwnWord (types : List IntegerType) (number : ℕ) (out : Word) : Type 0 where
    pub wires : AreWires base old new
    pub word : IsOwnWord new base types number out

  pub record AddsFinishes (types : List IntegerType) (all : List Finish) : Type 0 where
    pub wires : AreWires base old new
    pub finishes : AreFinishes new base types all

  -- and links
  pub record AddsLinks (registers : List Held) (after : List ℕ) : Type 0 where
    pub wires : AreWires base old new
    pub chains : AreChains new base registers after

  -- and a block that is left: a bit that tells its stage, one that tells its last state, and the number of a stage
  pub record AddsBlock (registers : Registers) (variables : List ℕ) (left : Left) : Type 0 where
    pub wires : AreWires base old new
    pub values : AreValues new base left.values
    pub at : IsEarlier new base left.end.at 1
    pub states : left.end.states ≤ 2 ^ registers.state.width
    pub last : IsEarlier new base left.last 1
    pub target : IsEarlier new base left.target registers.stage.width
    pub chains : AreChains new base registers.variables variables

  pub record AddsKeptBlock (registers : Registers) (variables nexts : List ℕ) (left : Left) : Type 0 where
    pub block : AddsBlock registers variables left
    pub kept : AreChains new base registers.kept nexts

-- a stage for whose numbers the registers have room, of a code that can be read
pub record FitsStage (base : Base) (code : ThreadCode) (registers : Registers) (l : ℕ) (p : BlockPlan) : Type 0 where
  pub reads : CanRead base code registers
  pub stage : l < 2 ^ registers.stage.width
  pub stages : length code.stages < 2 ^ registers.stage.width
  pub states : p.states ≤ 2 ^ registers.state.width

-- ---- what is promised of what is added, from some signals to others

module _ (old new : List Signal) where
  -- words of operands, of values of operations, and of variables
  abbrev pub IsSourced : List IntegerType → Registers → List Given → IntegerType → Word → Type 0
  IsSourced types registers values ty out = (base : Base) → AreSources old base types registers values → AddsWord base old new ty out

  abbrev pub AreConverted : Word → List IntegerType → Word → Type 0
  AreConverted word types out = (base : Base) (from : IntegerType) → StandsAs old base from word → AddsWord base old new (last_type from types) out

  abbrev pub IsVariableWord : List IntegerType → Registers → IntegerType → Word → Type 0
  IsVariableWord types registers ty out = (base : Base) → AreRegisters old base types registers → AddsWord base old new ty out

  abbrev pub IsValueWord : Registers → List Given → IntegerType → Word → Type 0
  IsValueWord registers values ty out = (base : Base) (types : List IntegerType) → AreSources old base types registers values → AddsWord base old new ty out

  abbrev pub IsGivenWord : Registers → Given → Word → Type 0
  IsGivenWord registers given out =
      (base : Base) (types : List IntegerType) (ty : IntegerType) → AreRegisters old base types registers → StandsAs old base ty given.word → AddsWord base old new ty out

  abbrev pub IsNarrow : Held → Word → Word → Type 0
  IsNarrow held word out = (base : Base) (ty : IntegerType) → IsEarlier old base held.register held.width → StandsAs old base ty word → AddsWord base old new ty out

  -- words of operations, where the memories are the arrays of the code
  abbrev pub IsOperationWord : ThreadCode → Registers → List Given → IntegerType → Word → Type 0
  IsOperationWord code registers values ty out = (base : Base) → CanRead base code registers → AreSources old base code.variables registers values → AddsWord base old new ty out

  -- of an element of an array: 0 where there is no such array
  abbrev pub IsElementWord : ThreadCode → ℕ → Word → Word → Type 0
  IsElementWord code a index out =
      (base : Base) (from : IntegerType) → HasMemories base code → StandsAs old base from index → AddsWord base old new (element_type (slice_get code.arrays a)) out

  -- of an address, wide enough for so many words
  abbrev pub IsAddress : Word → ℕ → ℕ → Type 0
  IsAddress index size place = (base : Base) (ty : IntegerType) → StandsAs old base ty index → AddsAddress base old new size place

  abbrev pub AreGiven : ThreadCode → Registers → List Given → Type 0
  AreGiven code registers values = (base : Base) → CanRead base code registers → AreRegisters old base code.variables registers → AddsValues base old new values

  -- bits of states
  abbrev pub IsStateBit : Registers → Moment → ℕ → Type 0
  IsStateBit registers moment place =
      (base : Base) → IsEarlier old base registers.state.register registers.state.width → IsEarlier old base moment.at 1 → moment.states ≤ 2 ^ registers.state.width →
      Adds base old new 1 place

  abbrev pub IsBitOfState : Registers → Moment → ℕ → Type 0
  IsBitOfState registers moment place =
      (base : Base) → IsEarlier old base registers.state.register registers.state.width → IsEarlier old base moment.at 1 → moment.state < 2 ^ registers.state.width →
      Adds base old new 1 place

  -- a link for the register of a number
  abbrev pub IsLinked : ℕ → ℕ → ℕ → ℕ → List ℕ → List ℕ → Type 0
  IsLinked number width condition source before after =
      (base : Base) (registers : List Held) → AreChains old base registers before → HasWidthAt registers number width → IsEarlier old base condition 1 →
      IsEarlier old base source width
      → AddsLinks base old new registers after

  -- links for registers for values, where P holds of what they get
  abbrev pub KeepsLinks : Registers → ℕ → ℕ → List ℕ → List ℕ → (Base → Type 0) → Type 0
  KeepsLinks registers at states before after P =
      (base : Base) (types : List IntegerType) → AreRegisters old base types registers → P base → IsEarlier old base at 1 → states ≤ 2 ^ registers.state.width
      → AreChains old base registers.kept before → AddsLinks base old new registers.kept after

  -- what variables get, and links for them
  abbrev pub IsOwnAdded : List IntegerType → ℕ → Word → Word → Type 0
  IsOwnAdded types number word out = (base : Base) (from : IntegerType) → StandsAs old base from word → AddsOwnWord base old new types number out

  abbrev pub IsFinishAdded : ThreadCode → Registers → List Given → ℕ → Word → Type 0
  IsFinishAdded code registers values number word = (base : Base) → AreSources old base code.variables registers values → AddsOwnWord base old new code.variables number word

  abbrev pub AreFinishesAdded : ThreadCode → Registers → List Given → List Finish → Type 0
  AreFinishesAdded code registers values finishes = (base : Base) → AreSources old base code.variables registers values → AddsFinishes base old new code.variables finishes

  abbrev pub SetsLinks : ℕ → List ℕ → List ℕ → List Finish → Type 0
  SetsLinks last before after finishes =
      (base : Base) (types : List IntegerType) (registers : Registers) → AreRegisters old base types registers → AreFinishes old base types finishes → IsEarlier old base last 1
      → AreChains old base registers.variables before → AddsLinks base old new registers.variables after

  -- numbers of stages
  abbrev pub IsStageNumber : ThreadCode → Registers → ℕ → Type 0
  IsStageNumber code registers place =
      (base : Base) → IsEarlier old base registers.stage.register registers.stage.width → length code.stages < 2 ^ registers.stage.width →
      Adds base old new registers.stage.width place

  abbrev pub IsTarget : ThreadCode → Registers → List Given → ℕ → Type 0
  IsTarget code registers values place =
      (base : Base) → AreSources old base code.variables registers values → length code.stages < 2 ^ registers.stage.width → Adds base old new registers.stage.width place

  -- A BLOCK AT A STAGE
  abbrev pub IsBlockAdded : ThreadCode → Registers → ℕ → BlockPlan → List ℕ → List ℕ → Left → Type 0
  IsBlockAdded code registers stage plan before after left =
      (base : Base) → FitsStage base code registers stage plan → AreRegisters old base code.variables registers → AreChains old base registers.variables before
      → AddsBlock base old new registers after left

  abbrev pub IsKeptBlockAdded : ThreadCode → Registers → ℕ → BlockPlan → List ℕ → List ℕ → List ℕ → List ℕ → Left → Type 0
  IsKeptBlockAdded code registers stage plan before after kept kept_after left =
      (base : Base) → FitsStage base code registers stage plan → AreRegisters old base code.variables registers → AreChains old base registers.variables before →
      AreChains old base registers.kept kept
      → AddsKeptBlock base old new registers after kept_after left

-- a value, and each of some values, stands
abbrev pub GivenStands : List Signal → Given → Base → Type 0
GivenStands signals given base = IsEarlier signals base given.word.place given.word.width

abbrev pub ValuesStand : List Signal → List Given → Base → Type 0
ValuesStand signals values base = AreValues signals base values
