-- What the accesses of globals in a block ask of banks, by wires that read registers alone.
use Rattle.std.specs.Prelude.{◌≡◌, ℕ, ◌+◌, ◌/◌, ◌%◌, ◌^◌, ◌<◌, ◌≤◌, ◌≢◌, nat_eq, Bool, true, false, ◌&&◌}
use Rattle.std.specs.Prelude.{if◌then◌else◌, List, length, Option, Some, None, slice_get, slice_index, ℤ}
use Rattle.hls_ints.specs.Residues.{residue_of, bit_of}
use Rattle.hls_ints.specs.Types.{IntegerType, width_of}
use Rattle.bank_partition.specs.declared.banks.Spread.{Spread}
use Rattle.block_ir.specs.declared.operand.Operand.{Operand}
use Rattle.block_ir.specs.declared.block.Operation.{Operation}
use Rattle.block_ir.specs.declared.block.Operation.TheVariants.{Unary, Binary, ReadGlobal, WriteGlobal, ReadArray, WriteArray}
use Rattle.block_ir.specs.declared.block.Block.{Block}
use Rattle.block_ir.specs.declared.code.ThreadCode.{ThreadCode}
use Rattle.block_ir.specs.declared.plan.BlockPlan.{BlockPlan}
use Rattle.planned_block.specs.Plan.{further_states, KeepsOrders}
use Rattle.planned_block.specs.Slot.{Slot, value_now}
use Rattle.planned_block.specs.Advance.{last_of}
use Rattle.thread_promise.specs.View.{operation_view, planned_view, plan_view, register_at}
use Rattle.thread_promise.specs.Right.{WorksFromRegisters}
use Rattle.netlist.specs.declared.netlist.Signal.{Signal}
use Rattle.netlist.specs.declared.netlist.Module.{Module}
use Rattle.verilog_meaning.specs.Readings.{Reading, width}
use Rattle.operator_wires.specs.Modules.{Obeys}
use Rattle.operator_wires.specs.declared.words.Word.{Word}
use Rattle.operator_wires.specs.Gives.{Grows}
use Rattle.operator_wires.specs.Built.{Base, IsEarlier, StandsAs, AddsWord}
use Rattle.thread_promise.specs.Types.{value_type, or_int, IsTypedBlock}
use Rattle.block_datapath.specs.declared.registers.Held.{Held}
use Rattle.block_datapath.specs.declared.registers.Registers.{Registers}
use Rattle.block_datapath.specs.declared.operands.Given.{Given}
use Rattle.block_datapath.specs.declared.states.Moment.{Moment}
use Rattle.block_datapath.specs.declared.requests.BankRequests.{BankRequests}
use Rattle.block_datapath.specs.Seen.{SeesSource}
use Rattle.block_datapath.specs.Operations.{seen_value, SeesSlot}
use Rattle.block_datapath.specs.Chains.{IsMoment}
use Rattle.block_datapath.specs.Wired.{HasWidthAt, AreRegisters, AreSources, AddsValues}
use Rattle.block_datapath.specs.Leave.{HasStage, IsInStage}
use Rattle.thread_promise.specs.Globals.{IsSmallPower}
use Rattle.block_datapath.specs.Requests.{Asked, nothing_asked, asked_at, AreAsMany, AreBankChains, AddsBankLinks}

-- ---- values in registers

module _ (globals : List IntegerType) (code : ThreadCode) (p : BlockPlan) where
  -- a word of the type of operation k, and the register that keeps its value from the state behind its last one on
  pub record IsRegistered (k : ℕ) (o : Operation) (given : Given) : Type 0 where
    pub says : given.word.width ≡ width_of (value_type globals code o)
    pub sign : given.word.signed ≡ (value_type globals code o).signed
    pub last : slice_index p.starts k + further_states (operation_view o).kind < 2 ^ 64 → given.last ≡ slice_index p.starts k + further_states (operation_view o).kind
    pub register : given.register ≡ register_at p.registers k

  pub record AddsRegistered (old new : List Signal) (k : ℕ) (o : Operation) (given : Given) : Type 0 where
    pub grows : Grows old new
    pub is : IsRegistered k o given

  -- such values of the first n operations
  pub record AreRegistered (b : Block) (old new : List Signal) (n : ℕ) (values : List Given) : Type 0 where
    pub grows : Grows old new
    pub count : length values ≡ n
    pub each : (k : ℕ) (o : Operation) → k < n → slice_get b.operations k ≡ Some o → (given : Given) × (slice_get values k ≡ Some given) × IsRegistered k o given

-- a word of some type is added, and one for each of these values
abbrev pub IsZero : List Signal → List Signal → Given → Type 0
IsZero old new given = (base : Base) → base.first ≤ length old → (ty : IntegerType) × AddsWord base old new ty given.word

abbrev pub AreZeros : List Signal → List Signal → List Given → Type 0
AreZeros old new values = (base : Base) → base.first ≤ length old → AddsValues base old new values

-- ---- what is asked

-- the bank of an index of 64 bits, and the address in it, where the global is spread so
abbrev pub is_bank : Option Spread → ℕ → ℕ → Bool
is_bank None i j = false
is_bank (Some s) i j = nat_eq j (s.first + i % s.count)

abbrev pub address_in : Option Spread → ℕ → ℕ
address_in None i = 0
address_in (Some s) i = i / s.count

-- a global has 1, 2, 4 or 8 banks, whose numbers are small
abbrev pub FitsSpread : Option Spread → Type 0
FitsSpread None = Unit {0}
FitsSpread (Some s) = IsSmallPower s.count × (s.first + s.count < 2 ^ 64)

abbrev pub AreFitSpreads : List Spread → Type 0
AreFitSpreads spreads = (x : ℕ) → FitsSpread (slice_get spreads x)

module _ (variables given : ℕ → ℤ) where
  abbrev pub index_number : Operand → ℕ
  index_number i = residue_of 64 (seen_value variables given i)

  -- an access with this index asks bank j
  abbrev pub reaches : Option Spread → Operand → ℕ → Bool
  reaches s i j = is_bank s (index_number i) j

  -- and for this
  abbrev pub asked_so : Option Spread → Operand → Bool → ℕ → Asked
  asked_so s i writes number = record { wants = 1; writes = bit_of writes; address = address_in s (index_number i); value = number }

  module _ (globals : List IntegerType) (spreads : List Spread) where
    -- an operation asks bank j
    abbrev pub reaches_bank : Operation → ℕ → Bool
    reaches_bank (Unary operator ty a) j = false
    reaches_bank (Binary operator ty a b) j = false
    reaches_bank (ReadGlobal x n i) j = reaches (slice_get spreads x) i j
    reaches_bank (WriteGlobal x n i a) j = reaches (slice_get spreads x) i j
    reaches_bank (ReadArray x n i) j = false
    reaches_bank (WriteArray x n i a) j = false

    -- for what: a read carries the value 0
    abbrev pub asked_of : Operation → Asked
    asked_of (Unary operator ty a) = nothing_asked
    asked_of (Binary operator ty a b) = nothing_asked
    asked_of (ReadGlobal x n i) = asked_so (slice_get spreads x) i false 0
    asked_of (WriteGlobal x n i a) = asked_so (slice_get spreads x) i true (residue_of (width_of (or_int (slice_get globals x))) (seen_value variables given a))
    asked_of (ReadArray x n i) = nothing_asked
    asked_of (WriteArray x n i a) = nothing_asked

    abbrev pub reaches_in : Option Operation → ℕ → Bool
    reaches_in None j = false
    reaches_in (Some o) j = reaches_bank o j

    abbrev pub asked_in : Option Operation → Asked
    asked_in None = nothing_asked
    asked_in (Some o) = asked_of o

-- the operands of an access can be seen in a state
module _ (m : Module) (r : Reading) (registers : Registers) (types : List IntegerType) (values : List Given) (state : ℕ) (variables given : ℕ → ℤ) where
  abbrev pub SeesOperand : Operand → Type 0
  SeesOperand i = SeesSource m r registers types values state variables given i.source

  abbrev pub SeesAccess : Operation → Type 0
  SeesAccess (Unary operator ty a) = Unit {0}
  SeesAccess (Binary operator ty a b) = Unit {0}
  SeesAccess (ReadGlobal x n i) = SeesOperand i
  SeesAccess (WriteGlobal x n i a) = SeesOperand i × SeesOperand a
  SeesAccess (ReadArray x n i) = Unit {0}
  SeesAccess (WriteArray x n i a) = Unit {0}

module _ (old new : List Signal) (registers : Registers) (types : List IntegerType) (values : List Given) (before after : BankRequests) where
  -- where the slot is in this state of its stage the bank of an index is asked, to read or to write what a word shows
  pub record AsksIndex (moment : Moment) (s : Option Spread) (index : Operand) (writes : Bool) (value : Word) : Type 0 where
    pub grows : Grows old new
    pub many : (n : ℕ) → AreAsMany n before → AreAsMany n after
    pub shows : (m : Module) (r : Reading) (t : Bool) (state : ℕ) (variables given : ℕ → ℤ) (number j many : ℕ) → Grows new m.signals → Obeys m r →
        IsMoment m r registers moment.at moment.states t state → moment.state < moment.states → FitsSpread s → AreAsMany many before → j < many →
        (t ≡ true → state ≡ moment.state → SeesOperand m r registers types values moment.state variables given index × (r.signal value.place ≡ number)) →
        asked_at r after j ≡ (if t && (nat_eq state moment.state && reaches variables given s index j) then asked_so variables given s index writes number else asked_at r before j)
    pub rests : (m : Module) (r : Reading) (j many : ℕ) → Grows new m.signals → Obeys m r → width m moment.at ≡ 1 → r.signal moment.at ≡ 0 → AreAsMany many before → j < many →
        asked_at r after j ≡ asked_at r before j

  module _ (globals : List IntegerType) (spreads : List Spread) where
    -- the same of an operation, if it is an access of a global
    pub record AsksOperation (moment : Moment) (o : Operation) : Type 0 where
      pub grows : Grows old new
      pub many : (n : ℕ) → AreAsMany n before → AreAsMany n after
      pub shows : (m : Module) (r : Reading) (t : Bool) (state : ℕ) (variables given : ℕ → ℤ) (j many : ℕ) → Grows new m.signals → Obeys m r →
          IsMoment m r registers moment.at moment.states t state → moment.state < moment.states → AreFitSpreads spreads → AreAsMany many before → j < many →
          (t ≡ true → state ≡ moment.state → SeesAccess m r registers types values moment.state variables given o) →
          asked_at r after j
          ≡ (if t && (nat_eq state moment.state && reaches_bank variables given globals spreads o j) then asked_of variables given globals spreads o else asked_at r before j)
      pub rests : (m : Module) (r : Reading) (j many : ℕ) → Grows new m.signals → Obeys m r → width m moment.at ≡ 1 → r.signal moment.at ≡ 0 → AreAsMany many before → j < many →
          asked_at r after j ≡ asked_at r before j

    -- and of THE FIRST n OPERATIONS of a block, each in the state in which it starts: the last of them that asks a bank
    pub record AsksFirst (b : Block) (p : BlockPlan) (end : Moment) (n : ℕ) : Type 0 where
      pub grows : Grows old new
      pub many : (n : ℕ) → AreAsMany n before → AreAsMany n after
      pub shows : (m : Module) (r : Reading) (t : Bool) (state : ℕ) (variables given : ℕ → ℤ) (j many : ℕ) → Grows new m.signals → Obeys m r →
          IsMoment m r registers end.at end.states t state → ((k : ℕ) (o : Operation) → slice_get b.operations k ≡ Some o → slice_index p.starts k < end.states) →
          AreFitSpreads spreads → AreAsMany many before → j < many →
          ((k : ℕ) (o : Operation) → slice_get b.operations k ≡ Some o → t ≡ true → state ≡ slice_index p.starts k →
          SeesAccess m r registers types values (slice_index p.starts k) variables given o) →
          asked_at r after j
          ≡ last_of (λ k. t && (nat_eq state (slice_index p.starts k) && reaches_in variables given globals spreads (slice_get b.operations k) j))
          (λ k. asked_in variables given globals spreads (slice_get b.operations k)) (asked_at r before j) n
      pub rests : (m : Module) (r : Reading) (j many : ℕ) → Grows new m.signals → Obeys m r → width m end.at ≡ 1 → r.signal end.at ≡ 0 → AreAsMany many before → j < many →
          asked_at r after j ≡ asked_at r before j

-- ---- how they are put together

-- chains of banks are as wide as the words of their globals
pub record HaveBankWidths (globals : List IntegerType) (spreads : List Spread) (ones addresses words : List Held) : Type 0 where
  pub bits : (k : ℕ) → HasWidthAt ones k 1
  pub wide : (k : ℕ) → HasWidthAt addresses k 64
  pub own : (x k : ℕ) (s : Spread) → slice_get spreads x ≡ Some s → k < s.count → HasWidthAt words (s.first + k) (width_of (or_int (slice_get globals x)))
  pub powers : (x : ℕ) (s : Spread) → slice_get spreads x ≡ Some s → IsSmallPower s.count

-- the banks of one global are as wide as this type
abbrev pub HasOwnWidths : Option Spread → List Held → IntegerType → Type 0
HasOwnWidths None own ty = Unit {0}
HasOwnWidths (Some s) own ty = ((k : ℕ) → k < s.count → HasWidthAt own (s.first + k) (width_of ty)) × IsSmallPower s.count

module _ (old new : List Signal) (registers : Registers) (types : List IntegerType) (values : List Given) (before after : BankRequests) where
  -- links are added for an index, where words of this type stand in the banks
  abbrev pub AreIndexLinks : Moment → Option Spread → Word → Type 0
  AreIndexLinks moment s value =
      (base : Base) (bits wide own : List Held) (ty : IntegerType) → AreSources old base types registers values → AreBankChains old base bits wide own before →
      ((k : ℕ) → HasWidthAt bits k 1) → ((k : ℕ) → HasWidthAt wide k 64) → HasOwnWidths s own ty → StandsAs old base ty value → IsEarlier old base moment.at 1 →
      moment.states ≤ 2 ^ registers.state.width → AddsBankLinks base old new bits wide own after

  -- and for accesses
  abbrev pub AreAccessLinks : List IntegerType → List Spread → Moment → Type 0
  AreAccessLinks globals spreads moment =
      (base : Base) (bits wide own : List Held) → AreSources old base types registers values → AreBankChains old base bits wide own before →
      HaveBankWidths globals spreads bits wide own →
      IsEarlier old base moment.at 1 → moment.states ≤ 2 ^ registers.state.width → AddsBankLinks base old new bits wide own after

-- ---- a block at a stage

-- the block is right, and banks are asked for what registers hold
pub record IsAskRight (globals : List IntegerType) (code : ThreadCode) (b : Block) (p : BlockPlan) : Type 0 where
  pub typed : IsTypedBlock globals code b
  pub keeps : KeepsOrders (planned_view b) (plan_view b p)
  pub small : p.states < 2 ^ 64
  pub registered : WorksFromRegisters (planned_view b) (plan_view b p)

module _ (globals : List IntegerType) (spreads : List Spread) (code : ThreadCode) (registers : Registers) (l : ℕ) (b : Block) (p : BlockPlan) where
  -- operation k asks bank j in this slot
  abbrev pub reaches_now : Slot → (ℕ → ℤ) → ℕ → ℕ → Bool
  reaches_now q wire j k =
      nat_eq q.state (slice_index p.starts k) && reaches_in q.variables (value_now (planned_view b) (plan_view b p) q wire) globals spreads (slice_get b.operations k) j

  abbrev pub asked_now : Slot → (ℕ → ℤ) → ℕ → Asked
  asked_now q wire k = asked_in q.variables (value_now (planned_view b) (plan_view b p) q wire) globals spreads (slice_get b.operations k)

  -- WHAT A BLOCK ASKS: in a reading of another stage nothing, and in one of this stage each bank what the last operation asks that starts in
  -- this state and has an index of the bank
  pub record AsksBlock (old new : List Signal) (before after : BankRequests) : Type 0 where
    pub grows : Grows old new
    pub many : (n : ℕ) → AreAsMany n before → AreAsMany n after
    pub rests : (m : Module) (r : Reading) (j many : ℕ) → Grows new m.signals → Obeys m r → HasStage registers l m r → r.signal registers.stage.register ≢ l →
        AreAsMany many before →
        j < many → asked_at r after j ≡ asked_at r before j
    pub asks : (m : Module) (r : Reading) (q : Slot) (wire : ℕ → ℤ) (j many : ℕ) → IsAskRight globals code b p → Grows new m.signals → Obeys m r →
        IsInStage globals code registers l b p m r q →
        SeesSlot globals code registers b p m r q → AreFitSpreads spreads → AreAsMany many before → j < many →
        asked_at r after j ≡ last_of (reaches_now q wire j) (asked_now q wire) (asked_at r before j) (length b.operations)

  abbrev pub IsAskingBlock : List Signal → List Signal → BankRequests → BankRequests → Type 0
  IsAskingBlock old new before after =
      (base : Base) (bits wide own : List Held) → AreRegisters old base code.variables registers → AreBankChains old base bits wide own before →
      HaveBankWidths globals spreads bits wide own →
      l < 2 ^ registers.stage.width → p.states ≤ 2 ^ registers.state.width → AddsBankLinks base old new bits wide own after
