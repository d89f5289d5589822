-- What is asked of cores, stage by stage, by wires that read registers alone: of those that acts ask, and of the banks of globals.
use Rattle.std.specs.Prelude.{◌≡◌, ◌≢◌, ℕ, suc, ◌<◌, ◌≤◌, ◌^◌, nat_eq, Bool, true, false, List, [], ◌∷◌, length, Option, Some, None, slice_get, ℤ}
use Rattle.hls_ints.specs.Residues.{residue_of, bit_of}
use Rattle.hls_ints.specs.Types.{IntegerType}
use Rattle.bank_partition.specs.declared.banks.Spread.{Spread}
use Rattle.block_ir.specs.declared.block.Block.{Block}
use Rattle.block_ir.specs.declared.code.Act.{Act}
use Rattle.block_ir.specs.declared.code.ActOperand.{ActOperand}
use Rattle.block_ir.specs.declared.code.Stage.{Stage}
use Rattle.block_ir.specs.declared.code.Stage.TheVariants as stage
use Rattle.block_ir.specs.declared.code.ThreadCode.{ThreadCode}
use Rattle.block_ir.specs.declared.plan.BlockPlan.{BlockPlan}
use Rattle.block_ir.specs.declared.plan.StagePlan.{StagePlan}
use Rattle.block_ir.specs.declared.plan.StagePlan.TheVariants as planned
use Rattle.block_ir.specs.declared.plan.Planned.{Planned}
use Rattle.planned_block.specs.Slot.{Slot}
use Rattle.planned_block.specs.Advance.{last_of}
use Rattle.netlist.specs.declared.netlist.Signal.{Signal}
use Rattle.netlist.specs.declared.netlist.Module.{Module}
use Rattle.verilog_meaning.specs.Readings.{Reading, width}
use Rattle.circuit.specs.Modules.{Obeys}
use Rattle.operator_wires.specs.Gives.{Grows}
use Rattle.operator_wires.specs.Words.{resized_word}
use Rattle.operator_wires.specs.Built.{Base, IsEarlier}
use Rattle.operator_wires.specs.Added.{NumberAdds}
use Rattle.block_datapath.specs.Promise.{is_run}
use Rattle.block_ir.specs.Asked.{act_value, Request as Call, request_of}
use Rattle.block_ir.specs.declared.service.Service.{Service}
use Rattle.block_ir.specs.declared.service.Service.TheVariants.{Mutex, Barrier, ThreadIds, Printer}
use Rattle.block_datapath.specs.declared.registers.Held.{Held}
use Rattle.block_datapath.specs.declared.registers.Registers.{Registers}
use Rattle.block_datapath.specs.Chains.{next_number, TellsStage}
use Rattle.block_datapath.specs.Leave.{HasStage, IsInStage}
use Rattle.block_datapath.specs.Operations.{SeesSlot}
use Rattle.block_datapath.specs.Requests.{asked_at, AreAsMany}
use Rattle.block_datapath.specs.Accesses.{AreFitSpreads, IsAskRight, reaches_now, asked_now}
use Rattle.thread_slots.specs.declared.requests.Request.{Request}
use Rattle.thread_slots.specs.declared.requests.Requests.{Requests}
use Rattle.thread_asks.specs.declared.asking.Caller.{Caller}
use Rattle.thread_asks.specs.Fields.{IsTypedActOperand, SeesVariables}
use Rattle.thread_slots.specs.Slots.{KnowsStage}
use Rattle.thread_slots.specs.Wired.{AreSlots, FitStates}
use Rattle.thread_slots.specs.Requests.{group, IsAskBit, AreAskLinks, KeepsAskLinks, AreAskBits, RequestStands, KeepsRequest}
use Rattle.thread_slots.specs.Services.{number_width}

-- ---- the table of acts

abbrev pub call_of : Service → ℕ → List ActOperand → Call
call_of s number operands = record { service = s; number = number; operands = operands }

-- the operand that names the object, and the others, which are handed over
abbrev pub first_operand : List ActOperand → Option ActOperand
first_operand [] = None
first_operand (o ∷ os) = Some o

abbrev pub other_operands : List ActOperand → List ActOperand
other_operands [] = []
other_operands (o ∷ os) = os

abbrev pub object_of : Service → List ActOperand → Option ActOperand
object_of Mutex os = first_operand os
object_of Barrier os = first_operand os
object_of ThreadIds os = None
object_of Printer os = None

abbrev pub values_of : Service → List ActOperand → List ActOperand
values_of Mutex os = other_operands os
values_of Barrier os = other_operands os
values_of ThreadIds os = os
values_of Printer os = os

abbrev pub same_service : Service → Service → Bool
same_service Mutex Mutex = true
same_service Barrier Barrier = true
same_service ThreadIds ThreadIds = true
same_service Printer Printer = true
same_service _ _ = false

-- a core of a service is asked
abbrev pub is_for : Service → Option Call → Bool
is_for s None = false
is_for s (Some call) = same_service call.service s

abbrev pub is_asked : Bool → Option Stage → Service → Bool
is_asked main (Some (stage.Act a next)) s = is_for s (request_of main a)
is_asked main _ s = false

-- ---- one more link of one request

-- the same is asked
pub record SameRequest (r : Reading) (before after : Request) : Type 0 where
  pub wants : (t : Bool) → r.signal before.wants ≡ bit_of t → r.signal after.wants ≡ bit_of t
  pub object : r.signal after.object ≡ r.signal before.object
  pub fields : (x : ℕ) → next_number r after.fields x ≡ next_number r before.fields x

module _ (code : ThreadCode) (registers : Registers) where
  -- in a reading of these variables a core is asked: the object, the number, cut to so many bits, and the values
  pub record ShowsCall (w number : ℕ) (object : Option ActOperand) (values : List ActOperand) (r : Reading) (variables : ℕ → ℤ) (many : ℕ) (q : Request) : Type 0 where
    pub wants : r.signal q.wants ≡ 1
    pub object_is : (v : ActOperand) → object ≡ Some v → IsTypedActOperand code v → r.signal q.object ≡ residue_of 64 (act_value variables v)
    pub number_is : 0 < many → next_number r q.fields 0 ≡ resized_word false 32 w number
    pub values_are : (j : ℕ) (v : ActOperand) → slice_get values j ≡ Some v → IsTypedActOperand code v → suc j < many →
        next_number r q.fields (suc j) ≡ residue_of 64 (act_value variables v)

  -- WHERE A BIT IS SET A CORE IS ASKED so
  pub record Calls (w at number : ℕ) (object : Option ActOperand) (values : List ActOperand) (old new : List Signal) (before after : Request) : Type 0 where
    pub grows : Grows old new
    pub count : length after.fields ≡ length before.fields
    pub bit : IsAskBit old before → IsAskBit new after
    pub off : (m : Module) (r : Reading) → Grows new m.signals → Obeys m r → IsAskBit old before → r.signal at ≡ 0 → SameRequest r before after
    pub on : (m : Module) (r : Reading) (variables : ℕ → ℤ) → Grows new m.signals → Obeys m r → IsAskBit old before → r.signal at ≡ 1 → r.signal before.wants ≡ 0 →
        SeesVariables code registers m r variables → ShowsCall w number object values r variables (length before.fields) after
    pub wired : (base : Base) → AreSlots base old code registers → IsEarlier old base at 1 → 1 ≤ w → w ≤ 64 → RequestStands base old w before → KeepsRequest base old new w after

  -- and the object stays
  pub record CallsPlain (w at number : ℕ) (values : List ActOperand) (old new : List Signal) (before after : Request) : Type 0 where
    pub calls : Calls w at number None values old new before after
    pub object : after.object ≡ before.object

  -- AT STAGE l, which a bit tells, a core is asked so
  pub record CallsAt (l w number : ℕ) (object : Option ActOperand) (values : List ActOperand) (old new : List Signal) (before after : Request) : Type 0 where
    pub with_at : List Signal
    pub at : ℕ
    pub told : TellsStage old with_at registers l at
    pub told_wired : NumberAdds old with_at registers.stage.width registers.stage.register l at
    pub calls : Calls w at number object values with_at new before after

-- ---- readings

-- the same is asked
pub record AskSame (r : Reading) (before after : Requests) : Type 0 where
  pub requests : (s : Service) → SameRequest r (group before s) (group after s)
  pub banks : (j many : ℕ) → AreAsMany many before.banks → j < many → asked_at r after.banks j ≡ asked_at r before.banks j

-- of as many
pub record AskAsMany (before after : Requests) : Type 0 where
  pub fields : (s : Service) → length (group after s).fields ≡ length (group before s).fields
  pub banks : (n : ℕ) → AreAsMany n before.banks → AreAsMany n after.banks

-- stage l adds links: in a reading of another stage the same is asked as before
pub record AsksOver (registers : Registers) (l : ℕ) (old new : List Signal) (before after : Requests) : Type 0 where
  pub grows : Grows old new
  pub many : AskAsMany before after
  pub bits : AreAskBits old before → AreAskBits new after
  pub rests : (m : Module) (r : Reading) → Grows new m.signals → Obeys m r → AreAskBits old before → HasStage registers l m r → r.signal registers.stage.register ≢ l →
      AskSame r before after

-- ---- how they are put together

-- links are added
abbrev pub AskIsWired : ThreadCode → Registers → List IntegerType → List Spread → Caller → List Signal → List Signal → Requests → Requests → Type 0
AskIsWired code registers globals spreads caller old new before after =
    (base : Base) (bits wide own : List Held) → AreAskLinks base code registers caller.served globals spreads bits wide own old before
    → KeepsAskLinks base code registers caller.served globals spreads bits wide own old new after

-- ---- stages

module _ (globals : List IntegerType) (spreads : List Spread) (code : ThreadCode) (registers : Registers) (caller : Caller) where
  -- what stage l asks, in a reading of it: from links before it to those behind it
  pub record AsksAt (l : ℕ) (s : Stage) (plan : Option StagePlan) (new : List Signal) (start c : Requests) : Type 0 where
    pub asks : (a : Act) (next : ℕ) (call : Call) → s ≡ stage.Act a next → request_of caller.is_main a ≡ Some call → (m : Module) (r : Reading) (variables : ℕ → ℤ) →
        Grows new m.signals → Obeys m r → KnowsStage code registers m r → r.signal registers.stage.register ≡ l → r.signal (group start call.service).wants ≡ 0 →
        SeesVariables code registers m r variables →
        ShowsCall code registers (number_width caller.served call.service) call.number (object_of call.service call.operands) (values_of call.service call.operands) r variables
        (length (group start call.service).fields) (group c call.service)
    pub quiet : (k : Service) → is_asked caller.is_main (Some s) k ≡ false → (m : Module) (r : Reading) → Grows new m.signals → Obeys m r → KnowsStage code registers m r →
        r.signal registers.stage.register ≡ l → r.signal (group start k).wants ≡ 0 → r.signal (group c k).wants ≡ 0
    pub blocks : (b : Block) (p : BlockPlan) → s ≡ stage.Run b → plan ≡ Some (planned.Run p) → (m : Module) (r : Reading) (q : Slot) (wire : ℕ → ℤ) (j many : ℕ) →
        IsAskRight globals code b p →
        Grows new m.signals → Obeys m r → KnowsStage code registers m r → IsInStage globals code registers l b p m r q → SeesSlot globals code registers b p m r q →
        AreFitSpreads spreads →
        AreAsMany many start.banks → j < many →
        asked_at r c.banks j
        ≡ last_of (reaches_now globals spreads code registers l b p q wire j) (asked_now globals spreads code registers l b p q wire) (asked_at r start.banks j)
        (length b.operations)
    pub silent : is_run (Some s) ≡ false → (m : Module) (r : Reading) (j many : ℕ) → Grows new m.signals → Obeys m r → KnowsStage code registers m r →
        r.signal registers.stage.register ≡ l →
        AreAsMany many start.banks → j < many → asked_at r c.banks j ≡ asked_at r start.banks j

  -- A STAGE
  pub record AsksStage (l : ℕ) (s : Stage) (plan : Option StagePlan) (old new : List Signal) (before after : Requests) : Type 0 where
    pub step : AsksOver registers l old new before after
    pub does : AreAskBits old before → l ≤ length code.stages → AsksAt l s plan new before after
    pub wired : l ≤ length code.stages → ((p : BlockPlan) → plan ≡ Some (planned.Run p) → p.states ≤ 2 ^ registers.state.width) →
        AskIsWired code registers globals spreads caller old new before after

  -- THE FIRST n STAGES
  pub record AsksFirst (plan : Planned) (old new : List Signal) (start c : Requests) (n : ℕ) : Type 0 where
    pub grows : Grows old new
    pub many : AskAsMany start c
    pub bits : AreAskBits old start → AreAskBits new c
    pub still : (m : Module) (r : Reading) → Grows new m.signals → Obeys m r → AreAskBits old start → KnowsStage code registers m r →
        ((k : ℕ) → k < n → r.signal registers.stage.register ≢ k) →
        AskSame r start c
    pub does : AreAskBits old start → (k : ℕ) (s : Stage) → k < n → slice_get code.stages k ≡ Some s → AsksAt k s (slice_get plan.stages k) new start c
    pub wired : n ≤ length code.stages → FitStates registers plan → AskIsWired code registers globals spreads caller old new start c

  -- ALL STAGES, and the end, which a bit tells
  pub record AsksAll (plan : Planned) (old new : List Signal) (start c : Requests) (done : ℕ) : Type 0 where
    pub grows : Grows old new
    pub many : AskAsMany start c
    pub bits : AreAskBits old start → AreAskBits new c
    pub does : AreAskBits old start → (k : ℕ) (s : Stage) → slice_get code.stages k ≡ Some s → AsksAt k s (slice_get plan.stages k) new start c
    -- past the last stage the same is asked as before
    pub beyond : (m : Module) (r : Reading) → Grows new m.signals → Obeys m r → AreAskBits old start → KnowsStage code registers m r →
        ((k : ℕ) → k < length code.stages → r.signal registers.stage.register ≢ k) → AskSame r start c
    pub done_wide : (m : Module) → Grows new m.signals → width m done ≡ 1
    pub done_is : (m : Module) (r : Reading) → Grows new m.signals → Obeys m r → KnowsStage code registers m r →
        r.signal done ≡ bit_of (nat_eq (r.signal registers.stage.register) (length code.stages))

  -- and it stands
  pub record AsksAllWired (plan : Planned) (old new : List Signal) (start c : Requests) (done : ℕ) : Type 0 where
    pub asks : AsksAll plan old new start c done
    pub wired : FitStates registers plan → (base : Base) (bits wide own : List Held)
        → AreAskLinks base code registers caller.served globals spreads bits wide own old start →
        KeepsAskLinks base code registers caller.served globals spreads bits wide own old new c × IsEarlier new base done 1
