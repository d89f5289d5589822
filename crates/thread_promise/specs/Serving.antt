-- What the module of any thread promises, stage by stage: of the banks and of the cores of acts it asks what its operations and acts need, and
-- from what they grant and tell it goes on.
use Rattle.std.specs.Prelude.{◌≡◌, ◌≢◌, ℕ, suc, ◌+◌, ◌<◌, ◌≤◌, Bool, true, false, List, length, ℤ, Option, Some, None, slice_get, nat_eq}
use Rattle.hls_ints.specs.Residues.{residue_of, bit_of}
use Rattle.hls_ints.specs.Types.{IntegerType, HasType, width_of}
use Rattle.plan_conditions.specs.Memory.{Memory}
use Rattle.bank_partition.specs.declared.banks.Spread.{Spread}
use Rattle.block_ir.specs.declared.block.Block.{Block}
use Rattle.block_ir.specs.declared.code.Act.{Act}
use Rattle.block_ir.specs.declared.code.ActOperand.{ActOperand}
use Rattle.block_ir.specs.declared.code.Act.TheVariants as act
use Rattle.block_ir.specs.declared.code.Stage.TheVariants as stage
use Rattle.block_ir.specs.declared.code.ThreadCode.{ThreadCode}
use Rattle.block_ir.specs.declared.plan.BlockPlan.{BlockPlan}
use Rattle.block_ir.specs.declared.plan.Planned.{Planned}
use Rattle.block_ir.specs.Asked.{act_value, Asked, Numbers, barrier_core, thread_ids_core, printer_core}
use Rattle.plan_conditions.specs.Slot.{Slot}
use Rattle.plan_conditions.specs.Advance.{is_ready, advance}
use Rattle.plan_conditions.specs.View.{planned_view, plan_view}
use Rattle.circuit.specs.Module.{Module}
use Rattle.circuit.specs.Readings.{Reading, next_reading, initial_reading}
use Rattle.circuit.specs.Modules.{Obeys, Agree}
use Rattle.thread_promise.specs.Slots.{Places, ShowsData, ShowsInBlock}
use Rattle.thread_promise.specs.Globals.{bank_total, bank_of, place_now, bank_now, written_now, IsOpen}
use Rattle.thread_promise.specs.Promise.{BankPorts, AsksBank, RunsAt, is_run, went_on}
use Rattle.thread_promise.specs.Moves.{meeting, stage_after, set_out, first_slot, asked_in, core_asked}

-- where the ports for a core of acts stand: whether it grants; whether it is asked, the number, and the values behind it; what it tells
pub record CorePorts : Type 0 where
  pub grant : ℕ
  pub ask : ℕ
  pub number : ℕ
  pub value : ℕ → ℕ
  pub told : ℕ → ℕ

-- by the numbers of cores: those for each bank, and those for each core of acts
pub record Ports : Type 0 where
  pub enable : ℕ
  pub bank : ℕ → BankPorts
  pub core : ℕ → CorePorts
  pub need : ℕ
  pub done : ℕ

-- in a reading a core is asked this, where the thread is enabled
pub record AsksCore (r : Reading) (enable : ℕ) (ports : CorePorts) (a : Asked) : Type 0 where
  pub ask : r.signal ports.ask ≡ r.signal enable
  pub number : r.signal ports.number ≡ a.number
  pub values : (j w : ℕ) → slice_get a.values j ≡ Some w → r.signal (ports.value j) ≡ w

-- a core of acts
abbrev pub IsActCore : Numbers → ℕ → Type 0
IsActCore N k = (N.banks ≤ k) × (k < suc (printer_core N))

-- the slot is within a stage's block
pub record IsInside (globals : List IntegerType) (spreads : List Spread) (code : ThreadCode) (plan : Planned) (places : Places)
    (r : Reading) (q : Slot) (b : Block) (p : BlockPlan) : Type 0 where
  pub runs : RunsAt globals spreads code plan q.stage b p
  pub state : q.state < p.states
  pub shown : ShowsInBlock globals code places b p r q

-- what reaches the thread from banks: of each access that is still to be granted whether its bank grants it, and the words that the slot has
pub record HearsBanks (globals : List IntegerType) (spreads : List Spread) (ports : Ports)
    (r : Reading) (q : Slot) (b : Block) (p : BlockPlan) (grant : ℕ → Bool) : Type 0 where
  pub grants : (k x : ℕ) (writes : Bool) → IsOpen spreads b p q k x writes → r.signal (ports.bank (bank_now spreads b p q k x)).grant ≡ bit_of (grant k)
  pub words : (x n : ℕ) (s : Spread) (ty : IntegerType) → slice_get spreads x ≡ Some s → slice_get globals x ≡ Some ty → n < s.count →
      r.signal (ports.bank (s.first + n)).word ≡ residue_of (width_of ty) (q.words (s.first + n))
  pub typed : (x n : ℕ) (s : Spread) (ty : IntegerType) → slice_get spreads x ≡ Some s → slice_get globals x ≡ Some ty → n < s.count → HasType ty (q.words (s.first + n))

module _ (globals : List IntegerType) (spreads : List Spread) (N : Numbers) (main : Bool) (routine : ℕ) (code : ThreadCode) (plan : Planned) (m : Module)
    (places : Places) (ports : Ports) where
  abbrev pub Shows : Reading → Slot → Type 0
  Shows = ShowsData globals code places

  abbrev pub rest : ℕ
  rest = length code.stages

  abbrev pub Inside : Reading → Slot → Block → BlockPlan → Type 0
  Inside = IsInside globals spreads code plan places

  -- what the stage of the slot asks
  abbrev pub asks_now : Slot → Option Asked
  asks_now q = asked_in main (slice_get code.stages q.stage) q.variables

  -- THE PROMISE, over every reading that the module obeys
  pub record RunsCode : Type 0 where
    -- the initial constants show the slot of a thread that has not moved
    pub starts : Shows (initial_reading (Some m)) (first_slot main routine rest)
    -- what is shown stands in registers and memory words
    pub keeps : (h g : Reading) (q : Slot) → Agree m h g → Shows h q → Shows g q
    pub keeps_in_block : (h g : Reading) (q : Slot) (b : Block) (p : BlockPlan) → Agree m h g → RunsAt globals spreads code plan q.stage b p →
        ShowsInBlock globals code places b p h q →
        ShowsInBlock globals code places b p g q
    -- whoever is not enabled stays
    pub rests : (r : Reading) → Obeys m r → r.signal ports.enable ≡ 0 → Agree m r (next_reading m r)
    -- in a state of a block it asks, where it is enabled, the bank of each access that is still to be granted, and no other one
    pub asks : (r : Reading) (q : Slot) (b : Block) (p : BlockPlan) → Obeys m r → Inside r q b p → (k x : ℕ) (writes : Bool) (s : Spread) (ty : IntegerType) →
        IsOpen spreads b p q k x writes → slice_get spreads x ≡ Some s → slice_get globals x ≡ Some ty →
        AsksBank r ports.enable (ports.bank (bank_now spreads b p q k x)) s (place_now spreads b p q k x).index writes (residue_of (width_of ty) (written_now spreads b p q k))
    pub asks_none : (r : Reading) (q : Slot) (b : Block) (p : BlockPlan) (n : ℕ) → Obeys m r → Inside r q b p → n < bank_total spreads →
        ((k x : ℕ) (writes : Bool) → IsOpen spreads b p q k x writes → bank_now spreads b p q k x ≡ n → ⊥) → r.signal (ports.bank n).ask ≡ 0
    -- elsewhere it asks no bank
    pub asks_outside : (r : Reading) (q : Slot) (n : ℕ) → Obeys m r → Shows r q → is_run (slice_get code.stages q.stage) ≡ false → n < bank_total spreads →
        r.signal (ports.bank n).ask ≡ 0
    -- a state of a block does what the planned block says under these grants: once all its requests are granted it is left, for the next one or
    -- for another stage; till then grants are remembered
    pub moves : (memory : Memory ℤ) (grant : ℕ → Bool) (r : Reading) (q : Slot) (b : Block) (p : BlockPlan) → Obeys m r → Inside r q b p → HearsBanks globals spreads ports r q b p grant →
        r.signal ports.enable ≡ 1 →
        ((is_ready (planned_view b) (plan_view b p) q grant ≡ true → suc q.state < p.states) →
        ShowsInBlock globals code places b p (next_reading m r) (advance (bank_of spreads) (planned_view b) (plan_view b p) q memory grant))
        × Shows (next_reading m r) (advance (bank_of spreads) (planned_view b) (plan_view b p) q memory grant)
    -- an act asks the core of its object, where it is enabled, and goes on when it is granted
    pub acts : (r : Reading) (q : Slot) (a : Act) (next k : ℕ) (ask : Asked) → Obeys m r → Shows r q → q.state ≡ 0 → slice_get code.stages q.stage ≡ Some (stage.Act a next) →
        asks_now q ≡ Some ask → core_asked N (Some ask) ≡ Some k →
        AsksCore r ports.enable (ports.core k) ask
        × (r.signal ports.enable ≡ 1 → r.signal (ports.core k).grant ≡ 1 → Shows (next_reading m r) (went_on (stage_after rest q.stage a next) q))
        × (r.signal (ports.core k).grant ≡ 0 → Shows (next_reading m r) q)
    -- an act whose object has no core stays
    pub lost : (r : Reading) (q : Slot) (ask : Asked) → Obeys m r → Shows r q → q.state ≡ 0 → asks_now q ≡ Some ask → core_asked N (Some ask) ≡ None → Shows (next_reading m r) q
    -- no other core of acts is asked; in a block, at main's return, at rest and at a meeting none is
    pub asks_alone : (r : Reading) (q : Slot) (k : ℕ) → Obeys m r → Shows r q → IsActCore N k → core_asked N (asks_now q) ≢ Some k → r.signal (ports.core k).ask ≡ 0
    -- who meets goes on once the barrier tells that it does not wait
    pub waits : (r : Reading) (q : Slot) (l next n : ℕ) (b : ActOperand) → Obeys m r → Shows r q → q.state ≡ 0 → q.stage ≡ meeting rest l →
        slice_get code.stages l ≡ Some (stage.Act (act.BarrierWait b) next) → residue_of 64 (act_value q.variables b) ≡ n → n < N.barriers →
        (r.signal ((ports.core (barrier_core N n)).told 0) ≡ 1 → Shows (next_reading m r) q)
        × (r.signal ports.enable ≡ 1 → r.signal ((ports.core (barrier_core N n)).told 0) ≡ 0 → Shows (next_reading m r) (went_on next q))
    -- main's return leads to rest, and main rests for ever
    pub returns : main ≡ true → (r : Reading) (q : Slot) (next : ℕ) → Obeys m r → Shows r q → q.state ≡ 0 → slice_get code.stages q.stage ≡ Some (stage.Act act.Return next) →
        r.signal ports.enable ≡ 1 → Shows (next_reading m r) (went_on rest q)
    pub ends : main ≡ true → (r : Reading) (q : Slot) → Obeys m r → Shows r q → q.stage ≡ rest → Shows (next_reading m r) q
    -- another thread rests until it is told that it runs, and then sets out with the argument that it is told
    pub idles : main ≡ false → N.thread_ids ≡ true → (r : Reading) (q : Slot) → Obeys m r → Shows r q → q.stage ≡ rest → r.signal ((ports.core (thread_ids_core N)).told 0) ≡ 0 →
        Shows (next_reading m r) q
    pub begins : main ≡ false → N.thread_ids ≡ true → (r : Reading) (q : Slot) → Obeys m r → Shows r q → q.state ≡ 0 → q.stage ≡ rest → r.signal ports.enable ≡ 1 →
        r.signal ((ports.core (thread_ids_core N)).told 0) ≡ 1 →
        Shows (next_reading m r) (set_out code.argument (r.signal ((ports.core (thread_ids_core N)).told 1)) q)
    pub done : (r : Reading) (q : Slot) → Obeys m r → Shows r q → r.signal ports.done ≡ bit_of (nat_eq q.stage rest)
