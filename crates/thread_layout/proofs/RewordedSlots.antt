-- What is asked does not hang on where words are told, nor on units: of registers with other words and units it is the same.
use Rattle.std.proofs.Common.{◌≡◌, ℕ, List, length, Option, Some, slice_get, ℤ, refl}
use Rattle.hls_ints.specs.Types.{IntegerType}
use Rattle.bank_partition.specs.declared.banks.Spread.{Spread}
use Rattle.block_ir.specs.declared.block.Block.{Block}
use Rattle.block_ir.specs.declared.code.Stage.{Stage}
use Rattle.block_ir.specs.declared.code.ThreadCode.{ThreadCode}
use Rattle.block_ir.specs.declared.plan.BlockPlan.{BlockPlan}
use Rattle.block_ir.specs.declared.plan.StagePlan.{StagePlan}
use Rattle.block_ir.specs.declared.plan.Planned.{Planned}
use Rattle.planned_block.specs.Slot.{Slot}
use Rattle.netlist.specs.declared.netlist.Signal.{Signal}
use Rattle.netlist.specs.declared.netlist.Module.{Module}
use Rattle.verilog_meaning.specs.Readings.{Reading}
use Rattle.operator_wires.specs.Built.{Base, IsEarlier}
use Rattle.block_datapath.specs.declared.registers.Held.{Held}
use Rattle.block_datapath.specs.declared.registers.UnitResults.{UnitResults}
use Rattle.block_datapath.specs.declared.registers.Registers.{Registers}
use Rattle.block_datapath.specs.Wired.{AreUnits}
use Rattle.block_datapath.specs.Seen.{IsVariable, IsKept}
use Rattle.block_datapath.specs.Leave.{IsInStage}
use Rattle.block_datapath.specs.Operations.{SeesSlot}
use Rattle.unit_datapath.specs.Units.{IsInCode}
use Rattle.thread_asks.specs.declared.asking.Caller.{Caller}
use Rattle.thread_slots.specs.declared.requests.Requests.{Requests}
use Rattle.thread_requests.specs.declared.early.Early.{Early}
use Rattle.thread_asks.specs.Asking.{AsksAt}
use Rattle.thread_requests.specs.Early.{with_banks, AsksGlobals, LaysEarly}
use Rattle.thread_layout.specs.Modules.{worded}
use Rattle.thread_requests.specs.Needing.{NeedsMore, FitStages, IsNeedOfFirst}
use Rattle.thread_slots.specs.Slots.{LaysSlot, KnowsStage}
use Rattle.thread_asks.specs.Fields.{SeesVariables}
use Rattle.thread_slots.specs.Wired.{AreSlots}

-- ---- registers that stand

pub slots_reworded : (base : Base) (a : List Signal) (code : ThreadCode) (registers : Registers) (words : List Held) (units : List UnitResults) → AreSlots base a code registers
    → ((n : ℕ) (h : Held) → slice_get words n ≡ Some h → IsEarlier a base h.register h.width) → AreUnits a base units → AreSlots base a code (worded registers words units)
slots_reworded base a code registers words units t stand shared = record {
  stage = t.stage;
  state = t.state;
  beat = t.beat;
  variables = t.variables;
  kept = t.kept;
  typed = t.typed;
  count = t.count;
  room = t.room;
  arrays = t.arrays;
  words = λ n h e after. stand n h e;
  units = shared;
}

pub slot_reworded : (code : ThreadCode) (plan : Planned) (first : ℕ) (kept_widths : List ℕ) (told words : List Held) (units : List UnitResults) (spreads : List Spread)
    (a b : List Signal)
    (registers : Registers)
    → LaysSlot code plan first kept_widths told spreads a b registers → LaysSlot code plan first kept_widths words spreads a b (worded registers words units)
slot_reworded code plan first kept_widths told words units spreads a b registers t = record {
  grows = t.grows;
  stage = t.stage;
  state = t.state;
  beat = t.beat;
  beat_stands = t.beat_stands;
  beat_named = t.beat_named;
  variables_count = t.variables_count;
  variables_named = t.variables_named;
  variables = t.variables;
  kept_count = t.kept_count;
  kept = t.kept;
  words_are = refl;
  spreads_are = t.spreads_are;
  stage_room = t.stage_room;
  state_room = t.state_room;
  states_fit = t.states_fit;
}

-- ---- readings

module _ (code : ThreadCode) (registers : Registers) (words : List Held) (units : List UnitResults) (m : Module) (r : Reading) where
  abbrev other : Registers
  other = worded registers words units

  knows_back : KnowsStage code other m r → KnowsStage code registers m r
  knows_back t = record { wide = t.wide; room = t.room; fits = t.fits }

  variable_back : (types : List IntegerType) (x : ℕ) (ty : IntegerType) (v : ℤ) → IsVariable m r other types x ty v → IsVariable m r registers types x ty v
  variable_back types x ty v t = record { declared = t.declared; held = t.held; listed = t.listed; wide = t.wide; shows = t.shows; typed = t.typed }

  kept_back : (number : Option ℕ) (ty : IntegerType) (v : ℤ) → IsKept m r other number ty v → IsKept m r registers number ty v
  kept_back number ty v t = record { held = t.held; listed = t.listed; wide = t.wide; room = t.room; fits = t.fits; shows = t.shows; typed = t.typed }

  sees_back : (variables : ℕ → ℤ) → SeesVariables code other m r variables → SeesVariables code registers m r variables
  sees_back variables t x ty declared = variable_back code.variables x ty (variables x) (t x ty declared)

  in_stage_back : (globals : List IntegerType) (l : ℕ) (b : Block) (p : BlockPlan) (q : Slot) → IsInStage globals code other l b p m r q →
      IsInStage globals code registers l b p m r q
  in_stage_back globals l b p q t = record {
    has = record { wide = t.has.wide; room = t.has.room; fits = t.has.fits };
    stage = t.stage;
    wide = t.wide;
    state = t.state;
    below = t.below;
    room = t.room;
  }

  slot_back : (globals : List IntegerType) (b : Block) (p : BlockPlan) (q : Slot) → SeesSlot globals code other b p m r q → SeesSlot globals code registers b p m r q
  slot_back globals b p q t = record {
    variables = λ x ty declared. variable_back code.variables x ty (q.variables x) (t.variables x ty declared);
    arrays = t.arrays;
    alive = λ k n a. kept_back (Some n) _ (q.registers n) (t.alive k n a);
  }

  pub code_back : (globals : List IntegerType) (plan : Planned) (b : Block) (p : BlockPlan) (q : Slot) → IsInCode code other plan globals m r q b p
      → IsInCode code registers plan globals m r q b p
  code_back globals plan b p q t = record {
    listed = t.listed;
    planned_so = t.planned_so;
    right = t.right;
    inside = in_stage_back globals q.stage b p q t.inside;
    sees = slot_back globals b p q t.sees;
  }

-- ---- where a core is needed

needs_reworded : (code : ThreadCode) (registers : Registers) (words : List Held) (units : List UnitResults) (plan : Planned) (a b : List Signal) (before after : ℕ)
    → NeedsMore registers (FitStages registers code plan) (IsNeedOfFirst registers code plan (length code.stages)) a b before after
    → NeedsMore (worded registers words units) (FitStages (worded registers words units) code plan)
    (IsNeedOfFirst (worded registers words units) code plan (length code.stages)) a b before after
needs_reworded code registers words units plan a b before after t = record {
  grows = t.grows;
  wide = t.wide;
  shows = λ m r v u g o has where_it_is.
      t.shows m r v u g o has
      (record {
        knows = knows_back code registers words units m r where_it_is.knows;
        state = where_it_is.state;
        inside = λ l b p e f here.
            let own = where_it_is.inside l b p e f here in
            record { wide = own.wide; is = own.is; below = own.below; room = own.room; small = own.small; taken = own.taken };
        is = where_it_is.is;
      });
  wired = λ base stage state room bit. t.wired base stage state (record { stages = room.stages; states = room.states }) bit;
}

-- ---- what is asked

module _ (globals : List IntegerType) (code : ThreadCode) (registers : Registers) (words : List Held) (units : List UnitResults) (caller : Caller) where
  asks_at_reworded : (spreads : List Spread) (l : ℕ) (s : Stage) (plan : Option StagePlan) (new : List Signal) (start c : Requests)
      → AsksAt globals spreads code registers caller l s plan new start c → AsksAt globals spreads code (worded registers words units) caller l s plan new start c
  asks_at_reworded spreads l s plan new start c t = record {
    asks = λ act next call e f m r variables g o knows here none seen.
        let made =
        t.asks act next call e f m r variables g o (knows_back code registers words units m r knows) here none
        (sees_back code registers words units m r variables seen) in
        record { wants = made.wants; object_is = made.object_is; number_is = made.number_is; values_are = made.values_are };
    quiet = λ k no m r g o knows here none. t.quiet k no m r g o (knows_back code registers words units m r knows) here none;
    blocks = λ b p e f m r q wire j many right g o knows inside sees fit as_many less.
        t.blocks b p e f m r q wire j many right g o (knows_back code registers words units m r knows) (in_stage_back code registers words units m r globals l b p q inside)
        (slot_back code registers words units m r globals b p q sees) fit as_many less;
    silent = λ no m r j many g o knows here as_many less. t.silent no m r j many g o (knows_back code registers words units m r knows) here as_many less;
  }

  globals_reworded : (plan : Planned) (a b : List Signal) (c : Requests) (done : ℕ) → AsksGlobals globals code registers caller plan a b c done
      → AsksGlobals globals code (worded registers words units) caller plan a b c done
  globals_reworded plan a b c done t =
      let asks = t.asks in
      record {
        start = t.start;
        with_start = t.with_start;
        whole = t.whole;
        with_whole = t.with_whole;
        one_each = t.one_each;
        are_one_each = t.are_one_each;
        begins = t.begins;
        met = λ k s less listed barrier next e m r variables g o knows here seen typed.
            t.met k s less listed barrier next e m r variables g o (knows_back code registers words units m r knows) here
            (sees_back code registers words units m r variables seen) typed;
        asks = record {
          grows = asks.grows;
          many = asks.many;
          bits = asks.bits;
          does = λ e k s listed. asks_at_reworded t.one_each k s (slice_get plan.stages k) t.with_whole t.start (with_banks c t.whole) (asks.does e k s listed);
          beyond = λ m r g o e knows none. asks.beyond m r g o e (knows_back code registers words units m r knows) none;
          done_wide = asks.done_wide;
          done_is = λ m r g o knows. asks.done_is m r g o (knows_back code registers words units m r knows);
        };
        spreads = t.spreads;
      }

  pub early_reworded : (granted : List ℕ) (plan : Planned) (a b : List Signal) (early : Early) → LaysEarly globals code registers granted caller plan a b early
      → LaysEarly globals code (worded registers words units) granted caller plan a b early
  early_reworded granted plan a b early t = record {
    grows = t.grows;
    free = t.free;
    bank_opens = t.bank_opens;
    acts = t.acts;
    held = t.held;
    with_asks = t.with_asks;
    with_needs = t.with_needs;
    with_free = t.with_free;
    with_open = t.with_open;
    with_acts = t.with_acts;
    with_lost = t.with_lost;
    asked = globals_reworded plan a t.with_asks early.requests early.done t.asked;
    holds = needs_reworded code registers words units plan t.with_asks t.with_needs early.done t.held t.holds;
    frees = t.frees;
    opens = t.opens;
    opens_acts = t.opens_acts;
    loses = t.loses;
    open_is = t.open_is;
    barriers_are = t.barriers_are;
    needs = t.needs;
  }
