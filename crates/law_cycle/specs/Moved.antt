-- How the slot of a thread moves in a cycle, by what the thread hears.
use Rattle.std.specs.Prelude.{◌≡◌, ℕ, ◌<◌, Bool, true, false, ℤ, Some, None, slice_get}
use Rattle.hls_ints.specs.Residues.{residue_of}
use Rattle.interleaving.specs.Memory.{Memory}
use Rattle.block_ir.specs.declared.block.Block.{Block}
use Rattle.block_ir.specs.declared.code.Act.{Act}
use Rattle.block_ir.specs.declared.code.Act.TheVariants as act
use Rattle.block_ir.specs.declared.code.ActOperand.{ActOperand}
use Rattle.block_ir.specs.declared.code.Stage.TheVariants as stage
use Rattle.block_ir.specs.declared.plan.BlockPlan.{BlockPlan}
use Rattle.planned_block.specs.Block.{size}
use Rattle.planned_block.specs.Slot.{Slot}
use Rattle.planned_block.specs.Advance.{advance}
use Rattle.plan_blocks.specs.View.{planned_view, plan_view}
use Rattle.block_ir.specs.Asked.{act_value, Asked, asked, core_of, barrier_core, thread_ids_core}
use Rattle.thread_promise.specs.Globals.{bank_of, bank_now, IsOpen}
use Rattle.thread_promise.specs.Promise.{went_on}
use Rattle.thread_promise.specs.Moves.{meeting, stage_after, set_out}
use Rattle.law_cycle.specs.Thread.{Thread, rest, Runs}

-- an act is not granted: its object has no core, or the core that it asks does not grant it
pub data IsRefused (t : Thread) (granted : ℕ → Bool) (ask : Asked) : Type 0 where
  Lost : (none : core_of t.numbers ask ≡ None) → IsRefused t granted ask
  Ungranted : (k : ℕ) (core : core_of t.numbers ask ≡ Some k) (lost : granted k ≡ false) → IsRefused t granted ask

module _ (t : Thread) (enabled : Bool) (granted : ℕ → Bool) (news : ℕ → ℕ → ℕ) (memory : Memory ℤ) (q r : Slot) where
  pub data Moved : Type 0 where
    Rests : (off : enabled ≡ false) (slot : r ≡ q) → Moved
    -- within a block, also where a bank does not grant what it is asked
    Works : (on : enabled ≡ true) (b : Block) (p : BlockPlan) (runs : Runs t q.stage b p) (inside : q.state < p.states) (grant : ℕ → Bool)
        (within : (k : ℕ) → grant k ≡ true → k < size (planned_view b))
        (heard : (k x : ℕ) (writes : Bool) → IsOpen t.spreads b p q k x writes → grant k ≡ granted (bank_now t.spreads b p q k x))
        (slot : r ≡ advance (bank_of t.spreads) (planned_view b) (plan_view b p) q memory grant) → Moved
    Stays : (on : enabled ≡ true) (a : Act) (next : ℕ) (ask : Asked) (listed : slice_get t.code.stages q.stage ≡ Some (stage.Act a next))
        (asks : asked t.main a q.variables ≡ Some ask) (refused : IsRefused t granted ask) (slot : r ≡ q) → Moved
    Acted : (on : enabled ≡ true) (a : Act) (next k : ℕ) (ask : Asked) (listed : slice_get t.code.stages q.stage ≡ Some (stage.Act a next))
        (asks : asked t.main a q.variables ≡ Some ask) (core : core_of t.numbers ask ≡ Some k) (won : granted k ≡ true)
        (slot : r ≡ went_on (stage_after (rest t) q.stage a next) q) → Moved
    Returned : (on : enabled ≡ true) (main : t.main ≡ true) (next : ℕ) (listed : slice_get t.code.stages q.stage ≡ Some (stage.Act act.Return next))
        (slot : r ≡ went_on (rest t) q) → Moved
    -- main is over
    Ended : (on : enabled ≡ true) (main : t.main ≡ true) (at : q.stage ≡ rest t) (slot : r ≡ q) → Moved
    -- another thread is told that it does not run, or that it does
    Idles : (on : enabled ≡ true) (thread : t.main ≡ false) (at : q.stage ≡ rest t) (news_ : news (thread_ids_core t.numbers) 0 ≡ 0) (slot : r ≡ q) → Moved
    Sets_out : (on : enabled ≡ true) (thread : t.main ≡ false) (at : q.stage ≡ rest t) (news_ : news (thread_ids_core t.numbers) 0 ≡ 1)
        (slot : r ≡ set_out t.code.argument (news (thread_ids_core t.numbers) 1) q) → Moved
    -- at a meeting, where the barrier tells that it waits, or that it does not
    Holds_on : (on : enabled ≡ true) (l next : ℕ) (b : ActOperand) (at : q.stage ≡ meeting (rest t) l)
        (listed : slice_get t.code.stages l ≡ Some (stage.Act (act.BarrierWait b) next)) (below : residue_of 64 (act_value q.variables b) < t.numbers.barriers)
        (news_ : news (barrier_core t.numbers (residue_of 64 (act_value q.variables b))) 0 ≡ 1) (slot : r ≡ q) → Moved
    Goes_on : (on : enabled ≡ true) (l next : ℕ) (b : ActOperand) (at : q.stage ≡ meeting (rest t) l)
        (listed : slice_get t.code.stages l ≡ Some (stage.Act (act.BarrierWait b) next)) (below : residue_of 64 (act_value q.variables b) < t.numbers.barriers)
        (news_ : news (barrier_core t.numbers (residue_of 64 (act_value q.variables b))) 0 ≡ 0) (slot : r ≡ went_on next q) → Moved
