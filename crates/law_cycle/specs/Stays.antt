-- Why an enabled thread keeps its slot, and whose the accesses of one are that works.
use Rattle.std.specs.Prelude.{◌≡◌, ℕ, ◌<◌, Bool, true, false, ℤ, Some, slice_get}
use Rattle.hls_ints.specs.Residues.{residue_of}
use Rattle.interleaving.specs.Memory.{Location, Memory, Touches}
use Rattle.block_ir.specs.declared.block.Block.{Block}
use Rattle.block_ir.specs.declared.code.Act.{Act}
use Rattle.block_ir.specs.declared.code.Act.TheVariants as act
use Rattle.block_ir.specs.declared.code.ActOperand.{ActOperand}
use Rattle.block_ir.specs.declared.code.Stage.TheVariants as stage
use Rattle.block_ir.specs.declared.plan.BlockPlan.{BlockPlan}
use Rattle.planned_block.specs.Block.{size}
use Rattle.planned_block.specs.Slot.{Slot, bank_access_now}
use Rattle.planned_block.specs.Advance.{answered, wires}
use Rattle.plan_blocks.specs.View.{planned_view, plan_view}
use Rattle.block_ir.specs.Asked.{act_value, Asked, asked, barrier_core, thread_ids_core}
use Rattle.thread_promise.specs.Globals.{bank_of, bank_now, IsOpen}
use Rattle.thread_promise.specs.Moves.{meeting}
use Rattle.verilog_meaning.specs.Readings.{Reading}
use Rattle.circuit.specs.Modules.{Agree}
use Rattle.law_cycle.specs.Thread.{Thread, rest, Runs, IsThread, Stands}
use Rattle.law_cycle.specs.Moved.{IsRefused, Moved}

module _ (t : Thread) where
  pub data IsStuck (granted : ℕ → Bool) (news : ℕ → ℕ → ℕ) (q : Slot) : Type 0 where
    -- it wants a bank, and none that it wants grants it
    Unserved : (b : Block) (p : BlockPlan) (runs : Runs t q.stage b p) (inside : q.state < p.states) (k x : ℕ) (writes : Bool) (some : IsOpen t.spreads b p q k x writes)
        (none : (j y : ℕ) (v : Bool) → IsOpen t.spreads b p q j y v → granted (bank_now t.spreads b p q j y) ≡ false) → IsStuck granted news q
    -- the core of its act does not grant it
    Refused : (a : Act) (next : ℕ) (ask : Asked) (listed : slice_get t.code.stages q.stage ≡ Some (stage.Act a next)) (asks : asked t.main a q.variables ≡ Some ask)
        (refused : IsRefused t granted ask) → IsStuck granted news q
    -- main is over; another thread does not run; it waits at a barrier
    Over : (main : t.main ≡ true) (at : q.stage ≡ rest t) → IsStuck granted news q
    Unrun : (thread : t.main ≡ false) (at : q.stage ≡ rest t) (none : news (thread_ids_core t.numbers) 0 ≡ 0) → IsStuck granted news q
    Unmet : (l next : ℕ) (b : ActOperand) (at : q.stage ≡ meeting (rest t) l) (listed : slice_get t.code.stages l ≡ Some (stage.Act (act.BarrierWait b) next))
        (below : residue_of 64 (act_value q.variables b) < t.numbers.barriers)
        (one : news (barrier_core t.numbers (residue_of 64 (act_value q.variables b))) 0 ≡ 1) → IsStuck granted news q

  -- under these grants each access that is made is at a bank that grants it
  abbrev pub GrantsHold : (ℕ → Bool) → Slot → Block → BlockPlan → (ℕ → Bool) → Type 0
  GrantsHold granted q b p grant =
      (k : ℕ) (l : Location) → k < size (planned_view b) → answered (planned_view b) (plan_view b p) q grant k ≡ true →
      Touches l (bank_access_now (planned_view b) (plan_view b p) q (wires (bank_of t.spreads) (planned_view b) (plan_view b p) q) k) → granted (bank_of t.spreads l) ≡ true

-- WHO STAYS: an enabled thread that keeps its beat is stuck, and keeps its slot
abbrev pub WhoStays : Type 0
WhoStays =
    (t : Thread) (enabled : Bool) (granted : ℕ → Bool) (news : ℕ → ℕ → ℕ) (memory : Memory ℤ) (q r : Slot) → Moved t enabled granted news memory q r → enabled ≡ true →
    r.beat ≡ q.beat → IsStuck t granted news q × (r ≡ q)

-- GRANTED ACCESSES: what is heard of the banks of open accesses decides whose the accesses are
abbrev pub GrantedAccesses : Type 0
GrantedAccesses =
    (t : Thread) (granted : ℕ → Bool) (q : Slot) (b : Block) (p : BlockPlan) (grant : ℕ → Bool) →
    ((k x : ℕ) (writes : Bool) → IsOpen t.spreads b p q k x writes → grant k ≡ granted (bank_now t.spreads b p q k x)) → GrantsHold t granted q b p grant

-- A STILL READING: a move that leaves the registers and memory words of the module leaves the slot, and an enabled thread is stuck
abbrev pub StillReading : Type 0
StillReading =
    (t : Thread) (s g : Reading) (enabled : Bool) (granted : ℕ → Bool) (news : ℕ → ℕ → ℕ) (memory : Memory ℤ) (q r : Slot) → IsThread t → Stands t s q →
    Moved t enabled granted news memory q r → Stands t g r → Agree t.body s g → (r ≡ q) × (enabled ≡ true → IsStuck t granted news q)
