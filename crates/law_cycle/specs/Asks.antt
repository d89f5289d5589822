-- What a thread asks of each core, by the slot where it stands.
use Rattle.std.specs.Prelude.{◌≡◌, ◌≢◌, ℕ, suc, ◌<◌, Bool, true, Some, slice_get}
use Rattle.hls_ints.specs.Residues.{residue_of, bit_of}
use Rattle.hls_ints.specs.Types.{IntegerType, width_of}
use Rattle.bank_partition.specs.declared.banks.Spread.{Spread}
use Rattle.block_ir.specs.declared.block.Block.{Block}
use Rattle.block_ir.specs.declared.plan.BlockPlan.{BlockPlan}
use Rattle.planned_block.specs.Slot.{Slot}
use Rattle.thread_promise.specs.Globals.{IsAddress, place_now, bank_now, written_now, IsOpen}
use Rattle.block_ir.specs.Asked.{Asked, core_of}
use Rattle.thread_promise.specs.Moves.{asked_in, core_asked}
use Rattle.thread_promise.specs.Serving.{IsActCore}
use Rattle.law_cycle.specs.Thread.{Thread, Runs}

-- by part: a bank is asked, where the thread is enabled, for an access of element j of its global: to read, or to write a number
pub record AsksFor (ask : ℕ → ℕ) (enabled : Bool) (s : Spread) (j : ℕ) (writes : Bool) (number : ℕ) : Type 0 where
  pub raised : ask 0 ≡ bit_of enabled
  pub operation : ask 1 ≡ bit_of writes
  pub address : IsAddress s j (ask 2)
  pub value : writes ≡ true → ask 3 ≡ number

-- and a core of acts for what an act asks
pub record AsksAct (ask : ℕ → ℕ) (enabled : Bool) (parts : ℕ) (a : Asked) : Type 0 where
  pub raised : ask 0 ≡ bit_of enabled
  pub number : ask 1 ≡ a.number
  pub values : (j w : ℕ) → slice_get a.values j ≡ Some w → suc (suc j) < parts → ask (suc (suc j)) ≡ w

module _ (t : Thread) (enabled : Bool) (q : Slot) (ask : ℕ → ℕ → ℕ) where
  -- an access of the slot's block that is still to be granted
  pub record IsWanted (n k x : ℕ) (writes : Bool) (b : Block) (p : BlockPlan) : Type 0 where
    pub runs : Runs t q.stage b p
    pub inside : q.state < p.states
    pub is_open : IsOpen t.spreads b p q k x writes
    pub bank : bank_now t.spreads b p q k x ≡ n

  pub record Asks : Type 0 where
    -- of a bank its access that is still to be granted, where there is one
    pub bank : (n k x : ℕ) (writes : Bool) (b : Block) (p : BlockPlan) (s : Spread) (ty : IntegerType) → IsWanted n k x writes b p → slice_get t.spreads x ≡ Some s →
        slice_get t.globals x ≡ Some ty → AsksFor (ask n) enabled s (place_now t.spreads b p q k x).index writes (residue_of (width_of ty) (written_now t.spreads b p q k))
    pub no_bank : (n : ℕ) → n < t.numbers.banks → ((k x : ℕ) (writes : Bool) (b : Block) (p : BlockPlan) → IsWanted n k x writes b p → ⊥) → ask n 0 ≡ 0
    -- of the core of an act what that asks, and of no other core of acts
    pub core : (k : ℕ) (a : Asked) → asked_in t.main (slice_get t.code.stages q.stage) q.variables ≡ Some a → core_of t.numbers a ≡ Some k → AsksAct (ask k) enabled (t.parts k) a
    pub no_core : (k : ℕ) → IsActCore t.numbers k → core_asked t.numbers (asked_in t.main (slice_get t.code.stages q.stage) q.variables) ≢ Some k → ask k 0 ≡ 0
