-- The move of a thread of the machine in the words of planned threads.
use Rattle.std.specs.Prelude.{◌≡◌, ◌≢◌, ℕ, ◌<◌, ◌⊎◌, nat_eq, Bool, true, false, List, [], length, ℤ, Some}
use Rattle.c_program.specs.Tree.{Program}
use Rattle.interleaving.specs.Memory.{Location, Memory, Access, Touches}
use Rattle.planned_block.specs.Block.{Block, size}
use Rattle.planned_block.specs.Plan.{Plan}
use Rattle.planned_block.specs.Slot.{Slot, bank_access_now}
use Rattle.planned_block.specs.Advance.{accesses_of_cycle, requests, answered, wires, Advances}
use Rattle.block_ir.specs.declared.code.Act.{Act}
use Rattle.block_ir.specs.declared.code.Act.TheVariants as act
use Rattle.block_ir.specs.declared.code.Stage.TheVariants as stage
use Rattle.block_ir.specs.Asked.{Asked, asked, core_of}
use Rattle.block_refine.specs.Routines.{stage_at, rest_of, blocks_of, plans_of}
use Rattle.thread_promise.specs.Globals.{bank_of}
use Rattle.thread_promise.specs.Promise.{is_run, went_on}
use Rattle.thread_promise.specs.Moves.{stage_after}
use Rattle.law_threads.specs.Cores.{Core}
use Rattle.law_threads.specs.Surroundings.{Wakes}
use Rattle.law_cycle.specs.Built.{Parts}
use Rattle.law_cycle.specs.Bodies.{numbers_of}

-- the slot is in a block
abbrev pub in_block : Parts → Slot → Bool
in_block K q = is_run (stage_at K.codes q.routine q.stage)

-- thread i, enabled or not, asks and is granted so in a cycle; its slot was q and is r, by operation it is granted so, and it has made these
-- accesses
module _ (P : Program) (K : Parts) (i : ℕ) (enabled : Bool) (ask : ℕ → ℕ → ℕ) (granted : ℕ → Bool) (memory : Memory ℤ) (q r : Slot) (grant : ℕ → Bool)
    (made : List (Access ℤ)) where
  -- the block advances
  pub record IsAdvance (b : Block) (p : Plan) : Type 0 where
    pub inside : q.state < p.states
    pub within : (k : ℕ) → grant k ≡ true → k < size b
    pub advances : Advances (bank_of K.spreads) b p q memory grant (wires (bank_of K.spreads) b p q) r
    -- its accesses, each at a bank that grants it
    pub makes : made ≡ accesses_of_cycle b p q grant (wires (bank_of K.spreads) b p q)
    pub owned : (k : ℕ) (l : Location) → k < size b → answered b p q grant k ≡ true → Touches l (bank_access_now b p q (wires (bank_of K.spreads) b p q) k) →
        granted (bank_of K.spreads l) ≡ true
    -- a request asks a bank, and a bank that is asked and grants answers one
    pub wants : (k : ℕ) → k < size b → requests b p q k ≡ true → (n : ℕ) × (n < length K.cores.banks) × (ask n 0 ≢ 0)
    pub serves : (n : ℕ) → n < length K.cores.banks → ask n 0 ≢ 0 → granted n ≡ true → (k : ℕ) × (k < size b) × (answered b p q grant k ≡ true)

  pub data Goes (c : ℕ → Core) : Type 0 where
    Keeps : (idle : (enabled ≡ false) ⊎ (in_block K q ≡ false)) (slot : r ≡ q) (ungranted : (k : ℕ) → grant k ≡ false) (none : made ≡ []) → Goes c
    Advanced : (on : enabled ≡ true) (block : in_block K q ≡ true) (is : IsAdvance (blocks_of K.codes q.routine q.stage) (plans_of K.codes q.routine q.stage)) → Goes c
    Woke : (on : enabled ≡ true) (outside : in_block K q ≡ false) (wakes : Wakes P K.codes (numbers_of K.cores) K.cores.threads c i q r) (none : made ≡ []) → Goes c
    Acted : (on : enabled ≡ true) (a : Act) (next k : ℕ) (asks : Asked) (listed : stage_at K.codes q.routine q.stage ≡ Some (stage.Act a next))
        (is : asked (nat_eq i 0) a q.variables ≡ Some asks) (core : core_of (numbers_of K.cores) asks ≡ Some k) (won : granted k ≡ true)
        (slot : r ≡ went_on (stage_after (rest_of K.codes q.routine) q.stage a next) q) (none : made ≡ []) → Goes c
    Returned : (on : enabled ≡ true) (main : i ≡ 0) (next : ℕ) (listed : stage_at K.codes q.routine q.stage ≡ Some (stage.Act act.Return next))
        (slot : r ≡ went_on (rest_of K.codes q.routine) q) (none : made ≡ []) → Goes c
