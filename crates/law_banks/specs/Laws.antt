-- Who asks no bank, how a bank's machine moves, and whose the accesses are that the memory has after a cycle.
use Rattle.std.specs.Prelude.{◌≡◌, ℕ, zero, suc, ◌<◌, ◌≤◌, Bool, true, false, List, [], ◌++◌, Option, Some, None, ℤ}
use Rattle.hls_ints.specs.Types.{IntegerType}
use Rattle.interleaving.specs.Memory.{Location, Memory, Access, memory_after, Touches}
use Rattle.bank_partition.specs.declared.banks.Spread.{Spread}
use Rattle.bank_cores.specs.declared.bank.Shape.{Shape as Bank}
use Rattle.bank_cores.specs.Machine.{Words, Ask, ask_of, bank_machine}
use Rattle.circuit.specs.Arbitration.{is_granted}
use Rattle.circuit.specs.Machines.{after_grant}
use Rattle.block_ir.specs.declared.block.Block.{Block}
use Rattle.block_ir.specs.declared.plan.BlockPlan.{BlockPlan}
use Rattle.planned_block.specs.Block.{size}
use Rattle.planned_block.specs.Slot.{Slot, bank_access_now}
use Rattle.planned_block.specs.Advance.{answered, wires}
use Rattle.plan_blocks.specs.View.{planned_view, plan_view}
use Rattle.thread_promise.specs.Globals.{bank_total, bank_of, bank_now, IsOpen}
use Rattle.law_banks.specs.Cycle.{AreBanked, CyclesBanks, words_after, memory_next}

-- SILENT: where the banks of open operations are not asked, no bank is
abbrev pub StoppedIsSilent : Type 0
StoppedIsSilent =
    (spreads : List Spread) (b : Block) (p : BlockPlan) (q : Slot) (asks : ℕ → Ask) →
    ((k x : ℕ) (writes : Bool) → IsOpen spreads b p q k x writes → (asks (bank_now spreads b p q k x)).asks ≡ false) →
    ((n : ℕ) → n < bank_total spreads → ((k x : ℕ) (writes : Bool) → IsOpen spreads b p q k x writes → bank_now spreads b p q k x ≡ n → ⊥) → (asks n).asks ≡ false) →
    (n : ℕ) → n < bank_total spreads → (asks n).asks ≡ false

-- MOVES: a bank's machine moves as the cycle of the banks wants it
abbrev pub BankMoves : Type 0
BankMoves = (b : Bank) (s : Words) (numbers : ℕ → ℕ → ℕ) (o : Option ℕ) →
    after_grant (bank_machine b) s (λ i. ask_of (numbers i)) o ≡ words_after s (λ i. ask_of (numbers i)) o

-- ---- the memory

-- the accesses of all threads, one thread after the other
abbrev pub all_made : (ℕ → List (Access ℤ)) → ℕ → List (Access ℤ)
all_made made zero = []
all_made made (suc n) = all_made made n ++ made n

-- to whom a bank is granted, or a number that no thread has
abbrev pub owner_of : ℕ → Option ℕ → ℕ
owner_of T None = T
owner_of T (Some i) = i

-- ALL ACCESSES: the memory has those of all threads
abbrev pub MemoryHasAll : Type 0
MemoryHasAll =
    (spreads : List Spread) (globals : List IntegerType) (T : ℕ) (asks : ℕ → ℕ → Ask) (winner : ℕ → Option ℕ) (held next_held : ℕ → Words) (memory : Memory ℤ)
    (words next_words : ℕ → ℕ → ℤ) (made : ℕ → List (Access ℤ)) →
    AreBanked spreads globals → CyclesBanks spreads globals T asks winner held next_held memory words next_words made →
    (l : Location) → memory_after (all_made made T) memory l ≡ memory_next spreads made winner memory l

-- OWNED: a place has the accesses of the owner of its bank, and where nobody has it, stays
pub record IsOwned (spreads : List Spread) (T : ℕ) (winner : ℕ → Option ℕ) (memory : Memory ℤ) (made : ℕ → List (Access ℤ)) : Type 0 where
  pub by : (i : ℕ) (l : Location) → i < T → owner_of T (winner (bank_of spreads l)) ≡ i → memory_next spreads made winner memory l ≡ memory_after (made i) memory l
  pub by_none : (l : Location) → T ≤ owner_of T (winner (bank_of spreads l)) → memory_next spreads made winner memory l ≡ memory l

abbrev pub PlacesAreOwned : Type 0
PlacesAreOwned =
    (spreads : List Spread) (T : ℕ) (winner : ℕ → Option ℕ) (memory : Memory ℤ) (made : ℕ → List (Access ℤ)) → ((n i : ℕ) → winner n ≡ Some i → i < T) →
    IsOwned spreads T winner memory made

-- TOUCHED: what an answered operation of thread i touches is in a bank that it owns
abbrev pub AnsweredIsOwned : Type 0
AnsweredIsOwned =
    (spreads : List Spread) (T i : ℕ) (winner : ℕ → Option ℕ) (q : Slot) (b : Block) (p : BlockPlan) (grant : ℕ → Bool) →
    ((k x : ℕ) (writes : Bool) → IsOpen spreads b p q k x writes → grant k ≡ is_granted (winner (bank_now spreads b p q k x)) i) →
    (k : ℕ) (l : Location) → k < size (planned_view b) → answered (planned_view b) (plan_view b p) q grant k ≡ true →
    Touches l (bank_access_now (planned_view b) (plan_view b p) q (wires (bank_of spreads) (planned_view b) (plan_view b p) q) k) → owner_of T (winner (bank_of spreads l)) ≡ i
