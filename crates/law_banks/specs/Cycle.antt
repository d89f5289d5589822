-- A cycle of the banks: threads ask, each bank grants one of them at most, and what the granted accesses make of the memory and of the words kept.
use Rattle.std.specs.Prelude.{◌≡◌, ℕ, ◌+◌, ◌<◌, Bool, true, false, List, [], Option, Some, None, slice_get, ℤ}
use Rattle.hls_ints.specs.Residues.{residue_of}
use Rattle.hls_ints.specs.Types.{IntegerType, width_of}
use Rattle.interleaving.specs.Memory.{Memory, Access, memory_after}
use Rattle.bank_partition.specs.declared.banks.Spread.{Spread}
use Rattle.bank_cores.specs.Machine.{Words, Ask, acted}
use Rattle.circuit.specs.Arbitration.{is_granted}
use Rattle.block_ir.specs.declared.block.Block.{Block}
use Rattle.block_ir.specs.declared.code.ThreadCode.{ThreadCode}
use Rattle.block_ir.specs.declared.plan.BlockPlan.{BlockPlan}
use Rattle.block_ir.specs.declared.plan.Planned.{Planned}
use Rattle.planned_block.specs.Slot.{Slot, AreBanks as AreApart}
use Rattle.planned_block.specs.Advance.{accesses_of_cycle, advance, wires}
use Rattle.plan_blocks.specs.View.{planned_view, plan_view}
use Rattle.verilog_meaning.specs.Readings.{Reading}
use Rattle.thread_promise.specs.Slots.{Places, ShowsInBlock}
use Rattle.thread_promise.specs.Globals.{bank_total, bank_of, IsAddress, place_now, bank_now, written_now, IsOpen}
use Rattle.thread_promise.specs.Promise.{RunsAt}
use Rattle.law_banks.specs.Memory.{Holds, AreSpread}

-- a bank is asked for an access of element j of its global: to read, or to write a number
pub record IsAskFor (a : Ask) (s : Spread) (j : ℕ) (writes : Bool) (number : ℕ) : Type 0 where
  pub asks : a.asks ≡ true
  pub operation : a.writes ≡ writes
  pub address : IsAddress s j a.address
  pub value : writes ≡ true → a.value ≡ number

-- the words after a grant
abbrev pub words_after : Words → (ℕ → Ask) → Option ℕ → Words
words_after s asks None = s
words_after s asks (Some i) = acted s i (asks i)

-- the accesses of who is granted
abbrev pub made_by : (ℕ → List (Access ℤ)) → Option ℕ → List (Access ℤ)
made_by made None = []
made_by made (Some i) = made i

-- each bank is of one global, and has a number below their count
pub record AreBanked (spreads : List Spread) (globals : List IntegerType) : Type 0 where
  pub spread : AreSpread spreads globals
  pub apart : AreApart (bank_of spreads)
  pub below : (x k : ℕ) (s : Spread) → slice_get spreads x ≡ Some s → k < s.count → s.first + k < bank_total spreads
  pub same_object : (x y k l : ℕ) (s t : Spread) → slice_get spreads x ≡ Some s → slice_get spreads y ≡ Some t → k < s.count → l < t.count → s.first + k ≡ t.first + l → x ≡ y

module _ (spreads : List Spread) (globals : List IntegerType) where
  -- an enabled thread in a state of a block: by bank what it asks and whether it is granted; the words kept for it before and after; and the
  -- accesses that it makes
  pub record Works (asks : ℕ → Ask) (granted : ℕ → Bool) (memory : Memory ℤ) (words next_words : ℕ → ℤ) (made : List (Access ℤ)) : Type 0 where
    pub code : ThreadCode
    pub plan : Planned
    pub slot : Slot
    pub block : Block
    pub times : BlockPlan
    pub runs : RunsAt globals spreads code plan slot.stage block times
    pub places : Places
    pub reading : Reading
    pub shown : ShowsInBlock globals code places block times reading slot
    -- it asks the bank of each access that is still to be granted, and no other one
    pub asked : (k x : ℕ) (writes : Bool) (s : Spread) (ty : IntegerType) → IsOpen spreads block times slot k x writes → slice_get spreads x ≡ Some s →
        slice_get globals x ≡ Some ty →
        IsAskFor (asks (bank_now spreads block times slot k x)) s (place_now spreads block times slot k x).index writes
        (residue_of (width_of ty) (written_now spreads block times slot k))
    pub unasked : (n : ℕ) → n < bank_total spreads →
        ((k x : ℕ) (writes : Bool) → IsOpen spreads block times slot k x writes → bank_now spreads block times slot k x ≡ n → ⊥) → (asks n).asks ≡ false
    -- by operation what its bank grants
    pub grant : ℕ → Bool
    pub heard : (k x : ℕ) (writes : Bool) → IsOpen spreads block times slot k x writes → grant k ≡ granted (bank_now spreads block times slot k x)
    pub before : (n : ℕ) → words n ≡ slot.words n
    pub after : (n : ℕ) → next_words n ≡ (advance (bank_of spreads) (planned_view block) (plan_view block times) slot memory grant).words n
    pub makes : made ≡ accesses_of_cycle (planned_view block) (plan_view block times) slot grant (wires (bank_of spreads) (planned_view block) (plan_view block times) slot)

  -- what a thread does with the banks: nothing, also where it is not enabled or in no block, or what its block says
  pub data Does (asks : ℕ → Ask) (granted : ℕ → Bool) (memory : Memory ℤ) (words next_words : ℕ → ℤ) (made : List (Access ℤ)) : Type 0 where
    Elsewhere : (silent : (n : ℕ) → n < bank_total spreads → (asks n).asks ≡ false) (same : (n : ℕ) → next_words n ≡ words n) (none : made ≡ []) →
        Does asks granted memory words next_words made
    InBlock : (works : Works asks granted memory words next_words made) → Does asks granted memory words next_words made

  -- one cycle of the banks of T threads: asks by bank and thread, who is granted each bank, and by thread the accesses made
  pub record CyclesBanks (T : ℕ) (asks : ℕ → ℕ → Ask) (winner : ℕ → Option ℕ) (held next_held : ℕ → Words) (memory : Memory ℤ) (words next_words : ℕ → ℕ → ℤ)
      (made : ℕ → List (Access ℤ)) : Type 0 where
    -- who is granted is one of them, and has asked
    pub within : (n i : ℕ) → winner n ≡ Some i → i < T
    pub winners : (n i : ℕ) → n < bank_total spreads → winner n ≡ Some i → (asks n i).asks ≡ true
    pub moves : (n : ℕ) → n < bank_total spreads → next_held n ≡ words_after (held n) (asks n) (winner n)
    pub does : (i : ℕ) → i < T → Does (λ n. asks n i) (λ n. is_granted (winner n) i) memory (words i) (next_words i) (made i)

-- a place has the accesses of who is granted its bank
abbrev pub memory_next : List Spread → (ℕ → List (Access ℤ)) → (ℕ → Option ℕ) → Memory ℤ → Memory ℤ
memory_next spreads made winner memory = λ l. memory_after (made_by made (winner (bank_of spreads l))) memory l

-- BANK CHANGES: a cycle keeps that the banks hold the memory, changed by the accesses of the granted threads, and the words of all threads
abbrev pub BankChanges : Type 0
BankChanges =
    (spreads : List Spread) (globals : List IntegerType) (T : ℕ) (asks : ℕ → ℕ → Ask) (winner : ℕ → Option ℕ) (held next_held : ℕ → Words) (memory : Memory ℤ)
    (words next_words : ℕ → ℕ → ℤ) (made : ℕ → List (Access ℤ)) →
    AreBanked spreads globals → CyclesBanks spreads globals T asks winner held next_held memory words next_words made →
    Holds spreads globals T held memory words → Holds spreads globals T next_held (memory_next spreads made winner memory) next_words
