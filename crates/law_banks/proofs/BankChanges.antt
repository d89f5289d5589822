-- What a cycle of all threads does to each bank.
use Rattle.std.specs.Prelude.{Bool, true, false, if◌then◌else◌, Option, Some, None, slice_get, ℤ}
use Rattle.std.proofs.Common.{◌≡◌, ◌≢◌, ℕ, ◌+◌, ◌%◌, ◌<◌, List, refl, sym, ap, ◌∙◌, ⊎_elim}
use Rattle.std.proofs.lemmas.Bool.{cases_eq}
use Rattle.hls_ints.specs.Types.{IntegerType}
use Rattle.interleaving.specs.Memory.{Memory, Access, memory_after, Writes as Wrote}
use Rattle.interleaving.proofs.Accesses.{memory_after-unwritten}
use Rattle.bank_partition.specs.declared.banks.Spread.{Spread}
use Rattle.bank_cores.specs.Machine.{Words, Ask, written, read}
use Rattle.circuit.specs.Arbitration.{is_granted}
use Rattle.planned_block.proofs.Bits.{same_is, other_is}
use Rattle.thread_promise.specs.Globals.{bank_of}
use Rattle.law_banks.specs.Memory.{place_at, Change, Quiet, Reads, Writes, KeepsWords}
use Rattle.law_banks.specs.Cycle.{AreBanked, Does, Elsewhere, InBlock, CyclesBanks, words_after, made_by, memory_next, BankChanges}
use Rattle.law_banks.proofs.HeldMemory.{holds_after}
use Rattle.law_banks.proofs.BlockBanks.{bank_there, AtBank, ReadsThere, WritesThere, unread_there, granted_there}

-- a thread that is not granted a bank keeps its word
word_kept : (spreads : List Spread) (globals : List IntegerType) (banked : AreBanked spreads globals) (asks : ℕ → Ask) (granted : ℕ → Bool) (memory : Memory ℤ)
    (words next_words : ℕ → ℤ) (made : List (Access ℤ)) → Does spreads globals asks granted memory words next_words made → (n : ℕ) → granted n ≡ false → next_words n ≡ words n
word_kept spreads globals banked asks granted memory words next_words made (Elsewhere silent same none) n off = same n
word_kept spreads globals banked asks granted memory words next_words made (InBlock t) n off =
    unread_there spreads globals banked asks granted memory words next_words made t n off

-- one that asks it and is granted makes one access
access_there : (spreads : List Spread) (globals : List IntegerType) (banked : AreBanked spreads globals) (asks : ℕ → Ask) (granted : ℕ → Bool) (memory : Memory ℤ)
    (words next_words : ℕ → ℤ) (made : List (Access ℤ)) → Does spreads globals asks granted memory words next_words made → (x k : ℕ) (s : Spread) (ty : IntegerType) →
    slice_get spreads x ≡ Some s → slice_get globals x ≡ Some ty → k < s.count → (asks (s.first + k)).asks ≡ true → granted (s.first + k) ≡ true →
    AtBank asks memory words next_words made x k s ty
access_there spreads globals banked asks granted memory words next_words made (Elsewhere silent same none) x k s ty e u l on g =
    absurd (let off = silent (s.first + k) (banked.below x k s e l) in let f : false ≡ true = cc in cc)
access_there spreads globals banked asks granted memory words next_words made (InBlock t) x k s ty e u l on g =
    granted_there spreads globals banked asks granted memory words next_words made t x k s ty e u l on g

module _ (spreads : List Spread) (globals : List IntegerType) (T : ℕ) (asks : ℕ → ℕ → Ask) (winner : ℕ → Option ℕ) (held next_held : ℕ → Words) (memory : Memory ℤ)
    (words next_words : ℕ → ℕ → ℤ) (made : ℕ → List (Access ℤ)) (banked : AreBanked spreads globals)
    (cycle : CyclesBanks spreads globals T asks winner held next_held memory words next_words made) where
  abbrev after : Memory ℤ
  after = memory_next spreads made winner memory

  abbrev Changes : ℕ → ℕ → Spread → IntegerType → Type 0
  Changes = Change spreads globals T held next_held memory after words next_words

  -- who does not win a bank keeps its word
  kept_word : (n m : ℕ) → m < T → is_granted (winner n) m ≡ false → next_words m n ≡ words m n
  kept_word n m lt off =
      word_kept spreads globals banked (λ k. asks k m) (λ k. is_granted (winner k) m) memory (words m) (next_words m) (made m) (cycle.does m lt) n off

  module _ (x k : ℕ) (s : Spread) (ty : IntegerType) (e : slice_get spreads x ≡ Some s) (u : slice_get globals x ≡ Some ty) (l : k < s.count) where
    abbrev bank : ℕ
    bank = s.first + k

    moved : (o : Option ℕ) → winner bank ≡ o → next_held bank ≡ words_after (held bank) (asks bank) o
    moved o w = cycle.moves bank (banked.below x k s e l) ∙ ap (words_after (held bank) (asks bank)) w

    -- a place of this bank
    place_after : (o : Option ℕ) → winner bank ≡ o → (j : ℕ) → j % s.count ≡ k → after (place_at x j) ≡ memory_after (made_by made o) memory (place_at x j)
    place_after o w j own =
        let at : bank_of spreads (place_at x j) ≡ bank = bank_there spreads x j s e ∙ ap (λ i. s.first + i) own in
        ap (λ (z : Option ℕ). memory_after (made_by made z) memory (place_at x j)) (ap winner at ∙ w)

    nobody : winner bank ≡ None → Changes x k s ty
    nobody w =
        Quiet (moved None w) (λ j own. place_after None w j own) (λ m lt. kept_word bank m lt (ap (λ (o : Option ℕ). is_granted o m) w))

    module _ (i : ℕ) (w : winner bank ≡ Some i) where
      within : i < T
      within = cycle.within bank i w

      -- another thread
      others_keep : (m : ℕ) → m < T → m ≢ i → next_words m bank ≡ words m bank
      others_keep m lt ne = kept_word bank m lt (ap (λ (o : Option ℕ). is_granted o m) w ∙ other_is i m (λ z. ne (sym z)))

      still : (j : ℕ) → j % s.count ≡ k → (Wrote (place_at x j) (made i) → ⊥) → after (place_at x j) ≡ memory (place_at x j)
      still j own silent = place_after (Some i) w j own ∙ memory_after-unwritten (made i) memory (place_at x j) silent

      act : (c : Bool) → (asks bank i).writes ≡ c →
          next_held bank ≡ (if c then written (held bank) (asks bank i).address (asks bank i).value else read (held bank) i (asks bank i).address)
      act c q =
          moved (Some i) w
          ∙ ap (λ (d : Bool). if d then written (held bank) (asks bank i).address (asks bank i).value else read (held bank) i (asks bank i).address) q

      from_access : AtBank (λ n. asks n i) memory (words i) (next_words i) (made i) x k s ty → Changes x k s ty
      from_access (ReadsThere j writes address own place silent word) =
          Reads i j (asks bank i).address within (act false writes) address own place (λ n at. still n at (silent n at)) word others_keep
      from_access (WritesThere j v writes address number own place right here others word) =
          Writes j (asks bank i).address v (act true writes ∙ ap (written (held bank) (asks bank i).address) number) address own place right
          (place_after (Some i) w j own ∙ here) (λ n at ne. still n at (others n at ne)) keeps
        where
          keeps : KeepsWords spreads globals T held next_held memory after words next_words bank
          keeps m lt = ⊎_elim (λ (same : m ≡ i). ap (λ z. next_words z bank) same ∙ word ∙ ap (λ z. words z bank) (sym same)) (others_keep m lt) (cases_eq m i)

      granted_one : Changes x k s ty
      granted_one =
          from_access
          (access_there spreads globals banked (λ n. asks n i) (λ n. is_granted (winner n) i) memory (words i) (next_words i) (made i) (cycle.does i within) x k s ty e u l
          (cycle.winners bank i (banked.below x k s e l) w) (ap (λ (o : Option ℕ). is_granted o i) w ∙ same_is i i refl))

    change : Changes x k s ty
    change = by (winner bank) refl
      where
        by : (o : Option ℕ) → winner bank ≡ o → Changes x k s ty
        by None w = nobody w
        by (Some i) w = granted_one i w

pub bank_changes : BankChanges
bank_changes spreads globals T asks winner held next_held memory words next_words made banked cycle h =
    holds_after spreads globals T held next_held memory (memory_next spreads made winner memory) words next_words banked.spread h
    (λ x k s ty e u l. change spreads globals T asks winner held next_held memory words next_words made banked cycle x k s ty e u l)
