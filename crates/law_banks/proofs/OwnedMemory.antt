-- The memory after a cycle is that of the accesses of all threads, and by place of the owner of its bank.
use Rattle.std.specs.Prelude.{Bool, true, false, Option, Some, None, ℤ}
use Rattle.std.proofs.Common.{◌≡◌, ◌≢◌, ℕ, zero, suc, ◌<◌, ◌≤◌, List, refl, sym, ap, ◌∙◌, subst, ⊎_elim, arith}
use Rattle.std.proofs.lemmas.Bool.{cases_eq}
use Rattle.hls_ints.specs.Types.{IntegerType}
use Rattle.interleaving.specs.Memory.{Location, Memory, Access, memory_after, Writes, Touches}
use Rattle.interleaving.proofs.Accesses.{memory_after-unwritten, memory_after-append, memory_after-agree}
use Rattle.bank_partition.specs.declared.banks.Spread.{Spread}
use Rattle.bank_cores.specs.Machine.{Words, Ask}
use Rattle.circuit.specs.Arbitration.{is_granted}
use Rattle.planned_block.specs.Block.{Kind, Simple, Multiply, Divide, BankRead, BankWrite, ArrayRead, ArrayWrite, operation_at, element}
use Rattle.planned_block.specs.Plan.{OfGlobal, target_of}
use Rattle.planned_block.specs.Run.{bank_access}
use Rattle.planned_block.specs.Slot.{operand_now}
use Rattle.planned_block.specs.Advance.{requests, wires}
use Rattle.planned_block.proofs.Bits.{both_true, is_same}
use Rattle.plan_blocks.specs.View.{planned_view, plan_view}
use Rattle.thread_promise.specs.Globals.{bank_of, bank_now, IsOpen}
use Rattle.law_banks.specs.Cycle.{AreBanked, Does, Elsewhere, InBlock, CyclesBanks, made_by, memory_next}
use Rattle.law_banks.specs.Laws.{all_made, owner_of, MemoryHasAll, PlacesAreOwned, AnsweredIsOwned}
use Rattle.law_banks.proofs.BlockBanks.{writes_granted}

pub granted_is : (o : Option ℕ) (i : ℕ) → is_granted o i ≡ true → o ≡ Some i
granted_is None i e = absurd cc
granted_is (Some w) i e = ap Some (is_same w i e)

does_write : (spreads : List Spread) (globals : List IntegerType) (banked : AreBanked spreads globals) (asks : ℕ → Ask) (granted : ℕ → Bool) (memory : Memory ℤ)
    (words next_words : ℕ → ℤ) (made : List (Access ℤ)) → Does spreads globals asks granted memory words next_words made → (l : Location) → Writes l made →
    granted (bank_of spreads l) ≡ true
does_write spreads globals banked asks granted memory words next_words made (Elsewhere silent same none) l w =
    absurd (subst (λ (es : List (Access ℤ)). Writes l es) none w)
does_write spreads globals banked asks granted memory words next_words made (InBlock t) l w =
    writes_granted spreads globals banked asks granted memory words next_words made t l w

module _ (spreads : List Spread) (globals : List IntegerType) (T : ℕ) (asks : ℕ → ℕ → Ask) (winner : ℕ → Option ℕ) (held next_held : ℕ → Words) (memory : Memory ℤ)
    (words next_words : ℕ → ℕ → ℤ) (made : ℕ → List (Access ℤ)) (banked : AreBanked spreads globals)
    (cycle : CyclesBanks spreads globals T asks winner held next_held memory words next_words made) (l : Location) where
  -- who writes a place has won its bank
  writer_won : (i : ℕ) → i < T → Writes l (made i) → winner (bank_of spreads l) ≡ Some i
  writer_won i lt w =
      granted_is (winner (bank_of spreads l)) i
      (does_write spreads globals banked (λ k. asks k i) (λ k. is_granted (winner k) i) memory (words i) (next_words i) (made i) (cycle.does i lt) l w)

  -- a thread that has not won it
  other_stays : (i : ℕ) → i < T → winner (bank_of spreads l) ≢ Some i → (m : Memory ℤ) → memory_after (made i) m l ≡ m l
  other_stays i lt ne m = memory_after-unwritten (made i) m l (λ w. absurd (ne (writer_won i lt w)))

  one_more : (n : ℕ) → memory_after (all_made made (suc n)) memory l ≡ memory_after (made n) (memory_after (all_made made n) memory) l
  one_more n = ap (λ (m : Memory ℤ). m l) (memory_after-append (all_made made n) (made n) memory)

  none_of : (n : ℕ) → n ≤ T → ((i : ℕ) → i < n → winner (bank_of spreads l) ≢ Some i) → memory_after (all_made made n) memory l ≡ memory l
  none_of zero le ne = refl
  none_of (suc n) le ne =
      one_more n ∙ other_stays n (omega arith) (ne n (omega arith)) (memory_after (all_made made n) memory) ∙ none_of n (omega arith) (λ i lt. ne i (omega arith))

  some_of : (w n : ℕ) → winner (bank_of spreads l) ≡ Some w → n ≤ T → w < n → memory_after (all_made made n) memory l ≡ memory_after (made w) memory l
  some_of w zero e le lt = absurd (omega arith)
  some_of w (suc n) e le lt =
      one_more n
      ∙ ⊎_elim
      (λ (same : w ≡ n).
      memory_after-agree (made n) (memory_after (all_made made n) memory) memory l
      (none_of n (omega arith) (λ i less z. let one : Some w ≡ Some i = sym e ∙ z in let at : w ≡ i = cc in omega (arith, at, less, same)))
      ∙ ap (λ i. memory_after (made i) memory l) (sym same))
      (λ (ne : w ≢ n).
      other_stays n (omega arith) (λ z. let one : Some w ≡ Some n = sym e ∙ z in let at : w ≡ n = cc in ne at) (memory_after (all_made made n) memory)
      ∙ some_of w n e (omega arith) (omega arith))
      (cases_eq w n)

  has_all : memory_after (all_made made T) memory l ≡ memory_next spreads made winner memory l
  has_all = by (winner (bank_of spreads l)) refl
    where
      by : (o : Option ℕ) → winner (bank_of spreads l) ≡ o → memory_after (all_made made T) memory l ≡ memory_next spreads made winner memory l
      by None e =
          none_of T (omega arith) (λ i lt z. let one : None ≡ Some i = sym e ∙ z in cc)
          ∙ sym (ap (λ (o : Option ℕ). memory_after (made_by made o) memory l) e)
      by (Some w) e =
          some_of w T e (omega arith) (cycle.within (bank_of spreads l) w e) ∙ sym (ap (λ (o : Option ℕ). memory_after (made_by made o) memory l) e)

pub memory_has_all : MemoryHasAll
memory_has_all spreads globals T asks winner held next_held memory words next_words made banked cycle l =
    has_all spreads globals T asks winner held next_held memory words next_words made banked cycle l

-- ---- owners

pub places_are_owned : PlacesAreOwned
places_are_owned spreads T winner memory made within = record {
  by = λ i l lt e. owned i l lt (winner (bank_of spreads l)) refl e;
  by_none = λ l le. unowned l (winner (bank_of spreads l)) refl le;
}
  where
    owned : (i : ℕ) (l : Location) → i < T → (o : Option ℕ) → winner (bank_of spreads l) ≡ o → owner_of T o ≡ i →
        memory_after (made_by made (winner (bank_of spreads l))) memory l ≡ memory_after (made i) memory l
    owned i l lt None q e = absurd (omega arith)
    owned i l lt (Some w) q e = ap (λ (o : Option ℕ). memory_after (made_by made o) memory l) q ∙ ap (λ z. memory_after (made z) memory l) e

    unowned : (l : Location) → (o : Option ℕ) → winner (bank_of spreads l) ≡ o → T ≤ owner_of T o →
        memory_after (made_by made (winner (bank_of spreads l))) memory l ≡ memory l
    unowned l None q le = ap (λ (o : Option ℕ). memory_after (made_by made o) memory l) q
    unowned l (Some w) q le = absurd (let lt = within (bank_of spreads l) w q in omega arith)

-- what a kind of operation touches
touches_is : (kind : Kind) (l r : ℤ) (q : Location) → Touches q (bank_access kind l r) → (x : ℕ) × (w : Bool) × (target_of kind ≡ OfGlobal x w) × (q ≡ element x l)
touches_is (Simple f) l r q t = absurd t
touches_is (Multiply f) l r q t = absurd t
touches_is (Divide f) l r q t = absurd t
touches_is (BankRead x) l r q t = (x, false, refl, ⊎_elim (λ (e : q ≡ element x l). e) (λ z. absurd z) t)
touches_is (BankWrite x) l r q t = (x, true, refl, ⊎_elim (λ (e : q ≡ element x l). e) (λ z. absurd z) t)
touches_is (ArrayRead x) l r q t = absurd t
touches_is (ArrayWrite x) l r q t = absurd t

pub answered_is_owned : AnsweredIsOwned
answered_is_owned spreads T i winner q b p grant heard k l lt e t =
    let wire = wires (bank_of spreads) (planned_view b) (plan_view b p) q in
    let is = touches_is (operation_at (planned_view b) k).kind (operand_now (planned_view b) (plan_view b p) q wire (operation_at (planned_view b) k).left)
    (operand_now (planned_view b) (plan_view b p) q wire (operation_at (planned_view b) k).right) l t in
    let a = both_true (requests (planned_view b) (plan_view b p) q k) (grant k) e in
    let o : IsOpen spreads b p q k is.0 is.1 = record { below = lt; requested = a.0; target = is.2 } in
    let won = granted_is (winner (bank_now spreads b p q k is.0)) i (sym (heard k is.0 is.1 o) ∙ a.1) in
    ap (λ z. owner_of T (winner (bank_of spreads z))) is.3 ∙ ap (owner_of T) won
