-- Marks of steps, and of the blocks of 16 that they stand in.
use Rattle.std.specs.Prelude.{◌≡◌, ℕ, ◌+◌, ◌*◌, ◌/◌, ◌<◌, ◌≤◌, ◌⊎◌, Bool, true, false, List, length, replicate, slice_index_or, slice_set, refl}
use Rattle.std.proofs.Common.{ap, sym, ◌∙◌, subst, inl, inr, ⊎_elim, arith}
use Rattle.std.proofs.lemmas.List.{get_or-set_same, get_or-set_other, get_or_past, get_or-replicate, length-replicate}
use Rattle.std.proofs.lemmas.Bool.{both_ways, cases_eq, cases_Bool}
use Rattle.std.proofs.lemmas.Nat.{div_below, le-div}
use Rattle.std.proofs.Math.Nat.{div-mul-le_self}
use Rattle.std.proofs.Math.ListN.{length-set}
use Rattle.sim_values.specs.Order.{IsMarked}
use Rattle.sim_values.proofs.Trees.{front_or_back}
use Rattle.sim_events.specs.Events.{AreFlagged}
use Rattle.sim_events.proofs.Marks.{keeps_set}

-- ---- blocks

le_both : (a b : ℕ) → a ≤ b → b ≤ a → a ≡ b
le_both a b l m = omega (arith, l, m)

pub in_block : (k b : ℕ) → b * 16 ≤ k → k < b * 16 + 16 → k / 16 ≡ b
in_block k b from to =
    let below : k / 16 < b + 1 = div_below k 16 (b + 1) (omega arith) (omega (arith, to)) in
    le_both (k / 16) b (omega (arith, below)) (le-div b k 16 (omega arith) from)

pub block_end : (k : ℕ) → k < k / 16 * 16 + 16
block_end k = ⊎_elim
    (λ (l : k < k / 16 * 16 + 16). l)
    (λ past.
    let d = past.1 in
    let more : k / 16 + 1 ≤ k / 16 = le-div (k / 16 + 1) k 16 (omega arith) (omega (arith, d)) in
    absurd (omega (arith, more)))
    (front_or_back k (k / 16 * 16 + 16))

pub block_before : (k n : ℕ) → k < n → k / 16 < n / 16 + 1
block_before k n l =
    let e = block_end n in
    div_below k 16 (n / 16 + 1) (omega arith) (omega (arith, e, l))

pub marked_within : (marks : List Bool) (k : ℕ) → IsMarked marks k → k < length marks
marked_within marks k is = ⊎_elim
    (λ (inside : k < length marks). inside)
    (λ past. let d = past.1 in absurd (both_ways (slice_index_or marks k false) (get_or_past marks k false (omega (arith, d))) is))
    (front_or_back k (length marks))

clear_of : (b : Bool) → (b ≡ true → ⊥) → b ≡ false
clear_of true n = absurd (n refl)
clear_of false n = refl

module _ (marks blocks : List Bool) (are : AreFlagged marks blocks) where
  -- a step is marked with its block
  pub flagged_both : (n : ℕ) → AreFlagged (slice_set marks n true) (slice_set blocks (n / 16) true)
  flagged_both n = record {
    room = λ k l. subst (λ z. k / 16 < z) (sym (length-set blocks (n / 16) true)) (are.room k (subst (λ z. k < z) (length-set marks n true) l));
    flagged = λ k is. ⊎_elim
        (λ (e : k ≡ n).
        let inside : n < length marks = subst (λ z. z < length marks) e (subst (λ z. k < z) (length-set marks n true) (marked_within (slice_set marks n true) k is)) in
        ap (λ z. slice_index_or (slice_set blocks (n / 16) true) (z / 16) false) e ∙ get_or-set_same blocks (n / 16) true false (are.room n inside))
        (λ apart. keeps_set blocks (n / 16) (k / 16) (are.flagged k (sym (get_or-set_other marks n k true false apart) ∙ is)))
        (cases_eq k n);
  }

  -- a marked step gets another mark
  pub flagged_step : (n : ℕ) (b : Bool) → IsMarked marks n → AreFlagged (slice_set marks n b) blocks
  flagged_step n b was = record {
    room = λ k l. are.room k (subst (λ z. k < z) (length-set marks n b) l);
    flagged = λ k is. ⊎_elim
        (λ (e : k ≡ n). ap (λ z. slice_index_or blocks (z / 16) false) e ∙ are.flagged n was)
        (λ apart. are.flagged k (sym (get_or-set_other marks n k b false apart) ∙ is))
        (cases_eq k n);
  }

  -- a block gets the mark that its steps give it
  pub flagged_block : (b : ℕ) (left : Bool) → (left ≡ false → (k : ℕ) → b * 16 ≤ k → k < b * 16 + 16 → slice_index_or marks k false ≡ false) → AreFlagged marks (slice_set blocks b left)
  flagged_block b left clear = record {
    room = λ k l. subst (λ z. k / 16 < z) (sym (length-set blocks b left)) (are.room k l);
    flagged = λ k is. ⊎_elim
        (λ (e : k / 16 ≡ b). own k is e (cases_Bool left))
        (λ apart. get_or-set_other blocks b (k / 16) left false apart ∙ are.flagged k is)
        (cases_eq (k / 16) b);
  } where
    own : (k : ℕ) → IsMarked marks k → k / 16 ≡ b → ((left ≡ true) ⊎ (left ≡ false)) → IsMarked (slice_set blocks b left) (k / 16)
    own k is e (inl stays) = subst (λ z. IsMarked (slice_set blocks b z) (k / 16)) (sym stays) (keeps_set blocks b (k / 16) (are.flagged k is))
    own k is e (inr gone) =
        let end = block_end k in
        let first = div-mul-le_self k 16 in
        absurd (both_ways (slice_index_or marks k false) (clear gone k (subst (λ z. z * 16 ≤ k) e first) (subst (λ z. k < z * 16 + 16) e end)) is)

  -- no step of a block that is not marked is
  pub block_clear : (b : ℕ) → slice_index_or blocks b false ≡ false → (k : ℕ) → b * 16 ≤ k → k < b * 16 + 16 → slice_index_or marks k false ≡ false
  block_clear b none k from to = clear_of (slice_index_or marks k false)
      (λ is. both_ways (slice_index_or blocks b false) none (subst (λ z. IsMarked blocks z) (in_block k b from to) (are.flagged k is)))

pub flagged_all : (n : ℕ) (marks blocks : List Bool) → marks ≡ replicate n true → blocks ≡ replicate (n / 16 + 1) true → AreFlagged marks blocks
flagged_all n marks blocks are all = record {
  room = λ k l.
      let inside : k < n = subst (λ z. k < z) (ap length are ∙ length-replicate n true) l in
      subst (λ z. k / 16 < z) (sym (ap length all ∙ length-replicate (n / 16 + 1) true)) (block_before k n inside);
  flagged = λ k is.
      let inside : k < n = subst (λ z. k < z) (ap length are ∙ length-replicate n true) (marked_within marks k is) in
      ap (λ (m : List Bool). slice_index_or m (k / 16) false) all ∙ get_or-replicate (n / 16 + 1) (k / 16) true false (block_before k n inside);
}
