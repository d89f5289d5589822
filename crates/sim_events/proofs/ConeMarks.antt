-- The words that a cone marks: from the last step on, what each step reads is marked where the word that it gives is.
use Rattle.std.specs.Prelude.{◌≡◌, ℕ, zero, suc, ◌+◌, ◌-◌, ◌^◌, ◌<◌, ◌≤◌, ◌⊎◌, Bool, true, false, List, [], ◌∷◌, length, min, option_map, Option, Some, None, slice_get, slice_index_or, slice_set, refl}
use Rattle.std.proofs.Common.{ap, sym, ◌∙◌, subst, inl, inr, ⊎_elim, arith}
use Rattle.std.proofs.lemmas.List.{get_or-set_same, get_or-set_other}
use Rattle.std.proofs.lemmas.Option.{same_Some, none-some}
use Rattle.std.proofs.lemmas.Bool.{both_ways, cases_eq, cases_Bool}
use Rattle.std.proofs.Math.ListN.{length-set}
use Rattle.std.proofs.Math.Nat.{min-eq_left, min-eq_right}
use Rattle.netlist.specs.declared.netlist.Module.{Module}
use Rattle.verilog_meaning.specs.Threads.{IsOneOf}
use Rattle.sim_values.specs.declared.settle.Step.{Step}
use Rattle.sim_values.specs.Order.{reads, InOrder, IsMarked}
use Rattle.sim_values.proofs.Trees.{front_or_back}
use Rattle.sim_layout.specs.Ranks.{operand}
use Rattle.sim_layout.proofs.LeadSearch.{below_next}
use Rattle.sim_events.specs.Cones.{IsClosedAt}
use Rattle.sim_events.proofs.Flags.{marked_within}
use Rattle.sim_events.proofs.Marks.{keeps_set}
use Rattle.sim_events.proofs.Touched.{operand_is, earlier_apart}

-- ---- the words that a feed reads

pub listed_one : (words : List ℕ) (j y : ℕ) → slice_get words j ≡ Some y → IsOneOf y words
listed_one [] j y at = absurd (none-some y at)
listed_one (w ∷ words) zero y at = inl (sym (same_Some w y at))
listed_one (w ∷ words) (suc j) y at = inr (listed_one words j y at)

-- the word at an index, where it is not the last place
pub operand_one : (words : List ℕ) (index word : ℕ) → operand words index ≡ Some word → word + 1 < 2 ^ 64 → IsOneOf word words
operand_one words index word is small = by_item (slice_get words index) refl where
  by_item : (o : Option ℕ) → slice_get words index ≡ o → IsOneOf word words
  by_item None at = absurd (none-some word (sym (ap (option_map (λ (x : ℕ). min x (2 ^ 64 - 1))) at) ∙ is))
  by_item (Some y) at =
      let most : min y (2 ^ 64 - 1) ≡ word = same_Some (min y (2 ^ 64 - 1)) word (sym (ap (option_map (λ (x : ℕ). min x (2 ^ 64 - 1))) at) ∙ is) in
      ⊎_elim
      (λ (l : y < 2 ^ 64 - 1). subst (λ z. IsOneOf z words) (sym (min-eq_left (omega (arith, l))) ∙ most) (listed_one words index y at))
      (λ past.
      let d = past.1 in
      let top : min y (2 ^ 64 - 1) ≡ 2 ^ 64 - 1 = min-eq_right (omega (arith, d)) in
      absurd (omega (arith, top, most, small)))
      (front_or_back y (2 ^ 64 - 1))

pub record AreReadMarks (reading : List ℕ) (old now : List Bool) (index : ℕ) : Type 0 where
  pub long : length now ≡ length old
  pub reads : (j y : ℕ) → j < index → slice_get reading j ≡ Some y → y < length old → IsMarked now y
  pub keeps : (y : ℕ) → IsMarked old y → IsMarked now y
  pub only : (y : ℕ) → IsMarked now y → IsMarked old y ⊎ IsOneOf y reading

pub read_marks_none : (reading : List ℕ) (old : List Bool) → AreReadMarks reading old old 0
read_marks_none reading old = record { long = refl; reads = λ j y l at inside. absurd (omega (arith, l)); keeps = λ y is. is; only = λ y is. inl is }

pub read_marks_more : (reading : List ℕ) (old now : List Bool) (index word : ℕ) → length old < 2 ^ 64 → operand reading index ≡ Some word → AreReadMarks reading old now index
    → AreReadMarks reading old (slice_set now word true) (index + 1)
read_marks_more reading old now index word few is are = record {
  long = length-set now word true ∙ are.long;
  reads = λ j y l at inside. ⊎_elim
      (λ less. keeps_set now word y (are.reads j y less at inside))
      (λ (e : j ≡ index).
      let same : y ≡ word = operand_is reading index word y is (ap (slice_get reading) (sym e) ∙ at) (omega (arith, inside, few)) in
      let long = are.long in
      subst (IsMarked (slice_set now word true)) (sym same) (get_or-set_same now word true false (omega (arith, same, inside, long))))
      (below_next j index l);
  keeps = λ y was. keeps_set now word y (are.keeps y was);
  only = λ y marked. ⊎_elim
      (λ (e : y ≡ word).
      let within = marked_within (slice_set now word true) y marked in
      let set = length-set now word true in
      let long = are.long in
      inr (subst (λ z. IsOneOf z reading) (sym e) (operand_one reading index word is (omega (arith, within, set, long, few, e)))))
      (λ apart. are.only y (sym (get_or-set_other now word y true false apart) ∙ marked))
      (cases_eq y word);
}

-- ---- steps, from the last on

module _ (modules : List Module) (steps : List Step) where
  -- those from a number on are closed
  abbrev pub AreClosedFrom : List Bool → ℕ → Type 0
  AreClosedFrom marks from = (k : ℕ) (s : Step) → from ≤ k → slice_get steps k ≡ Some s → IsClosedAt modules marks s

  -- a step whose word is not marked
  pub closed_skip : (marks : List Bool) (i : ℕ) (t : Step) → slice_get steps i ≡ Some t → slice_index_or marks t.target false ≡ false → AreClosedFrom marks (i + 1) → AreClosedFrom marks i
  closed_skip marks i t here clear are k s l at = ⊎_elim
      (λ (less : k < i + 1).
      let e : i ≡ k = omega (arith, less, l) in
      let same : t ≡ s = same_Some t s (sym here ∙ ap (slice_get steps) e ∙ at) in
      λ is. absurd (both_ways (slice_index_or marks t.target false) clear (subst (λ (z : Step). IsMarked marks z.target) (sym same) is)))
      (λ past. let d = past.1 in are k s (omega (arith, d)) at)
      (front_or_back k (i + 1))

  -- one whose word is marked, when those that it reads are
  pub closed_more : (known : ℕ → Type 0) (marks new : List Bool) (i : ℕ) (t : Step) → InOrder modules known steps → slice_get steps i ≡ Some t → AreClosedFrom marks (i + 1)
      → length new ≡ length marks → ((y : ℕ) → IsOneOf y (reads modules t.feed) → y < length marks → IsMarked new y) → ((y : ℕ) → IsMarked marks y → IsMarked new y)
      → ((y : ℕ) → IsMarked new y → IsMarked marks y ⊎ IsOneOf y (reads modules t.feed)) → AreClosedFrom new i
  closed_more known marks new i t ordered here are long reading keeps only k s l at = ⊎_elim
      (λ (less : k < i + 1).
      let e : i ≡ k = omega (arith, less, l) in
      let same : t ≡ s = same_Some t s (sym here ∙ ap (slice_get steps) e ∙ at) in
      λ is y among inside. reading y (subst (λ (z : Step). IsOneOf y (reads modules z.feed)) (sym same) among) (subst (λ n. y < n) long inside))
      (λ past.
      let d = past.1 in
      λ is y among inside. ⊎_elim
      (λ was. keeps y (are k s (omega (arith, d)) at was y among (subst (λ n. y < n) long inside)))
      (λ read. absurd (earlier_apart modules known steps i k t s ordered here at (omega (arith, d)) (inr read)))
      (only s.target is))
      (front_or_back k (i + 1))

  pub closed_both : (known : ℕ → Type 0) (marks new : List Bool) (i : ℕ) (t : Step) → InOrder modules known steps → slice_get steps i ≡ Some t → AreClosedFrom marks (i + 1)
      → length new ≡ length marks → (IsMarked marks t.target → (y : ℕ) → IsOneOf y (reads modules t.feed) → y < length marks → IsMarked new y)
      → ((y : ℕ) → IsMarked marks y → IsMarked new y) → ((y : ℕ) → IsMarked new y → IsMarked marks y ⊎ IsOneOf y (reads modules t.feed))
      → (slice_index_or marks t.target false ≡ false → new ≡ marks) → AreClosedFrom new i
  closed_both known marks new i t ordered here are long closed keeps only stays = ⊎_elim
      (λ yes. closed_more known marks new i t ordered here are long (closed yes) keeps only)
      (λ no. subst (λ (m : List Bool). AreClosedFrom m i) (sym (stays no)) (closed_skip marks i t here no are))
      (cases_Bool (slice_index_or marks t.target false))
