-- Marks of the steps of a list, one after the other: none is lost, and those before a number stay.
use Rattle.std.specs.Prelude.{◌≡◌, ℕ, ◌+◌, ◌<◌, ◌≤◌, Bool, true, false, nat_le, if◌then◌else◌, List, length, Option, Some, None, slice_get, slice_index, slice_index_or, slice_set, refl}
use Rattle.std.proofs.Common.{ap, sym, ◌∙◌, subst, ⊎_elim, arith}
use Rattle.std.proofs.lemmas.List.{get_or-set_same, get_or-set_other, set_past}
use Rattle.std.proofs.lemmas.Option.{same_Some, none-some}
use Rattle.std.proofs.lemmas.Bool.{both_ways, cases_eq, leb-true, le-leb}
use Rattle.std.proofs.Math.ListN.{length-set}
use Rattle.sim_values.specs.Order.{IsMarked}
use Rattle.sim_values.proofs.Trees.{front_or_back}
use Rattle.sim_layout.proofs.LeadSearch.{below_next}
use Rattle.sim_events.specs.Events.{IsAmong, marked_from}

-- the marks after those of the steps that stand from one place of a list up to another
pub record AreMarking (list : List ℕ) (from first : ℕ) (old now : List Bool) (place : ℕ) : Type 0 where
  pub long : length now ≡ length old
  pub marked : (k j : ℕ) → first ≤ j → j < place → slice_get list j ≡ Some k → from ≤ k → k < length old → IsMarked now k
  pub keeps : (k : ℕ) → IsMarked old k → IsMarked now k
  pub before : (k : ℕ) → k < from → slice_index_or now k false ≡ slice_index_or old k false

pub marking_none : (list : List ℕ) (from first : ℕ) (old : List Bool) (place : ℕ) → place ≤ first → AreMarking list from first old old place
marking_none list from first old place e =
    record { long = refl; marked = λ k j l m at n inside. absurd (omega (arith, e, l, m)); keeps = λ k is. is; before = λ k l. refl }

pub keeps_set : (marks : List Bool) (n k : ℕ) → IsMarked marks k → IsMarked (slice_set marks n true) k
keeps_set marks n k is = ⊎_elim
    (λ (e : k ≡ n). ⊎_elim
    (λ (inside : n < length marks). ap (λ z. slice_index_or (slice_set marks n true) z false) e ∙ get_or-set_same marks n true false inside)
    (λ past. ap (λ (m : List Bool). slice_index_or m k false) (set_past marks n true (let z = past.1 in omega (arith, z))) ∙ is)
    (front_or_back n (length marks)))
    (λ apart. get_or-set_other marks n k true false apart ∙ is)
    (cases_eq k n)

module _ (list : List ℕ) (from first : ℕ) (old now : List Bool) (place : ℕ) (are : AreMarking list from first old now place) where
  -- no step is marked
  marking_stays : ((k : ℕ) → slice_get list place ≡ Some k → from ≤ k → ⊥) → AreMarking list from first old now (place + 1)
  marking_stays none = record {
    long = are.long;
    marked = λ k j l m at n inside. ⊎_elim
        (λ less. are.marked k j l less at n inside)
        (λ (e : j ≡ place). absurd (none k (ap (slice_get list) (sym e) ∙ at) n))
        (below_next j place m);
    keeps = are.keeps;
    before = are.before;
  }

  -- one is
  marking_sets : (number : ℕ) → slice_get list place ≡ Some number → from ≤ number → AreMarking list from first old (slice_set now number true) (place + 1)
  marking_sets number here behind = record {
    long = length-set now number true ∙ are.long;
    marked = λ k j l m at n inside. ⊎_elim
        (λ less. keeps_set now number k (are.marked k j l less at n inside))
        (λ (e : j ≡ place).
        let same : number ≡ k = same_Some number k (sym here ∙ ap (slice_get list) (sym e) ∙ at) in
        let long = are.long in
        subst (IsMarked (slice_set now number true)) same (get_or-set_same now number true false (omega (arith, same, long, inside))))
        (below_next j place m);
    keeps = λ k is. keeps_set now number k (are.keeps k is);
    before = λ k l. get_or-set_other now number k true false (λ e. omega (arith, e, l, behind)) ∙ are.before k l;
  }

  marking_by : (o : Option ℕ) → slice_get list place ≡ o → AreMarking list from first old (marked_from from now o) (place + 1)
  marking_by None here = marking_stays (λ k at n. none-some k (sym here ∙ at))
  marking_by (Some number) here = by_test (nat_le from number) refl where
    by_test : (b : Bool) → nat_le from number ≡ b → AreMarking list from first old (if b then slice_set now number true else now) (place + 1)
    by_test true e = marking_sets number here (leb-true from number e)
    by_test false e = marking_stays (λ k at n. let same : number ≡ k = same_Some number k (sym here ∙ at) in both_ways (nat_le from number) e (le-leb from number (omega (arith, same, n))))

  pub marking_more : (new : List Bool) → new ≡ marked_from from now (slice_get list place) → AreMarking list from first old new (place + 1)
  marking_more new is = subst (λ m. AreMarking list from first old m (place + 1)) (sym is) (marking_by (slice_get list place) refl)

-- the steps of a word are marked
pub marking_among : (list starts : List ℕ) (from y : ℕ) (old now : List Bool) (place : ℕ) → AreMarking list from (slice_index starts y) old now place → slice_index starts (y + 1) ≤ place
    → (k : ℕ) → from ≤ k → k < length old → IsAmong starts list y k → IsMarked now k
marking_among list starts from y old now place are all k behind inside among =
    let a = among.from in
    let b = among.to in
    are.marked k among.place a (omega (arith, b, all)) among.listed behind inside
