-- The keys of a set, before and after one goes in or out.
use Rattle.std.proofs.Common.{◌≡◌, ℕ, suc, zero, ◌<◌, List, ◌∷◌, length, get_or, Bool, true, false, cond, refl, ap, sym, ◌∙◌, ◌⊎◌, inl, inr, arith}
use Rattle.std.specs.List.{Contains}
use Rattle.std.specs.Ordering.{nat_cmp, ordering_then}
use Rattle.std.specs.Cmp.{IsTotalOrder}
use Rattle.std.specs.BTreeSet.{BTreeSet, contains, insert_key, Updates}
use Rattle.std.specs.BTreeMap.{is_at}
use Rattle.std.specs.declared.cmp.Ordering.{Ordering}
use Rattle.std.proofs.lemmas.Cmp.{then_total, on_total, nat_cmp_total}
use Rattle.std.proofs.lemmas.List.Elements.{All-contains, All-contains_itself}
use Rattle.std.proofs.lemmas.Map.Lookups.{CmpEqualImpliesEq, exact_unsigned, exact_pairs}
use Rattle.std.proofs.lemmas.Map.Views.{All-insert_key, btree_set_contains_iff}

abbrev pub pair_cmp : ℕ × ℕ → ℕ × ℕ → Ordering
pair_cmp x y = ordering_then (nat_cmp x.0 y.0) (nat_cmp x.1 y.1)

pub pair_total : IsTotalOrder pair_cmp
pair_total = then_total (on_total (λ (p : ℕ × ℕ). p.0) nat_cmp_total) (on_total (λ (p : ℕ × ℕ). p.1) nat_cmp_total)

pub pair_exact : CmpEqualImpliesEq pair_cmp
pair_exact = exact_pairs nat_cmp nat_cmp exact_unsigned exact_unsigned

either_true : (b : Bool) → cond b true true ≡ true
either_true true = refl
either_true false = refl

module _ {K : Type 0} where
  pub cons_head : (k : K) (ks : List K) → Contains (k ∷ ks) k
  cons_head k ks = (0, omega arith, refl)

  cases_at : (k x : K) (ks : List K) (i : ℕ) → i < length (k ∷ ks) → get_or (k ∷ ks) i x ≡ x → (x ≡ k) ⊎ Contains ks x
  cases_at k x ks zero l e = inl (sym e)
  cases_at k x ks (suc i) l e = inr (i, omega arith, e)

  pub cons_cases : (k x : K) (ks : List K) → Contains (k ∷ ks) x → (x ≡ k) ⊎ Contains ks x
  cons_cases k x ks h = cases_at k x ks h.0 h.1 h.2

  pub insert_cases : (cmp : K → K → Ordering) (ks new : List K) (k x : K) → new ≡ insert_key cmp ks k → Contains new x → (x ≡ k) ⊎ Contains ks x
  insert_cases cmp ks new k x e h =
      let h' : Contains (insert_key cmp ks k) x = rw e at h in
      let P : K → Type 0 = λ y. (y ≡ k) ⊎ Contains ks y in
      All-contains P (insert_key cmp ks k) x (All-insert_key cmp k P ks (λ i d l. inr (All-contains_itself ks i d l)) (inl refl)) h'

  module _ (cmp : K → K → Ordering) (total : IsTotalOrder cmp) (exact : CmpEqualImpliesEq cmp) (old new : BTreeSet K) (k : K) (updates : Updates cmp old new k true) where
    pub insert_head : Contains new.keys k
    insert_head = (btree_set_contains_iff total exact new k).0 updates.1

    pub insert_more : (x : K) → Contains old.keys x → Contains new.keys x
    insert_more x h =
        let was : contains cmp old x ≡ true = (btree_set_contains_iff total exact old x).1 h in
        let is : contains cmp new x ≡ true = updates.0 x ∙ (ap (λ (b : Bool). cond (is_at (cmp k) x) true b) was ∙ either_true (is_at (cmp k) x)) in
        (btree_set_contains_iff total exact new x).0 is
