-- Locations are the same or not, and a memory with one value changed.
use Rattle.std.proofs.Common.{◌≡◌, ◌≢◌, refl, ap, subst, sym, ⊎_elim, inl, inr}
use Rattle.std.specs.Prelude.{◌==◌, ◌&&◌, Bool, true, false, if◌then◌else◌, ◌⊎◌}
use Rattle.std.proofs.lemmas.Bool.Decides.{eqb_tells}
use Rattle.std.proofs.lemmas.Bool.{and_from}
use Rattle.interleaving.specs.Memory.{Location, same_location, Memory, with_value}

location_of : (p q : Location) → p.object ≡ q.object → p.index ≡ q.index → p ≡ q
location_of p q object index = λ i. record { object = object i; index = index i }

one_false : (a b : Bool) → (a ≡ false) ⊎ (b ≡ false) → (a && b) ≡ false
one_false true b (inl e) = absurd cc
one_false true b (inr e) = e
one_false false b e = refl

-- the test tells
pub same_tells : (p q : Location) → ((same_location p q ≡ true) × (p ≡ q)) ⊎ ((same_location p q ≡ false) × (p ≢ q))
same_tells p q =
    ⊎_elim
    (λ o. ⊎_elim
    (λ i. inl (and_from (p.object == q.object) (p.index == q.index) o.0 i.0, location_of p q o.1 i.1))
    (λ i. inr (one_false (p.object == q.object) (p.index == q.index) (inr i.0), λ e. i.1 (ap (λ (l : Location). l.index) e)))
    (eqb_tells p.index q.index))
    (λ o. inr (one_false (p.object == q.object) (p.index == q.index) (inl o.0), λ e. o.1 (ap (λ (l : Location). l.object) e)))
    (eqb_tells p.object q.object)

pub same_or_other : (p q : Location) → (p ≡ q) ⊎ (p ≢ q)
same_or_other p q = ⊎_elim (λ t. inl t.1) (λ t. inr t.1) (same_tells p q)

module _ {Value : Type 0} where
  pub with_value-same : (m : Memory Value) (p : Location) (v : Value) → with_value m p v p ≡ v
  with_value-same m p v =
      ⊎_elim
      (λ t. subst (λ (b : Bool). (if b then v else m p) ≡ v) (sym t.0) refl)
      (λ t. absurd (t.1 refl))
      (same_tells p p)

  pub with_value-other : (m : Memory Value) (p q : Location) (v : Value) → q ≢ p → with_value m p v q ≡ m q
  with_value-other m p q v other =
      ⊎_elim
      (λ t. absurd (other t.1))
      (λ t. subst (λ (b : Bool). (if b then v else m q) ≡ m q) (sym t.0) refl)
      (same_tells q p)
