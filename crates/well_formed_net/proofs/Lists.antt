-- Lists: places of names, facts that hold of each of a list by what stands before it.
use Rattle.std.proofs.Common.{◌≡◌, ℕ, zero, suc, ◌+◌, ◌<◌, List, [], ◌∷◌, Bool, true, false, cond, Option, Some, None, refl, sym, ap, ◌∙◌, subst, inl, inr, take, arith}
use Rattle.std.specs.Prelude.{not, slice_get}
use Rattle.std.specs.Str.{bytes_eq}
use Rattle.std.proofs.lemmas.Option.{same_Some, none-some}
use Rattle.std.proofs.lemmas.Slice.Eq.{bytes_eq-Decides}
use Rattle.verilog_tree.specs.Facts.{after}
use Rattle.verilog_tree.specs.WellFormed.{EachAfter}
use Rattle.netlist.specs.NetlistOf.{Name, place, some}
use Rattle.netlist_text.proofs.Members.{In, in_none, in_one, in_cons}

-- ---- places of names

place_by : (n : Name) (names : List Name) (x : Name) (b : Bool) → bytes_eq x n ≡ b → (b ≡ false → slice_get names (place names x) ≡ Some x)
    → slice_get (n ∷ names) (cond (not b) (1 + place names x) 0) ≡ Some x
place_by n names x true e next = ap Some (sym ((bytes_eq-Decides x n).0 e))
place_by n names x false e next =
    let same : 1 + place names x ≡ suc (place names x) = omega arith in
    ap (slice_get (n ∷ names)) same ∙ next refl

-- a name stands at its place
pub place_found : (names : List Name) (x : Name) → In names x → slice_get names (place names x) ≡ Some x
place_found [] x h = absurd (in_none x h)
place_found (n ∷ names) x h = place_by n names x (bytes_eq x n) refl (λ e. place_found names x (elim (in_cons n x names h) [
  | inl same ↦ absurd (let t : true ≡ false = sym (ap (bytes_eq x) same ∙ (bytes_eq-Decides x x).1 refl) ∙ e in cc)
  | inr p ↦ p
]))

pub some_in : {A : Type 0} (o : Option A) (a : A) → In (some o) a → o ≡ Some a
some_in None a h = absurd (in_none a h)
some_in (Some b) a h = ap Some (in_one b a h)

-- ---- taken from the front

pub taken : {A : Type 0} (xs : List A) (k i : ℕ) (x : A) → slice_get (take k xs) i ≡ Some x → (slice_get xs i ≡ Some x) × (i < k)
taken [] zero i x e = absurd (none-some x e)
taken [] (suc k) i x e = absurd (none-some x e)
taken (y ∷ xs) zero i x e = absurd (none-some x e)
taken (y ∷ xs) (suc k) zero x e = (e, omega arith)
taken (y ∷ xs) (suc k) (suc i) x e = let t = taken xs k i x e in let l : i < k = t.1 in (t.0, omega arith)

-- ---- what holds after what stands before

pub each_at : {S A : Type 0} (P : S → A → Type 0) (step : S → A → S) (s : S) (xs : List A) (k : ℕ) (x : A) → EachAfter P step s xs → slice_get xs k ≡ Some x →
    P (after step s (take k xs)) x
each_at P step s [] k x each e = absurd (none-some x e)
each_at {A = A} P step s (y ∷ xs) zero x each e = subst (λ (t : A). P s t) (same_Some y x e) each.0
each_at P step s (y ∷ xs) (suc k) x each e = each_at P step (step s y) xs k x each.1 e

pub each_take : {S A : Type 0} (P : S → A → Type 0) (step : S → A → S) (s : S) (xs : List A) (k : ℕ) → EachAfter P step s xs → EachAfter P step s (take k xs)
each_take P step s [] zero each = tt
each_take P step s [] (suc k) each = tt
each_take P step s (y ∷ xs) zero each = tt
each_take P step s (y ∷ xs) (suc k) each = (each.0, each_take P step (step s y) xs k each.1)

-- ---- tests
