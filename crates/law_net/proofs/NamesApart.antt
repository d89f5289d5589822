-- What has a name of its own: functions, and globals.
use Rattle.std.proofs.Common.{◌≡◌, ℕ, zero, suc, List, [], ◌∷◌, map, Some, refl, sym, ap, ◌∙◌, subst}
use Rattle.std.specs.Prelude.{slice_get, nat_eq, false}
use Rattle.std.specs.List.{AllByRecursion, IsDistinct}
use Rattle.std.specs.Cmp.Lexicographic.{pointwise, other_text}
use Rattle.std.proofs.lemmas.Map.Keys.{IsDistinct-head, IsDistinct-tail}
use Rattle.std.proofs.lemmas.Option.{same_Some, none-some}
use Rattle.c_program.specs.Tree.{GlobalVariable, Program}
use Rattle.c_program.specs.Resolved.{IsResolved}

module _ {A : Type 0} (name : A → List ℕ) where
  name_at : (xs : List A) (y : ℕ) (h : A) (n : List ℕ) → AllByRecursion (λ z. pointwise nat_eq n z ≡ false) (map name xs) → slice_get xs y ≡ Some h →
      pointwise nat_eq n (name h) ≡ false
  name_at [] y h n all e = absurd (none-some h e)
  name_at (g ∷ xs) zero h n all e = subst (λ (z : A). pointwise nat_eq n (name z) ≡ false) (same_Some g h e) all.0
  name_at (g ∷ xs) (suc y) h n all e = name_at xs y h n all.1 e

  -- each has its name alone
  pub names_apart : (xs : List A) → IsDistinct (pointwise nat_eq) (map name xs) → (x y : ℕ) (g h : A) → slice_get xs x ≡ Some g → slice_get xs y ≡ Some h → name g ≡ name h → x ≡ y
  names_apart [] all x y g h a b q = absurd (none-some g a)
  names_apart (v ∷ xs) all zero zero g h a b q = refl
  names_apart (v ∷ xs) all zero (suc y) g h a b q =
      let other = name_at xs y h (name v) (IsDistinct-head (pointwise nat_eq) (name v) (map name xs) all) b in
      absurd (other_text (name v) (name h) (sym other) (ap name (same_Some v g a) ∙ q))
  names_apart (v ∷ xs) all (suc x) zero g h a b q =
      let other = name_at xs x g (name v) (IsDistinct-head (pointwise nat_eq) (name v) (map name xs) all) a in
      absurd (other_text (name v) (name g) (sym other) (ap name (same_Some v h b) ∙ sym q))
  names_apart (v ∷ xs) all (suc x) (suc y) g h a b q = ap suc (names_apart xs (IsDistinct-tail (pointwise nat_eq) (name v) (map name xs) all) x y g h a b q)

pub same_name : (P : Program) → IsResolved P → (x y : ℕ) (g h : GlobalVariable) → slice_get P.globals x ≡ Some g → slice_get P.globals y ≡ Some h → g.name ≡ h.name → x ≡ y
same_name P resolved x y g h e f q = names_apart (λ (z : GlobalVariable). z.name) P.globals resolved.global_names x y g h e f q
