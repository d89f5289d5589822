-- Lists of which each element is so.
use Rattle.std.proofs.Common.{sym, subst, List, [], ◌∷◌, ◌++◌}
use Rattle.std.specs.Prelude.{reverse}
use Rattle.std.specs.List.{AllByRecursion}
use Rattle.std.proofs.lemmas.List.{reverse-append}

module _ {A : Type 0} (Is : A → Type 0) where
  pub all_both : (xs ys : List A) → AllByRecursion Is xs → AllByRecursion Is ys → AllByRecursion Is (xs ++ ys)
  all_both [] ys h k = k
  all_both (x ∷ xs) ys h k = (h.0, all_both xs ys h.1 k)

  pub all_reverse : (xs : List A) → AllByRecursion Is xs → AllByRecursion Is (reverse xs)
  all_reverse [] all = tt
  all_reverse (x ∷ xs) all = subst (AllByRecursion Is) (sym (reverse-append (x ∷ []) xs)) (all_both (reverse xs) (x ∷ []) (all_reverse xs all.1) (all.0, tt))
