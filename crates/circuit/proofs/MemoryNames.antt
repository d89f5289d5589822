-- The names of a module with memories are apart, where its signals' are and no memory has the name of a signal.
use Rattle.std.proofs.Common.{◌≡◌, ℕ, zero, suc, List, [], ◌∷◌, ◌++◌, length, map, slice_get, Some, refl, sym, ap, ◌∙◌, subst}
use Rattle.std.proofs.lemmas.List.{append-nil}
use Rattle.std.proofs.lemmas.Option.{same_Some, none-some}
use Rattle.netlist.specs.declared.netlist.Signal.{Signal}
use Rattle.netlist.specs.declared.netlist.Memory.{Memory}
use Rattle.netlist.specs.declared.netlist.Instance.{Instance}
use Rattle.netlist.specs.declared.netlist.Module.{Module}
use Rattle.netlist.specs.Laid.{AreApart, signal_names, memory_names, instance_names, declared_names}

-- ---- one name more

-- a name of signals is that of one of them
pub among_names : (xs : List Signal) (i : ℕ) (x : List ℕ) → slice_get (map (λ (s : Signal). s.name) xs) i ≡ Some x → (s : Signal) × (slice_get xs i ≡ Some s) × (x ≡ s.name)
among_names [] i x h = absurd (none-some x h)
among_names (s ∷ xs) zero x h = (s, refl, sym (same_Some s.name x h))
among_names (s ∷ xs) (suc i) x h = among_names xs i x h

-- it is the added one, or it stands among the others
data IsIn (xs : List (List ℕ)) (y : List ℕ) (i : ℕ) (x : List ℕ) : Type 0 where
  Among : (there : slice_get xs i ≡ Some x) → IsIn xs y i x
  Added : (place : i ≡ length xs) (same : x ≡ y) → IsIn xs y i x

suc_in : (z : List ℕ) (xs : List (List ℕ)) (y : List ℕ) (i : ℕ) (x : List ℕ) → IsIn xs y i x → IsIn (z ∷ xs) y (suc i) x
suc_in z xs y i x (Among t) = Among t
suc_in z xs y i x (Added p s) = Added (ap suc p) s

which : (xs : List (List ℕ)) (y : List ℕ) (i : ℕ) (x : List ℕ) → slice_get (xs ++ y ∷ []) i ≡ Some x → IsIn xs y i x
which [] y zero x e = Added refl (sym (same_Some y x e))
which [] y (suc i) x e = absurd (none-some x e)
which (z ∷ xs) y zero x e = Among e
which (z ∷ xs) y (suc i) x e = suc_in z xs y i x (which xs y i x e)

abbrev pub IsUnlike : List (List ℕ) → List ℕ → Type 0
IsUnlike xs y = (i : ℕ) (x : List ℕ) → slice_get xs i ≡ Some x → x ≡ y → ⊥

module _ (xs : List (List ℕ)) (y : List ℕ) where
  both_in : AreApart xs → IsUnlike xs y → (i j : ℕ) (x : List ℕ) → IsIn xs y i x → IsIn xs y j x → i ≡ j
  both_in apart other i j x (Among a) (Among b) = apart i j x a b
  both_in apart other i j x (Among a) (Added p s) = absurd (other i x a s)
  both_in apart other i j x (Added p s) (Among b) = absurd (other j x b s)
  both_in apart other i j x (Added p s) (Added q t) = p ∙ sym q

  one_more : AreApart xs → IsUnlike xs y → AreApart (xs ++ y ∷ [])
  one_more apart other i j x a b = both_in apart other i j x (which xs y i x a) (which xs y j x b)

  unlike_in : (z : List ℕ) → IsUnlike xs z → (y ≡ z → ⊥) → (i : ℕ) (x : List ℕ) → IsIn xs y i x → x ≡ z → ⊥
  unlike_in z h n i x (Among t) q = h i x t q
  unlike_in z h n i x (Added p s) q = n (sym s ∙ q)

  unlike_more : (z : List ℕ) → IsUnlike xs z → (y ≡ z → ⊥) → IsUnlike (xs ++ y ∷ []) z
  unlike_more z h n i x e q = unlike_in z h n i x (which xs y i x e) q

-- ---- one memory, or two

module _ (m : Module) (instances : m.instances ≡ []) where
  named : (names : List (List ℕ)) → memory_names m ≡ names → declared_names m ≡ signal_names m ++ names
  named names a =
      let b : instance_names m ≡ [] = ap (map (λ (n : Instance). n.name)) instances in
      ap (λ (l : List (List ℕ)). signal_names m ++ l ++ instance_names m) a ∙ ap (λ (l : List (List ℕ)). signal_names m ++ names ++ l) b
      ∙ append-nil (signal_names m ++ names)

  pub one_memory : (c : Memory) → m.memories ≡ c ∷ [] → AreApart (signal_names m) → IsUnlike (signal_names m) c.name → AreApart (declared_names m)
  one_memory c is apart other =
      subst AreApart (sym (named (c.name ∷ []) (ap (map (λ (x : Memory). x.name)) is))) (one_more (signal_names m) c.name apart other)

  two_more : (xs : List (List ℕ)) (y z : List ℕ) → (xs ++ y ∷ []) ++ z ∷ [] ≡ xs ++ y ∷ z ∷ []
  two_more [] y z = refl
  two_more (x ∷ xs) y z = ap (λ (l : List (List ℕ)). x ∷ l) (two_more xs y z)

  pub two_memories : (c d : Memory) → m.memories ≡ c ∷ d ∷ [] → AreApart (signal_names m) → IsUnlike (signal_names m) c.name → IsUnlike (signal_names m) d.name → (c.name ≡ d.name → ⊥)
      → AreApart (declared_names m)
  two_memories c d is apart other another differ =
      subst AreApart (two_more (signal_names m) c.name d.name ∙ sym (named (c.name ∷ d.name ∷ []) (ap (map (λ (x : Memory). x.name)) is)))
      (one_more (signal_names m ++ c.name ∷ []) d.name (one_more (signal_names m) c.name apart other) (unlike_more (signal_names m) c.name d.name another differ))
