-- States that are the same, instance by instance.
use Rattle.std.specs.Prelude.{◌≡◌, ℕ, ◌⊎◌, List, [], ◌∷◌, ◌++◌, refl}
use Rattle.std.proofs.Common.{ap, sym, ◌∙◌, subst, inl, inr, ⊎_elim}
use Rattle.std.proofs.lemmas.List.{append-nil}
use Rattle.std.proofs.lemmas.Bool.{cases_eq}
use Rattle.netlist.specs.declared.netlist.Module.{Module}
use Rattle.verilog_meaning.specs.Cycles.{Path, Valuation, IsSameIn, IsSameAt}
use Rattle.verilog_meaning.specs.Threads.{slot}
use Rattle.slot_sim.specs.Threaded.{IsSameBut}
use Rattle.slot_sim.specs.Laws.{TakenIsSame}

abbrev pub Ends : Path → ℕ → Type 0
Ends path j = (inner : Path) × (path ≡ inner ++ j ∷ [])

nothing : (j : ℕ) → Ends [] j → ⊥
nothing j ([], e) = cc
nothing j (x ∷ inner, e) = cc

one : (x j : ℕ) → Ends (x ∷ []) j → x ≡ j
one x j ([], e) = cc
one x j (z ∷ inner, e) = let t : [] ≡ inner ++ j ∷ [] = cc in absurd (nothing j (inner, t))

shorter : (x y j : ℕ) (rest : Path) → Ends (x ∷ y ∷ rest) j → Ends (y ∷ rest) j
shorter x y j rest ([], e) = absurd cc
shorter x y j rest (z ∷ inner, e) = (inner, cc)

pub ends : (path : Path) (j : ℕ) → Ends path j ⊎ (Ends path j → ⊥)
ends [] j = inr (nothing j)
ends (x ∷ []) j = ⊎_elim (λ same. inl ([], ap (λ z. z ∷ []) same)) (λ other. inr (λ e. other (one x j e))) (cases_eq x j)
ends (x ∷ y ∷ rest) j = ⊎_elim (λ e. inl (x ∷ e.0, ap (λ p. x ∷ p) e.1)) (λ no. inr (λ e. no (shorter x y j rest e))) (ends (y ∷ rest) j)

module _ (modules : List Module) (top : Module) where
  pub at_refl : (path : Path) (h : Valuation) → IsSameAt modules top path h h
  at_refl path h = record { registers = λ m x s at i. refl; words = λ m j k s at l. refl }

  pub at_trans : (path : Path) (h g k : Valuation) → IsSameAt modules top path h g → IsSameAt modules top path g k → IsSameAt modules top path h k
  at_trans path h g k a b = record {
    registers = λ m x s at i. a.registers m x s at i ∙ b.registers m x s at i;
    words = λ m j n s at l. a.words m j n s at l ∙ b.words m j n s at l;
  }

  pub in_refl : (outer : Path) (h : Valuation) → IsSameIn modules top outer h h
  in_refl outer h = record { registers = λ path m x s at i. refl; words = λ path m j k s at l. refl }

  pub in_sym : (outer : Path) (h g : Valuation) → IsSameIn modules top outer h g → IsSameIn modules top outer g h
  in_sym outer h g a = record { registers = λ path m x s at i. sym (a.registers path m x s at i); words = λ path m j k s at l. sym (a.words path m j k s at l) }

  pub in_trans : (outer : Path) (h g k : Valuation) → IsSameIn modules top outer h g → IsSameIn modules top outer g k → IsSameIn modules top outer h k
  in_trans outer h g k a b = record {
    registers = λ path m x s at i. a.registers path m x s at i ∙ b.registers path m x s at i;
    words = λ path m j n s at l. a.words path m j n s at l ∙ b.words path m j n s at l;
  }

  pub inner_at : (outer : Path) (h g : Valuation) → IsSameIn modules top outer h g → (inner : Path) → IsSameAt modules top (inner ++ outer) h g
  inner_at outer h g a inner = record { registers = λ m x s at i. a.registers inner m x s at i; words = λ m j k s at l. a.words inner m j k s at l }

  pub from_at : (outer : Path) (h g : Valuation) → ((inner : Path) → IsSameAt modules top (inner ++ outer) h g) → IsSameIn modules top outer h g
  from_at outer h g a = record { registers = λ path m x s at i. (a path).registers m x s at i; words = λ path m j k s at l. (a path).words m j k s at l }

  pub to_at : (h g : Valuation) → IsSameIn modules top [] h g → (path : Path) → IsSameAt modules top path h g
  to_at h g a path = subst (λ p. IsSameAt modules top p h g) (append-nil path) (inner_at [] h g a path)

  -- states that are the same are so in each instance
  pub within : (outer : Path) (h g : Valuation) → IsSameIn modules top [] h g → IsSameIn modules top outer h g
  within outer h g a = from_at outer h g (λ inner. to_at h g a (inner ++ outer))

  pub but_refl : (outer : Path) (h : Valuation) → IsSameBut modules top outer h h
  but_refl outer h path other = at_refl path h

  pub but_trans : (outer : Path) (h g k : Valuation) → IsSameBut modules top outer h g → IsSameBut modules top outer g k → IsSameBut modules top outer h k
  but_trans outer h g k a b path other = at_trans path h g k (a path other) (b path other)

pub taken_is_same : TakenIsSame
taken_is_same modules top threads i h g but same =
    let s = slot modules top threads i in
    from_at modules top [] h g
    (λ path. subst (λ p. IsSameAt modules top p h g) (sym (append-nil path))
    (⊎_elim
    (λ e. subst (λ p. IsSameAt modules top p h g) (sym e.1) (inner_at modules top s h g same e.0))
    (λ no. but path (λ inner e. no (inner, e)))
    (ends path _)))
