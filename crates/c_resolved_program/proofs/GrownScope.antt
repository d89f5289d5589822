-- Names at file scope as declarations go on: a new name stands for what it is declared as, and each other name for what it
-- stood for before.
use Rattle.std.proofs.Common.{◌≡◌, refl, sym, ap, ◌∙◌, inl, inr, ℕ, Bool, true, false, List, [], ◌∷◌, ◌++◌, Option, Some, None, append_assoc, append-nil}
use Rattle.std.specs.Prelude.{◌⊎◌, if◌then◌else◌, slice_get}
use Rattle.std.specs.Str.{bytes_eq}
use Rattle.std.proofs.lemmas.Slice.Eq.{bytes_eq-Decides}
use Rattle.std.proofs.lemmas.Option.{same_Some, none-some}
use Rattle.lists.proofs.Places.{get_front}
use Rattle.c_rules.specs.declared.names.Meaning.{Meaning}
use Rattle.c_rules.specs.declared.names.Scope.{Scope}
use Rattle.c_rules.specs.Levels.{named_in, inserted}
use Rattle.c_resolved_program.specs.Orders.{IsFront}

-- names with what they stand for
abbrev Table : Type 0 → Type 0
Table A = List (List ℕ × A)

module _ {A : Type 0} where
  -- ---- the new name

  there_by : (b : Bool) (d : List ℕ × A) (more rest : Table A) (name : List ℕ) (a : A) → bytes_eq name d.0 ≡ b → named_in rest name ≡ Some a →
      named_in (if b then (d.0, a) ∷ more else d ∷ rest) name ≡ Some a
  there_by true d more rest name a same later = ap (λ c. if c then Some a else named_in more name) same
  there_by false d more rest name a apart later = ap (λ c. if c then Some d.1 else named_in rest name) apart ∙ later

  pub inserted_there : (names : Table A) (name : List ℕ) (a : A) → named_in (inserted names name a) name ≡ Some a
  inserted_there [] name a = ap (λ c. if c then Some a else None) ((bytes_eq-Decides name name).1 refl)
  inserted_there (d ∷ more) name a =
      there_by (bytes_eq name d.0) d more (inserted more name a) name a refl (inserted_there more name a)

  -- ---- the other names

  kept_in : (c : Bool) (d : A) (x z : Option A) (m : A) → (x ≡ Some m → z ≡ Some m) → (if c then Some d else x) ≡ Some m → (if c then Some d else z) ≡ Some m
  kept_in true d x z m later is = is
  kept_in false d x z m later is = later is

  kept_by : (b : Bool) (d : List ℕ × A) (more rest : Table A) (name key : List ℕ) (a m : A) → (if b then Some d.1 else named_in more name) ≡ None →
      (named_in more name ≡ None → named_in more key ≡ Some m → named_in rest key ≡ Some m) → named_in (d ∷ more) key ≡ Some m →
      named_in (if b then (d.0, a) ∷ more else d ∷ rest) key ≡ Some m
  kept_by true d more rest name key a m none later is = absurd (none-some d.1 (sym none))
  kept_by false d more rest name key a m none later is = kept_in (bytes_eq key d.0) d.1 (named_in more key) (named_in rest key) m (later none) is

  pub inserted_keeps : (names : Table A) (name key : List ℕ) (a m : A) → named_in names name ≡ None → named_in names key ≡ Some m →
      named_in (inserted names name a) key ≡ Some m
  inserted_keeps [] name key a m none is = absurd (none-some m (is))
  inserted_keeps (d ∷ more) name key a m none is =
      kept_by (bytes_eq name d.0) d more (inserted more name a) name key a m none (inserted_keeps more name key a m) is

  -- ---- what is named is the new name, or was named before

  abbrev Either : Table A → List ℕ → List ℕ → A → A → Type 0
  Either names name key a m = ((key ≡ name) × (a ≡ m)) ⊎ (named_in names key ≡ Some m)

  back_by : (b : Bool) (d : List ℕ × A) (more rest : Table A) (name key : List ℕ) (a m : A) → bytes_eq name d.0 ≡ b →
      (named_in rest key ≡ Some m → Either more name key a m) →
      named_in (if b then (d.0, a) ∷ more else d ∷ rest) key ≡ Some m → Either (d ∷ more) name key a m
  back_by true d more rest name key a m same later is = first (bytes_eq key d.0) refl is
    where
      first : (c : Bool) → bytes_eq key d.0 ≡ c → (if c then Some a else named_in more key) ≡ Some m →
          ((key ≡ name) × (a ≡ m)) ⊎ ((if c then Some d.1 else named_in more key) ≡ Some m)
      first true e is = inl ((bytes_eq-Decides key d.0).0 e ∙ sym ((bytes_eq-Decides name d.0).0 same), same_Some a m is)
      first false e is = inr is
  back_by false d more rest name key a m same later is = other (bytes_eq key d.0) is
    where
      other : (c : Bool) → (if c then Some d.1 else named_in rest key) ≡ Some m → ((key ≡ name) × (a ≡ m)) ⊎ ((if c then Some d.1 else named_in more key) ≡ Some m)
      other true is = inr is
      other false is = later is

  pub inserted_back : (names : Table A) (name key : List ℕ) (a m : A) → named_in (inserted names name a) key ≡ Some m → Either names name key a m
  inserted_back [] name key a m is = only (bytes_eq key name) refl is
    where
      only : (c : Bool) → bytes_eq key name ≡ c → (if c then Some a else None) ≡ Some m → ((key ≡ name) × (a ≡ m)) ⊎ (None ≡ Some m)
      only true e is = inl ((bytes_eq-Decides key name).0 e, same_Some a m is)
      only false e is = inr is
  inserted_back (d ∷ more) name key a m is =
      back_by (bytes_eq name d.0) d more (inserted more name a) name key a m refl (inserted_back more name key a m) is

-- ---- fronts of lists

pub front_same : {A : Type 0} (xs : List A) → IsFront xs xs
front_same xs = ([], append-nil xs)

pub front_on : {A : Type 0} (a b c : List A) → IsFront a b → IsFront b c → IsFront a c
front_on a b c h k = (h.0 ++ k.0, sym (append_assoc a h.0 k.0) ∙ ap (λ l. l ++ k.0) h.1 ∙ k.1)

pub front_at : {A : Type 0} (xs list : List A) (k : ℕ) (a : A) → IsFront xs list → slice_get xs k ≡ Some a → slice_get list k ≡ Some a
front_at xs list k a front is = ap (λ l. slice_get l k) (sym front.1) ∙ get_front xs front.0 k a is

-- ---- scopes

-- what is named and known of functions stays so
pub record Grows (s t : Scope) : Type 0 where
  pub names : (name : List ℕ) (m : Meaning) → named_in s.inner name ≡ Some m → named_in t.inner name ≡ Some m
  pub headers : IsFront s.headers t.headers
