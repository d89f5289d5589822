-- What a list holds, and lists that grow by what is new to them.
use Rattle.std.proofs.Common.{◌≡◌, ℕ, zero, suc, ◌⊎◌, List, [], ◌∷◌, ◌++◌, Bool, true, false, Some, None, refl, sym, ap, ◌∙◌, subst, inl, inr, map, arith}
use Rattle.std.specs.Prelude.{not, slice_get, is_some, ◌||◌, if◌then◌else◌}
use Rattle.std.specs.List.{flat_map, list_any}
use Rattle.std.specs.Bool.{Decides}
use Rattle.std.specs.Str.{bytes_eq}
use Rattle.std.proofs.lemmas.Slice.Eq.{bytes_eq-Decides}
use Rattle.std.proofs.lemmas.Option.{same_Some, none-some}
use Rattle.std.proofs.lemmas.Bool.{false_from_ne_true, or_right}
use Rattle.lists.proofs.Places.{get_front, get_back, get_mapped, get_unmapped}
use Rattle.verilog_tree.specs.declared.kind.Kind.{Kind}
use Rattle.verilog_tree.specs.Scope.{Name, Names, Scope, kind_of, is_declared}
use Rattle.verilog_tree.specs.Facts.{after, with_name, with_declaration}
use Rattle.verilog_tree.specs.WellFormed.{are_new}
use Rattle.verilog_tree.proofs.Tests.{and_both}
use Rattle.netlist_text.proofs.Places.{get_either}

pub record In {A : Type 0} (xs : List A) (x : A) : Type 0 where
  pub at : ℕ
  pub found : slice_get xs at ≡ Some x

-- at two places stand two elements
abbrev pub IsApart : {A : Type 0} → List A → Type 0
IsApart {A} xs = (i j : ℕ) (x : A) → slice_get xs i ≡ Some x → slice_get xs j ≡ Some x → i ≡ j

pub apart_tail : {A : Type 0} (y : A) (xs : List A) → IsApart (y ∷ xs) → IsApart xs
apart_tail y xs apart = λ i j x p q. let e : suc i ≡ suc j = apart (suc i) (suc j) x p q in omega arith

pub in_none : {A : Type 0} (x : A) → In [] x → ⊥
in_none x h = none-some x h.found

pub in_first : {A : Type 0} (x : A) (xs : List A) → In (x ∷ xs) x
in_first x xs = record { at = 0; found = refl }

pub in_rest : {A : Type 0} (y x : A) (xs : List A) → In xs x → In (y ∷ xs) x
in_rest y x xs h = record { at = suc h.at; found = h.found }

cons_at : {A : Type 0} (y x : A) (xs : List A) (k : ℕ) → slice_get (y ∷ xs) k ≡ Some x → (y ≡ x) ⊎ In xs x
cons_at y x xs zero h = inl (same_Some y x h)
cons_at y x xs (suc k) h = inr (record { at = k; found = h })

pub in_cons : {A : Type 0} (y x : A) (xs : List A) → In (y ∷ xs) x → (y ≡ x) ⊎ In xs x
in_cons y x xs h = cons_at y x xs h.at h.found

pub in_one : {A : Type 0} (y x : A) → In (y ∷ []) x → y ≡ x
in_one y x h = elim (in_cons y x [] h) [ inl e ↦ e | inr p ↦ absurd (in_none x p) ]

pub in_front : {A : Type 0} (xs ys : List A) (x : A) → In xs x → In (xs ++ ys) x
in_front xs ys x h = record { at = h.at; found = get_front xs ys h.at x h.found }

pub in_back : {A : Type 0} (xs ys : List A) (x : A) → In ys x → In (xs ++ ys) x
in_back xs ys x h = record { at = _; found = get_back xs ys h.at x h.found }

pub in_either : {A : Type 0} (xs ys : List A) (x : A) → In (xs ++ ys) x → In xs x ⊎ In ys x
in_either xs ys x h = elim (get_either xs ys h.at x h.found) [
  | inl p ↦ inl (record { at = h.at; found = p })
  | inr p ↦ inr (record { at = p.at; found = p.found })
]

pub in_map : {A B : Type 0} (f : A → B) (xs : List A) (x : A) → In xs x → In (map f xs) (f x)
in_map f xs x h = record { at = h.at; found = get_mapped f xs h.at x h.found }

pub record Mapped {A B : Type 0} (f : A → B) (xs : List A) (y : B) : Type 0 where
  pub x : A
  pub at : ℕ
  pub found : slice_get xs at ≡ Some x
  pub is : f x ≡ y

pub in_unmap : {A B : Type 0} (f : A → B) (xs : List A) (y : B) → In (map f xs) y → Mapped f xs y
in_unmap f xs y h = let p = get_unmapped f xs h.at y h.found in record { x = p.0; at = h.at; found = p.1; is = p.2 }

pub in_flat : {A B : Type 0} (f : A → List B) (xs : List A) (k : ℕ) (x : A) (y : B) → slice_get xs k ≡ Some x → In (f x) y → In (flat_map f xs) y
in_flat f [] k x y h p = absurd (none-some x h)
in_flat {B = B} f (z ∷ xs) zero x y h p = in_front (f z) (flat_map f xs) y (subst (λ (l : List B). In l y) (ap f (sym (same_Some z x h))) p)
in_flat f (z ∷ xs) (suc k) x y h p = in_back (f z) (flat_map f xs) y (in_flat f xs k x y h p)

pub record Flat {A B : Type 0} (f : A → List B) (xs : List A) (y : B) : Type 0 where
  pub x : A
  pub at : ℕ
  pub found : slice_get xs at ≡ Some x
  pub inside : In (f x) y

pub in_unflat : {A B : Type 0} (f : A → List B) (xs : List A) (y : B) → In (flat_map f xs) y → Flat f xs y
in_unflat f [] y h = absurd (in_none y h)
in_unflat f (z ∷ xs) y h = elim (in_either (f z) (flat_map f xs) y h) [
  | inl p ↦ record { x = z; at = 0; found = refl; inside = p }
  | inr p ↦ (let q = in_unflat f xs y p in record { x = q.x; at = suc q.at; found = q.found; inside = q.inside })
]

-- ---- known to a list

module _ {A : Type 0} (same : A → A → Bool) (decides : (x y : A) → Decides (same x y) (x ≡ y)) where
  abbrev pub holds : List A → A → Bool
  holds xs x = list_any (same x) xs

  abbrev pub with_new : List A → A → List A
  with_new xs x = if holds xs x then xs else xs ++ x ∷ []

  holds_step : (y : A) (xs : List A) (x : A) → (holds xs x ≡ true → In xs x) → (b : Bool) → same x y ≡ b → (b || holds xs x) ≡ true → In (y ∷ xs) x
  holds_step y xs x next true e h = record { at = 0; found = ap Some (sym ((decides x y).0 e)) }
  holds_step y xs x next false e h = in_rest y x xs (next h)

  pub holds_in : (xs : List A) (x : A) → holds xs x ≡ true → In xs x
  holds_in [] x h = cc
  holds_in (y ∷ xs) x h = holds_step y xs x (holds_in xs x) (same x y) refl h

  holds_at : (xs : List A) (k : ℕ) (x : A) → slice_get xs k ≡ Some x → holds xs x ≡ true
  holds_at [] k x h = absurd (none-some x h)
  holds_at (y ∷ xs) zero x h = ap (λ b. b || holds xs x) ((decides x y).1 (sym (same_Some y x h)))
  holds_at (y ∷ xs) (suc k) x h = or_right (same x y) (holds xs x) (holds_at xs k x h)

  pub in_holds : (xs : List A) (x : A) → In xs x → holds xs x ≡ true
  in_holds xs x h = holds_at xs h.at x h.found

  pub not_holds : (xs : List A) (x : A) → (In xs x → ⊥) → holds xs x ≡ false
  not_holds xs x h = false_from_ne_true (holds xs x) (λ e. h (holds_in xs x e))

  new_in_by : (xs : List A) (y x : A) (b : Bool) → In (if b then xs else xs ++ y ∷ []) x → In xs x ⊎ (y ≡ x)
  new_in_by xs y x true h = inl h
  new_in_by xs y x false h = elim (in_either xs (y ∷ []) x h) [ inl p ↦ inl p | inr p ↦ inr (in_one y x p) ]

  pub with_new_in : (xs : List A) (y x : A) → In (with_new xs y) x → In xs x ⊎ (y ≡ x)
  with_new_in xs y x h = new_in_by xs y x (holds xs y) h

  stays_by : (xs : List A) (y x : A) (b : Bool) → In xs x → In (if b then xs else xs ++ y ∷ []) x
  stays_by xs y x true h = h
  stays_by xs y x false h = in_front xs (y ∷ []) x h

  comes_by : (xs : List A) (y : A) (b : Bool) → holds xs y ≡ b → In (if b then xs else xs ++ y ∷ []) y
  comes_by xs y true h = holds_in xs y h
  comes_by xs y false h = in_back xs (y ∷ []) y (in_first y [])

  pub after_in : (s xs : List A) (x : A) → In (after with_new s xs) x → In s x ⊎ In xs x
  after_in s [] x h = inl h
  after_in s (y ∷ xs) x h = elim (after_in (with_new s y) xs x h) [
    | inl p ↦ elim (with_new_in s y x p) [ inl q ↦ inl q | inr e ↦ inr (record { at = 0; found = ap Some e }) ]
    | inr p ↦ inr (in_rest y x xs p)
  ]

  pub in_after : (s xs : List A) (x : A) → In s x ⊎ In xs x → In (after with_new s xs) x
  in_after s [] x (inl h) = h
  in_after s [] x (inr h) = absurd (in_none x h)
  in_after s (y ∷ xs) x (inl h) = in_after (with_new s y) xs x (inl (stays_by s y x (holds s y) h))
  in_after s (y ∷ xs) x (inr h) = elim (in_cons y x xs h) [
    | inl e ↦ in_after (with_new s y) xs x (inl (subst (λ (z : A). In (with_new s y) z) e (comes_by s y (holds s y) refl)))
    | inr p ↦ in_after (with_new s y) xs x (inr p)
  ]

-- ---- names

abbrev pub is_known_in : (xs : Names) (x : Name) → list_any (bytes_eq x) xs ≡ true → In xs x
is_known_in = holds_in bytes_eq bytes_eq-Decides

pub names_new : (s xs : Names) → ((x : Name) → In xs x → In s x → ⊥) → IsApart xs → are_new s xs ≡ true
names_new s [] none apart = refl
names_new s (x ∷ xs) none apart = and_both _ _ (ap not (not_holds bytes_eq bytes_eq-Decides s x (λ p. none x (in_first x xs) p)))
    (names_new (with_name s x) xs (λ z p q. elim (with_new_in bytes_eq bytes_eq-Decides s x z q) [
      | inl r ↦ none z (in_rest x z xs p) r
      | inr e ↦ (let f : 0 ≡ suc p.at = apart 0 (suc p.at) z (ap Some e) p.found in absurd (omega arith))
    ]) (apart_tail x xs apart))

-- ---- declarations

abbrev pub Entry : Type 0
Entry = Name × Kind

kind_step : (d : Entry) (ds : Scope) (x : Name) (k : Kind) → ((e : Entry) → In (d ∷ ds) e → e.0 ≡ x → e.1 ≡ k) → (kind_of ds x ≡ Some k) ⊎ (d.0 ≡ x)
    → (b : Bool) → bytes_eq x d.0 ≡ b → (if b then Some d.1 else kind_of ds x) ≡ Some k
kind_step d ds x k all next true e = ap Some (all d (in_first d ds) (sym ((bytes_eq-Decides x d.0).0 e)))
kind_step d ds x k all (inl h) false e = h
kind_step d ds x k all (inr h) false e =
    let t : bytes_eq x d.0 ≡ true = ap (bytes_eq x) h ∙ (bytes_eq-Decides x x).1 refl in let f : true ≡ false = sym t ∙ e in absurd (cc)

-- a name that is declared, and as this kind alone
pub kind_unique : (ds : Scope) (x : Name) (k : Kind) → ((e : Entry) → In ds e → e.0 ≡ x → e.1 ≡ k) → (i : ℕ) (e : Entry) → slice_get ds i ≡ Some e → e.0 ≡ x → kind_of ds x ≡ Some k
kind_unique [] x k all i e h is = absurd (none-some e h)
kind_unique (d ∷ ds) x k all zero e h is = kind_step d ds x k all (inr (ap (λ (y : Entry). y.0) (same_Some d e h) ∙ is)) (bytes_eq x d.0) refl
kind_unique (d ∷ ds) x k all (suc i) e h is =
    kind_step d ds x k all (inl (kind_unique ds x k (λ f p q. all f (in_rest d f ds p) q) i e h is)) (bytes_eq x d.0) refl

declared_by : (d : Entry) (ds : Scope) (x : Name) → (kind_of ds x ≡ None) → (b : Bool) → bytes_eq x d.0 ≡ b → (d.0 ≡ x → ⊥) → (if b then Some d.1 else kind_of ds x) ≡ None
declared_by d ds x next true e h = absurd (h (sym ((bytes_eq-Decides x d.0).0 e)))
declared_by d ds x next false e h = next

pub undeclared : (ds : Scope) (x : Name) → ((e : Entry) → In ds e → e.0 ≡ x → ⊥) → kind_of ds x ≡ None
undeclared [] x h = refl
undeclared (d ∷ ds) x h = declared_by d ds x (undeclared ds x (λ e p. h e (in_rest d e ds p))) (bytes_eq x d.0) refl (h d (in_first d ds))

declares_by : (s : Scope) (d e : Entry) (b : Bool) → In (if b then s else s ++ d ∷ []) e → In s e ⊎ (d ≡ e)
declares_by s d e true h = inl h
declares_by s d e false h = elim (in_either s (d ∷ []) e h) [ inl p ↦ inl p | inr p ↦ inr (in_one d e p) ]

pub declarations_in : (s ds : Scope) (e : Entry) → In (after with_declaration s ds) e → In s e ⊎ In ds e
declarations_in s [] e h = inl h
declarations_in s (d ∷ ds) e h = elim (declarations_in (with_declaration s d) ds e h) [
  | inl p ↦ elim (declares_by s d e (is_declared s d.0) p) [ inl q ↦ inl q | inr f ↦ inr (record { at = 0; found = ap Some f }) ]
  | inr p ↦ inr (in_rest d e ds p)
]

-- an entry of this name
pub record Named (ds : Scope) (x : Name) : Type 0 where
  pub entry : Entry
  pub held : In ds entry
  pub name : entry.0 ≡ x

some_entry : (ds : Scope) (x : Name) → is_some (kind_of ds x) ≡ true → Named ds x
some_entry [] x h = cc
some_entry (d ∷ ds) x h = by_test (bytes_eq x d.0) refl h (some_entry ds x) where
  by_test : (b : Bool) → bytes_eq x d.0 ≡ b → is_some (if b then Some d.1 else kind_of ds x) ≡ true → (is_some (kind_of ds x) ≡ true → Named ds x) → Named (d ∷ ds) x
  by_test true e q next = record { entry = d; held = in_first d ds; name = sym ((bytes_eq-Decides x d.0).0 e) }
  by_test false e q next = let n = next q in record { entry = n.entry; held = in_rest d n.entry ds n.held; name = n.name }

named_by : (s : Scope) (d : Entry) (b : Bool) → is_declared s d.0 ≡ b → Named (if b then s else s ++ d ∷ []) d.0
named_by s d true h = some_entry s d.0 h
named_by s d false h = record { entry = d; held = in_back s (d ∷ []) d (in_first d []); name = refl }

named_stays : (s : Scope) (d : Entry) (x : Name) (b : Bool) → Named s x → Named (if b then s else s ++ d ∷ []) x
named_stays s d x true h = h
named_stays s d x false h = record { entry = h.entry; held = in_front s (d ∷ []) h.entry h.held; name = h.name }

pub in_declarations : (s ds : Scope) (x : Name) → Named s x ⊎ Named ds x → Named (after with_declaration s ds) x
in_declarations s [] x (inl h) = h
in_declarations s [] x (inr h) = absurd (in_none h.entry h.held)
in_declarations s (d ∷ ds) x (inl h) = in_declarations (with_declaration s d) ds x (inl (named_stays s d x (is_declared s d.0) h))
in_declarations s (d ∷ ds) x (inr h) = elim (in_cons d h.entry ds h.held) [
  | inl e ↦ in_declarations (with_declaration s d) ds x
      (inl (subst (λ (y : Name). Named (with_declaration s d) y) (ap (λ (y : Entry). y.0) e ∙ h.name) (named_by s d (is_declared s d.0) refl)))
  | inr p ↦ in_declarations (with_declaration s d) ds x (inr (record { entry = h.entry; held = p; name = h.name }))
]
