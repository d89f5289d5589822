-- The number that the resolver notes for a name is that of the first definition of a function of the name.
use Rattle.std.proofs.Common.{◌≡◌, refl, sym, subst, ap, ◌∙◌, inl, inr, ℕ, ◌<◌, ◌≤◌, Bool, true, false, List, [], ◌∷◌, ◌++◌, length, Option, Some, None}
use Rattle.std.proofs.Common.{append-nil, append_assoc, arith}
use Rattle.std.specs.Prelude.{◌⊎◌, ◌+◌, min, fold, is_some, if◌then◌else◌, slice_get}
use Rattle.std.specs.Str.{bytes_eq}
use Rattle.std.proofs.lemmas.Slice.Eq.{bytes_eq-Decides}
use Rattle.std.proofs.lemmas.Bool.{cases_lt, true≢false}
use Rattle.std.proofs.lemmas.Option.{same_Some, none-some, slice_get_within}
use Rattle.std.proofs.lemmas.List.Sums.{fold-append}
use Rattle.std.proofs.lemmas.List.{length-append}
use Rattle.lists.proofs.Places.{none_of, get_last, get_front, get_pushed}
use Rattle.c_tree.specs.declared.statement.Block.{Block}
use Rattle.c_tree.specs.declared.declaration.Function.{Function}
use Rattle.c_tree.specs.declared.declaration.ExternalDeclaration.{ExternalDeclaration}
use Rattle.c_tree.specs.declared.declaration.ExternalDeclaration.TheVariants as external
use Rattle.c_tree.specs.declared.declaration.TranslationUnit.{TranslationUnit}
use Rattle.c_rules.specs.Levels.{named_in, inserted, noted}
use Rattle.c_rules.specs.Names.{or_else}
use Rattle.c_resolution.specs.Texts as t
use Rattle.c_broken_rules.specs.Breaks.{IsNamed, IsDefinition, definitions, definition_in, definition_by}
use Rattle.c_broken_rules.specs.Laws.{IsOfFew}
use Rattle.c_broken_rules.proofs.Sights.{named_inserted}
use Rattle.c_broken_rules.proofs.Unknown.{noted_by}
use Rattle.c_broken_rules.proofs.Numbers.{most}

-- ---- the definitions one after another

abbrev note : t.Noted → Function → t.Noted
note d f = (noted d.0 f.name.bytes d.1, min (d.1 + 1) most)

body_noted : (d : t.Noted) (f : Function) (o : Option Block) → t.with_function f d o ≡ fold note d (definition_by f (is_some o))
body_noted d f None = refl
body_noted d f (Some body) = refl

one_noted : (d : t.Noted) (x : ExternalDeclaration) → t.with_declaration d x ≡ fold note d (definition_in x)
one_noted d (external.Function f) = body_noted d f f.body
one_noted d (external.Objects o) = refl

all_noted : (list : List ExternalDeclaration) (d : t.Noted) → noted_by d list ≡ fold note d (definitions list)
all_noted [] d = refl
all_noted (x ∷ list) d =
    ap (λ (z : t.Noted). noted_by z list) (one_noted d x) ∙ all_noted list (fold note d (definition_in x)) ∙ sym (fold-append note d (definition_in x) (definitions list))

-- ---- one more definition

-- the first function of the name
record IsFirst (list : List Function) (key : List ℕ) (n : ℕ) : Type 0 where
  f : Function
  found : slice_get list n ≡ Some f
  named : IsNamed key f
  first : (k : ℕ) (g : Function) → k < n → slice_get list k ≡ Some g → IsNamed key g → ⊥

abbrev IsNone : List Function → List ℕ → Type 0
IsNone list key = (k : ℕ) (g : Function) → slice_get list k ≡ Some g → IsNamed key g → ⊥

abbrev Says : List Function → List ℕ → Option ℕ → Type 0
Says list key None = IsNone list key
Says list key (Some n) = IsFirst list key n

not_before : (list : List Function) (f g : Function) (k n : ℕ) → k < n → n < length list → (slice_get list k ≡ Some g) ⊎ ((k ≡ length list) × (f ≡ g)) → slice_get list k ≡ Some g
not_before list f g k n lt below (inl h) = h
not_before list f g k n lt below (inr h) = let same = h.0 in absurd (omega arith)

still_first : (list : List Function) (f : Function) (key : List ℕ) (n : ℕ) → IsFirst list key n → IsFirst (list ++ f ∷ []) key n
still_first list f key n h = record {
  f = h.f;
  found = get_front list (f ∷ []) n h.f h.found;
  named = h.named;
  first = λ k g lt e. h.first k g lt (not_before list f g k n lt (slice_get_within list n h.f h.found) (get_pushed list f k g e));
}

none_by : (list : List Function) (f g : Function) (key : List ℕ) (k : ℕ) → IsNone list key → (IsNamed key f → ⊥) → (slice_get list k ≡ Some g) ⊎ ((k ≡ length list) × (f ≡ g)) →
    IsNamed key g → ⊥
none_by list f g key k none other (inl h) named = none k g h named
none_by list f g key k none other (inr h) named = other (subst (IsNamed key) (sym h.1) named)

still_none : (list : List Function) (f : Function) (key : List ℕ) → IsNone list key → (IsNamed key f → ⊥) → IsNone (list ++ f ∷ []) key
still_none list f key none other k g e = none_by list f g key k none other (get_pushed list f k g e)

inside : (list : List Function) (f g : Function) (k : ℕ) → k < length list → (slice_get list k ≡ Some g) ⊎ ((k ≡ length list) × (f ≡ g)) → slice_get list k ≡ Some g
inside list f g k lt (inl h) = h
inside list f g k lt (inr h) = let same = h.0 in absurd (omega arith)

new_first : (list : List Function) (f : Function) (key : List ℕ) → IsNone list key → IsNamed key f → IsFirst (list ++ f ∷ []) key (length list)
new_first list f key none named = record {
  f = f;
  found = get_last list f;
  named = named;
  first = λ k g lt e. none k g (inside list f g k lt (get_pushed list f k g e));
}

-- a name that is noted already
old_says : (list : List Function) (f : Function) (key : List ℕ) (o : Option ℕ) → (o ≡ None → IsNamed key f → ⊥) → Says list key o → Says (list ++ f ∷ []) key o
old_says list f key (Some n) other h = still_first list f key n h
old_says list f key None other h = still_none list f key h (other refl)

new_says : (list : List Function) (f : Function) (key : List ℕ) (m : ℕ) (o : Option ℕ) (b : Bool) → bytes_eq key f.name.bytes ≡ b → m ≡ length list → Says list key o →
    Says (list ++ f ∷ []) key (or_else o (if b then Some m else None))
new_says list f key m (Some n) b e same h = still_first list f key n h
new_says list f key m None true e same h =
    subst (λ k. IsFirst (list ++ f ∷ []) key k) (sym same) (new_first list f key h (sym ((bytes_eq-Decides key f.name.bytes).0 e)))
new_says list f key m None false e same h = still_none list f key h (λ named. true≢false (sym ((bytes_eq-Decides key f.name.bytes).1 (sym named)) ∙ e))

says_by : (list : List Function) (f : Function) (names : List (List ℕ × ℕ)) (m : ℕ) (b : Bool) → is_some (named_in names f.name.bytes) ≡ b → m ≡ length list →
    ((key : List ℕ) → Says list key (named_in names key)) → (key : List ℕ) → Says (list ++ f ∷ []) key (named_in (if b then names else inserted names f.name.bytes m) key)
says_by list f names m true e same h key =
    old_says list f key (named_in names key) (λ none named. true≢false (sym e ∙ ap (λ k. is_some (named_in names k)) named ∙ ap is_some none)) (h key)
says_by list f names m false e same h key =
    subst (Says (list ++ f ∷ []) key) (sym (named_inserted names f.name.bytes key m (none_of (named_in names f.name.bytes) e)))
    (new_says list f key m (named_in names key) (bytes_eq key f.name.bytes) refl same (h key))

record IsNoted (d : t.Noted) (list : List Function) : Type 0 where
  next : d.1 ≡ min (length list) most
  says : (key : List ℕ) → Says list key (named_in d.0 key)

next_is : (m n k : ℕ) → m ≡ min n most → k ≡ n + 1 → min (m + 1) most ≡ min k most
next_is m n k e same = omega arith

step : (d : t.Noted) (list : List Function) (f : Function) → length list ≤ most → IsNoted d list → IsNoted (note d f) (list ++ f ∷ [])
step d list f le h =
    let next = h.next in
    record {
      next = next_is d.1 (length list) (length (list ++ f ∷ [])) h.next (omega (arith, length-append list (f ∷ [])));
      says = says_by list f d.0 d.1 (is_some (named_in d.0 f.name.bytes)) refl (omega arith) h.says;
    }

all : (rest list : List Function) (d : t.Noted) → length list + length rest ≤ most → IsNoted d list → IsNoted (fold note d rest) (list ++ rest)
all [] list d le h = subst (IsNoted d) (sym (append-nil list)) h
all (f ∷ rest) list d le h =
    subst (IsNoted (fold note (note d f) rest)) (append_assoc list (f ∷ []) rest)
    (all rest (list ++ f ∷ []) (note d f) (omega (arith, length-append list (f ∷ []))) (step d list f (omega arith) h))

nothing_noted : IsNoted ([], 0) []
nothing_noted = record { next = omega arith; says = λ key k g e named. none-some g e }

-- ---- a text

module _ (tree : TranslationUnit) (few : IsOfFew tree) where
  abbrev text : List Function
  text = definitions tree.declarations

  few_is : 0 + length text ≤ most
  few_is = omega (arith, few)

  says : (key : List ℕ) → Says text key (named_in (t.definitions tree.declarations) key)
  says key =
      subst (λ (d : t.Noted). Says text key (named_in d.0 key)) (sym (all_noted tree.declarations ([], 0))) ((all text [] ([], 0) few_is nothing_noted).says key)

  by : (key : List ℕ) (n : ℕ) (o : Option ℕ) → o ≡ Some n → Says text key o → IsDefinition tree key n
  by key n None e h = absurd (none-some n e)
  by key n (Some m) e h =
      let f = subst (IsFirst text key) (same_Some m n e) h in
      record { f = f.f; found = f.found; named = f.named; first = f.first }

  -- the number that is noted is that of the definition
  pub noted_defined : (key : List ℕ) (n : ℕ) → named_in (t.definitions tree.declarations) key ≡ Some n → IsDefinition tree key n
  noted_defined key n e = by key n (named_in (t.definitions tree.declarations) key) e (says key)

  same_first : (key : List ℕ) (n m : ℕ) → IsDefinition tree key n → IsFirst text key m → m ≡ n
  same_first key n m h k =
      elim (cases_lt m n) [
        | inl lt ↦ absurd (h.first m k.f lt k.found k.named)
        | inr ge ↦ elim (cases_lt n m) [ inl lt ↦ absurd (k.first n h.f lt h.found h.named) | inr le ↦ omega arith ]
      ]

  back : (key : List ℕ) (n : ℕ) (o : Option ℕ) → IsDefinition tree key n → Says text key o → o ≡ Some n
  back key n None h k = absurd (k n h.f h.found h.named)
  back key n (Some m) h k = ap (λ k. Some k) (same_first key n m h k)

  pub defined_noted : (key : List ℕ) (n : ℕ) → IsDefinition tree key n → named_in (t.definitions tree.declarations) key ≡ Some n
  defined_noted key n h = back key n (named_in (t.definitions tree.declarations) key) h (says key)

  -- and one of those of the text
  pub defined_below : (key : List ℕ) (n : ℕ) → IsDefinition tree key n → n < length text
  defined_below key n h = slice_get_within text n h.f h.found
