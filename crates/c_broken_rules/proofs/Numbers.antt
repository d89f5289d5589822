-- The numbers of the functions that a text defines.
use Rattle.std.proofs.Common.{◌≡◌, refl, sym, subst, ap, ◌∙◌, inl, inr, ℕ, suc, ◌<◌, ◌≤◌, Bool, true, false, List, [], ◌∷◌, ◌++◌, length, Option, Some, None, arith}
use Rattle.std.proofs.lemmas.Bool.{true≢false, eq-eqb}
use Rattle.std.specs.Prelude.{◌⊎◌, ◌+◌, min, is_some, nat_eq, if◌then◌else◌}
use Rattle.std.specs.Str.{bytes_eq}
use Rattle.std.proofs.lemmas.Slice.Eq.{bytes_eq-Decides}
use Rattle.std.proofs.lemmas.Bool.Decides.{nat_tests}
use Rattle.std.proofs.lemmas.Option.{none-some, cond_some}
use Rattle.std.proofs.lemmas.List.{length-append}
use Rattle.lists.proofs.Places.{none_of}
use Rattle.c_tree.specs.declared.statement.Block.{Block}
use Rattle.c_tree.specs.declared.declaration.Function.{Function}
use Rattle.c_tree.specs.declared.declaration.ExternalDeclaration.{ExternalDeclaration}
use Rattle.c_tree.specs.declared.declaration.ExternalDeclaration.TheVariants as external
use Rattle.c_rules.specs.Levels.{named_in, inserted}
use Rattle.c_rules.specs.Names.{or_else}
use Rattle.c_rules.specs.Walks.{place_in_tree}
use Rattle.c_resolution.specs.Functions.{same_number}
use Rattle.c_resolution.specs.Texts as t
use Rattle.c_broken_rules.specs.Breaks.{definitions, definition_in, definition_by}
use Rattle.c_broken_rules.proofs.Sights.{named_inserted}
use Rattle.c_broken_rules.proofs.Unknown.{Defines, noted_by, all_here, all_back, from_nothing}

abbrev pub most : ℕ
most = 0xffff_ffff

-- ---- one more declaration

abbrev Below : t.Noted → ℕ → Type 0
Below d n = (d.1 ≡ min n most) × ((key : List ℕ) (v : ℕ) → named_in d.0 key ≡ Some v → v < n)

or_value : {A : Type 0} (x z : Option A) (v : A) → or_else x z ≡ Some v → (x ≡ Some v) ⊎ (z ≡ Some v)
or_value (Some a) z v h = inl h
or_value None z v h = inr h

value_below : (names : List (List ℕ × ℕ)) (key name : List ℕ) (m n v : ℕ) → m ≡ min n most → ((v : ℕ) → named_in names key ≡ Some v → v < n) →
    (named_in names key ≡ Some v) ⊎ ((if bytes_eq key name then Some m else None) ≡ Some v) → v < suc n
value_below names key name m n v e h (inl k) = let lt = h v k in omega arith
value_below names key name m n v e h (inr k) = let same = (cond_some (bytes_eq key name) m v k).1 in omega arith

noted_below : (names : List (List ℕ × ℕ)) (name : List ℕ) (m n : ℕ) (b : Bool) → is_some (named_in names name) ≡ b → m ≡ min n most →
    ((key : List ℕ) (v : ℕ) → named_in names key ≡ Some v → v < n) → (key : List ℕ) (v : ℕ) → named_in (if b then names else inserted names name m) key ≡ Some v → v < suc n
noted_below names name m n true e same h key v k = let lt = h key v k in omega arith
noted_below names name m n false e same h key v k =
    value_below names key name m n v same (h key)
    (or_value (named_in names key) (if bytes_eq key name then Some m else None) v (sym (named_inserted names name key m (none_of (named_in names name) e)) ∙ k))

next_number : (m n : ℕ) → m ≡ min n most → min (m + 1) most ≡ min (suc n) most
next_number m n e = omega arith

body_below : (d : t.Noted) (f : Function) (n : ℕ) (o : Option Block) → Below d n → Below (t.with_function f d o) (length (definition_by f (is_some o)) + n)
body_below d f n None h = subst (Below d) (omega arith) h
body_below d f n (Some body) h =
    let same : suc n ≡ 1 + n = omega arith in
    subst (Below (t.with_function f d (Some body))) same
    (next_number d.1 n h.0, noted_below d.0 f.name.bytes d.1 n (is_some (named_in d.0 f.name.bytes)) refl h.0 h.1)

step_below : (d : t.Noted) (x : ExternalDeclaration) (n : ℕ) → Below d n → Below (t.with_declaration d x) (length (definition_in x) + n)
step_below d (external.Objects o) n h = subst (Below d) (omega arith) h
step_below d (external.Function f) n h = body_below d f n f.body h

all_below : (list : List ExternalDeclaration) (d : t.Noted) (n : ℕ) → Below d n → Below (noted_by d list) (length (definitions list) + n)
all_below [] d n h = subst (Below d) (omega arith) h
all_below (x ∷ list) d n h =
    subst (Below (noted_by (t.with_declaration d x) list)) (omega (arith, length-append (definition_in x) (definitions list)))
    (all_below list (t.with_declaration d x) (length (definition_in x) + n) (step_below d x n h))

nothing_below : Below ([], 0) 0
nothing_below = (omega arith, λ key v h. absurd (none-some v h))

-- ---- what is noted stays

some_by : {A : Type 0} (x z : Option A) (v : A) → x ≡ Some v → or_else x z ≡ Some v
some_by (Some a) z v h = h
some_by None z v h = absurd (none-some v h)

noted_stays : (names : List (List ℕ × ℕ)) (name key : List ℕ) (m v : ℕ) (b : Bool) → is_some (named_in names name) ≡ b → named_in names key ≡ Some v →
    named_in (if b then names else inserted names name m) key ≡ Some v
noted_stays names name key m v true e h = h
noted_stays names name key m v false e h =
    named_inserted names name key m (none_of (named_in names name) e) ∙ some_by (named_in names key) (if bytes_eq key name then Some m else None) v h

body_stays : (d : t.Noted) (f : Function) (key : List ℕ) (v : ℕ) (o : Option Block) → named_in d.0 key ≡ Some v → named_in (t.with_function f d o).0 key ≡ Some v
body_stays d f key v None h = h
body_stays d f key v (Some body) h = noted_stays d.0 f.name.bytes key d.1 v (is_some (named_in d.0 f.name.bytes)) refl h

step_stays : (d : t.Noted) (x : ExternalDeclaration) (key : List ℕ) (v : ℕ) → named_in d.0 key ≡ Some v → named_in (t.with_declaration d x).0 key ≡ Some v
step_stays d (external.Objects o) key v h = h
step_stays d (external.Function f) key v h = body_stays d f key v f.body h

all_stays : (list : List ExternalDeclaration) (d : t.Noted) (key : List ℕ) (v : ℕ) → named_in d.0 key ≡ Some v → named_in (noted_by d list).0 key ≡ Some v
all_stays [] d key v h = h
all_stays (x ∷ list) d key v h = all_stays list (t.with_declaration d x) key v (step_stays d x key v h)

noted_both : (before list : List ExternalDeclaration) (d : t.Noted) → noted_by d (before ++ list) ≡ noted_by (noted_by d before) list
noted_both [] list d = refl
noted_both (x ∷ before) list d = noted_both before list (t.with_declaration d x)

-- ---- a function with a body, behind others

new_here : (names : List (List ℕ × ℕ)) (name : List ℕ) (m : ℕ) (b : Bool) → is_some (named_in names name) ≡ b → b ≡ false →
    named_in (if b then names else inserted names name m) name ≡ Some m
new_here names name m true e f = absurd (true≢false f)
new_here names name m false e f =
    named_inserted names name name m (none_of (named_in names name) e)
    ∙ ap (λ x. or_else x (if bytes_eq name name then Some m else None)) (none_of (named_in names name) e)
    ∙ ap (λ c. if c then Some m else None) ((bytes_eq-Decides name name).1 refl)

body_here : (d : t.Noted) (f : Function) (o : Option Block) → is_some o ≡ true → is_some (named_in d.0 f.name.bytes) ≡ false → named_in (t.with_function f d o).0
    f.name.bytes ≡ Some d.1
body_here d f None h e = absurd (true≢false (sym h))
body_here d f (Some body) h e = new_here d.0 f.name.bytes d.1 (is_some (named_in d.0 f.name.bytes)) refl e

pub some_value : {A : Type 0} (o : Option A) → is_some o ≡ true → (v : A) × (o ≡ Some v)
some_value (Some a) h = (a, refl)
some_value None h = absurd (true≢false (sym h))

pub less_apart : (v n : ℕ) → v < n → nat_eq v n ≡ false
less_apart v n lt = grind (arith, nat_tests)

apart : (v n : ℕ) → v < n → n ≤ most → nat_eq v (min n most) ≡ false
apart v n lt le = let same : min n most ≡ n = omega arith in ap (nat_eq v) same ∙ less_apart v n lt

module _ (before : List ExternalDeclaration) (f : Function) (rest : List ExternalDeclaration) (text : List ExternalDeclaration) (is : before ++ external.Function f ∷ rest ≡ text)
    (n : ℕ) (count : n ≡ length (definitions before)) where
  abbrev so_far : t.Noted
  so_far = noted_by ([], 0) before

  below : Below so_far n
  below = subst (Below so_far) (omega arith) (all_below before ([], 0) 0 nothing_below)

  whole : t.definitions text ≡ (noted_by (t.with_declaration so_far (external.Function f)) rest).0
  whole = ap t.definitions (sym is) ∙ ap (λ (d : t.Noted). d.0) (noted_both before (external.Function f ∷ rest) ([], 0))

  is_free : (b : Bool) → is_some (named_in so_far.0 f.name.bytes) ≡ b → (Defines (definitions before) f.name.bytes → ⊥) → b ≡ false
  is_free false e none = refl
  is_free true e none = absurd (none (from_nothing f.name.bytes before (all_back before ([], 0) f.name.bytes e)))

  -- the first body has the function's own number
  pub first_number : is_some f.body ≡ true → (Defines (definitions before) f.name.bytes → ⊥) → same_number (named_in (t.definitions text) f.name.bytes) (place_in_tree n) ≡ true
  first_number body none =
      let free : is_some (named_in so_far.0 f.name.bytes) ≡ false = is_free (is_some (named_in so_far.0 f.name.bytes)) refl none in
      let here = all_stays rest (t.with_declaration so_far (external.Function f)) f.name.bytes so_far.1 (body_here so_far f f.body body free) in
      ap (λ o. same_number o (place_in_tree n)) (ap (λ l. named_in l f.name.bytes) whole ∙ here) ∙ ap (λ k. nat_eq k (place_in_tree n)) below.0 ∙ eq-eqb (min n most) (min n most) refl

  -- a second one has another
  pub second_number : n ≤ most → Defines (definitions before) f.name.bytes → same_number (named_in (t.definitions text) f.name.bytes) (place_in_tree n) ≡ false
  second_number le some =
      let v = some_value (named_in so_far.0 f.name.bytes) (all_here before ([], 0) f.name.bytes some) in
      let here = all_stays rest (t.with_declaration so_far (external.Function f)) f.name.bytes v.0 (step_stays so_far (external.Function f) f.name.bytes v.0 v.1) in
      ap (λ o. same_number o (place_in_tree n)) (ap (λ l. named_in l f.name.bytes) whole ∙ here) ∙ apart v.0 n (below.1 f.name.bytes v.0 v.1) le
