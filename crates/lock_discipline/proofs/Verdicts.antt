-- What the answer that a program is disciplined says.
use Rattle.std.proofs.Common.{◌≡◌, ℕ, zero, suc, ◌+◌, ◌<◌, List, [], ◌∷◌, ◌++◌, length, refl, sym, ◌∙◌, ap, subst, inl, inr, ⊎_elim, arith}
use Rattle.std.specs.Prelude.{◌⊎◌, Bool, true, false, ◌&&◌, ◌||◌, not, if◌then◌else◌, nat_eq}
use Rattle.std.specs.List.{AllByRecursion, flat_map, list_any, range_with_len}
use Rattle.std.proofs.lemmas.Bool.{or_parts, false≢true, eq-eqb, eqb-true}
use Rattle.c_program.specs.Tree.{GlobalVariable, Program}
use Rattle.lock_discipline.specs.Sets.{has}
use Rattle.lock_discipline.specs.Walk.{Access, Seen, Touches}
use Rattle.lock_discipline.specs.Discipline.{creators, all_seen, is_counted, is_write, is_others, lacks, owners, is_owned, is_guarded}
use Rattle.lock_discipline.specs.Discipline.{has_discipline, Doubt, least, is_too_deep, offset_of, of_globals, of_creators, verdict, is_disciplined}

-- a is one of these
abbrev pub IsOne : {A : Type 0} → A → List A → Type 0
IsOne a [] = ⊥
IsOne a (x ∷ xs) = (x ≡ a) ⊎ IsOne a xs

pub one_left : {A : Type 0} (a : A) (xs ys : List A) → IsOne a xs → IsOne a (xs ++ ys)
one_left a [] ys h = absurd h
one_left a (x ∷ xs) ys (inl e) = inl e
one_left a (x ∷ xs) ys (inr h) = inr (one_left a xs ys h)

pub one_right : {A : Type 0} (a : A) (xs ys : List A) → IsOne a ys → IsOne a (xs ++ ys)
one_right a [] ys h = h
one_right a (x ∷ xs) ys h = inr (one_right a xs ys h)

pub one_flat : {A B : Type 0} (f : A → List B) (a : A) (b : B) (xs : List A) → IsOne a xs → IsOne b (f a) → IsOne b (flat_map f xs)
one_flat f a b [] h k = absurd h
one_flat f a b (x ∷ xs) (inl e) k = one_left b (f x) (flat_map f xs) (subst (λ y. IsOne b (f y)) (sym e) k)
one_flat f a b (x ∷ xs) (inr h) k = one_right b (f x) (flat_map f xs) (one_flat f a b xs h k)

pub all_ones : {A : Type 0} (xs : List A) → AllByRecursion (λ x. IsOne x xs) xs
all_ones {A} xs = go xs (λ a h. h)
  where
    go : (ys : List A) → ((a : A) → IsOne a ys → IsOne a xs) → AllByRecursion (λ x. IsOne x xs) ys
    go [] h = tt
    go (y ∷ ys) h = (h y (inl refl), go ys (λ a k. h a (inr k)))

pub all_of : {A : Type 0} (Q : A → Type 0) (xs : List A) → ((a : A) → IsOne a xs → Q a) → AllByRecursion Q xs
all_of Q [] h = tt
all_of Q (x ∷ xs) h = (h x (inl refl), all_of Q xs (λ a k. h a (inr k)))

none_is : {A : Type 0} (p : A → Bool) (xs : List A) (a : A) → list_any p xs ≡ false → IsOne a xs → p a ≡ false
none_is p [] a e h = absurd h
none_is p (x ∷ xs) a e (inl same) = subst (λ y. p y ≡ false) same (or_parts (p x) (list_any p xs) e).0
none_is p (x ∷ xs) a e (inr h) = none_is p xs a (or_parts (p x) (list_any p xs) e).1 h

-- some element passes
any_is : {A : Type 0} (p : A → Bool) (xs : List A) → list_any p xs ≡ true → (a : A) × IsOne a xs × (p a ≡ true)
any_is p [] e = absurd (false≢true e)
any_is {A} p (x ∷ xs) e = go (p x) refl e (any_is p xs)
  where
    go : (b : Bool) → p x ≡ b → (b || list_any p xs) ≡ true → (list_any p xs ≡ true → (a : A) × IsOne a xs × (p a ≡ true)) → (a : A) × IsOne a (x ∷ xs) × (p a ≡ true)
    go true q r h = (x, inl refl, q)
    go false q r h = let later = h r in (later.0, inr later.1, later.2)

-- ---- the parts of the answer

pub record IsDisciplined (P : Program) : Type 0 where
  pub no_creator : creators P ≡ []
  pub not_deep : list_any is_too_deep (all_seen P) ≡ false
  pub each : (x : ℕ) → x < length P.globals → has_discipline (owners P) (length P.mutexes) (all_seen P) x ≡ true

module _ (own : List ℕ) (mutexes : ℕ) (seen : List Seen) (count : ℕ) where
  globals_are : (gs : List GlobalVariable) (x k : ℕ) → is_disciplined (of_globals own mutexes seen count x gs) ≡ true → k < length gs → has_discipline own mutexes seen (x + k) ≡ true
  globals_are [] x k e less = absurd (omega (arith, less))
  globals_are (g ∷ gs) x zero e less = here (has_discipline own mutexes seen x) refl e
    where
      here : (b : Bool) → has_discipline own mutexes seen x ≡ b →
          is_disciplined (if b then of_globals own mutexes seen count (x + 1) gs else Doubt (least (flat_map (offset_of x) seen)) g.name) ≡ true →
          has_discipline own mutexes seen (x + 0) ≡ true
      here true q r = let place : x ≡ x + 0 = omega arith in subst (λ n. has_discipline own mutexes seen n ≡ true) place q
      here false q r = absurd (false≢true r)
  globals_are (g ∷ gs) x (suc k) e less =
      later (has_discipline own mutexes seen x) e (λ r. globals_are gs (x + 1) k r (omega (arith, less)))
    where
      later : (b : Bool) → is_disciplined (if b then of_globals own mutexes seen count (x + 1) gs else Doubt (least (flat_map (offset_of x) seen)) g.name) ≡ true →
          (is_disciplined (of_globals own mutexes seen count (x + 1) gs) ≡ true → has_discipline own mutexes seen (x + 1 + k) ≡ true) → has_discipline own mutexes seen (x + suc k) ≡ true
      later true r h = let place : x + 1 + k ≡ x + suc k = omega arith in subst (λ n. has_discipline own mutexes seen n ≡ true) place (h r)
      later false r h = absurd (false≢true r)

pub verdict_is : (P : Program) → is_disciplined (verdict P) ≡ true → IsDisciplined P
verdict_is P e = go (creators P) refl e
  where
    deep : (b : Bool) → list_any is_too_deep (all_seen P) ≡ b →
        is_disciplined (if b then Doubt 0 [] else of_globals (owners P) (length P.mutexes) (all_seen P) (length P.globals) 0 P.globals) ≡ true → creators P ≡ [] → IsDisciplined P
    deep true q r none = absurd (false≢true r)
    deep false q r none = record {
      no_creator = none;
      not_deep = q;
      each = λ x less. (let here : 0 + x ≡ x = omega arith in
          subst (λ n. has_discipline (owners P) (length P.mutexes) (all_seen P) n ≡ true) here (globals_are (owners P) (length P.mutexes) (all_seen P) (length P.globals) P.globals 0 x r less));
    }

    go : (offsets : List ℕ) → creators P ≡ offsets → is_disciplined (of_creators P offsets) ≡ true → IsDisciplined P
    go [] q r = deep (list_any is_too_deep (all_seen P)) refl r q
    go (o ∷ os) q r = absurd (false≢true r)

-- ---- two accesses

-- what a discipline leaves of two accesses that are counted, one of them a write
pub data IsKeptApart (own : List ℕ) (a b : Access) : Type 0 where
  Own : (f : ℕ) → IsOne f own → a.function ≡ f → b.function ≡ f → IsKeptApart own a b
  Guard : (m : ℕ) → has a.held m ≡ true → has b.held m ≡ true → IsKeptApart own a b

not_true : (b : Bool) → not b ≡ true → b ≡ false
not_true true e = absurd (false≢true e)
not_true false e = refl

and_false : (a b : Bool) → a ≡ true → (a && b) ≡ false → b ≡ false
and_false true b p e = e
and_false false b p e = absurd (false≢true p)

or_true : (a b : Bool) → (a || b) ≡ true → (a ≡ true) ⊎ (b ≡ true)
or_true true b e = inl refl
or_true false b e = inr e

not_false : (b : Bool) → not b ≡ false → b ≡ true
not_false true e = refl
not_false false e = absurd (false≢true (sym e))

counted : (x : ℕ) (a : Access) → a.global ≡ x → a.quiet ≡ false → is_counted x a ≡ true
counted x a here loud =
    ap (λ (n : ℕ). nat_eq n x && not a.quiet) here ∙ ap (λ (b : Bool). b && not a.quiet) (eq-eqb x x refl) ∙ ap not loud

pub kept_apart : (own : List ℕ) (mutexes : ℕ) (seen : List Seen) (x : ℕ) (a b : Access) → has_discipline own mutexes seen x ≡ true → IsOne (Touches a) seen → IsOne (Touches b) seen →
    a.global ≡ x → b.global ≡ x → a.quiet ≡ false → b.quiet ≡ false → (a.written || b.written) ≡ true → IsKeptApart own a b
kept_apart own mutexes seen x a b e ina inb ga gb qa qb written =
    ⊎_elim
    (λ unwritten. (let none = not_true (list_any (is_write x) seen) unwritten in
    let wa : a.written ≡ false = and_false (is_counted x a) a.written (counted x a ga qa) (none_is (is_write x) seen (Touches a) none ina) in
    let wb : b.written ≡ false = and_false (is_counted x b) b.written (counted x b gb qb) (none_is (is_write x) seen (Touches b) none inb) in
    absurd (false≢true (sym (ap (λ (c : Bool). c || b.written) wa ∙ wb) ∙ written))))
    (λ rest.
    ⊎_elim
    (λ owned. (let some = any_is (λ f. not (list_any (is_others x f) seen)) own owned in
    let none = not_true (list_any (is_others x some.0) seen) some.2 in
    Own some.0 some.1
    (eqb-true a.function some.0
    (not_false (nat_eq a.function some.0)
    (and_false (is_counted x a) (not (nat_eq a.function some.0)) (counted x a ga qa) (none_is (is_others x some.0) seen (Touches a) none ina))))
    (eqb-true b.function some.0
    (not_false (nat_eq b.function some.0)
    (and_false (is_counted x b) (not (nat_eq b.function some.0)) (counted x b gb qb) (none_is (is_others x some.0) seen (Touches b) none inb))))))
    (λ guarded. (let some = any_is (λ m. not (list_any (lacks x m) seen)) (range_with_len 0 mutexes) guarded in
    let none = not_true (list_any (lacks x some.0) seen) some.2 in
    Guard some.0
    (not_false (has a.held some.0) (and_false (is_counted x a) (not (has a.held some.0)) (counted x a ga qa) (none_is (lacks x some.0) seen (Touches a) none ina)))
    (not_false (has b.held some.0) (and_false (is_counted x b) (not (has b.held some.0)) (counted x b gb qb) (none_is (lacks x some.0) seen (Touches b) none inb)))))
    (or_true (is_owned x seen own) (is_guarded x seen mutexes) rest))
    (or_true (not (list_any (is_write x) seen)) (is_owned x seen own || is_guarded x seen mutexes) e)
