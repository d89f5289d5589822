-- The function that a thread runs; a function that exactly one thread runs is that of no two.
use Rattle.std.proofs.Common.{◌≡◌, ℕ, zero, suc, ◌+◌, ◌<◌, List, [], ◌∷◌, ◌++◌, length, filter, take, replicate, refl, sym, ◌∙◌, ap, subst, inl, inr, arith}
use Rattle.std.specs.Prelude.{Bool, true, false, cond, Option, Some, None, slice_get, sum_by}
use Rattle.std.specs.List.{flat_map, range_with_len}
use Rattle.std.proofs.lemmas.Bool.{false≢true, eq-eqb, eqb-true}
use Rattle.std.proofs.lemmas.List.Sums.{sum_by-cons}
use Rattle.lists.proofs.Places.{copies_front}
use Rattle.c_program.specs.declared.tree.ThreadObject.{ThreadObject}
use Rattle.c_program.specs.Tree.{Program}
use Rattle.c_program.specs.Weight.{hardware_routines}
use Rattle.thread_semantics.specs.Move.{first_thread}
use Rattle.lock_discipline.specs.Discipline.{runs_on, has_one_thread, owners}
use Rattle.lock_discipline.proofs.Verdicts.{IsOne}

-- ---- one that passes alone

module _ {A : Type 0} (p : A → Bool) where
  passed : (x : A) (xs : List A) (b : Bool) → b ≡ true → 0 < length (cond b (x ∷ filter p xs) (filter p xs))
  passed x xs true q = omega arith
  passed x xs false q = absurd (false≢true q)

  passed_later : (x : A) (xs : List A) (b : Bool) → 0 < length (filter p xs) → 0 < length (cond b (x ∷ filter p xs) (filter p xs))
  passed_later x xs true q = omega arith
  passed_later x xs false q = q

  some_passes : (xs : List A) (i : ℕ) (a : A) → slice_get xs i ≡ Some a → p a ≡ true → 0 < length (filter p xs)
  some_passes [] i a e h = absurd cc
  some_passes (x ∷ xs) zero a e h = let same : x ≡ a = cc in passed x xs (p x) (ap p same ∙ h)
  some_passes (x ∷ xs) (suc i) a e h = passed_later x xs (p x) (some_passes xs i a e h)

  twice : (x : A) (xs : List A) (b : Bool) → b ≡ true → length (cond b (x ∷ filter p xs) (filter p xs)) ≡ 1 → 0 < length (filter p xs) → ⊥
  twice x xs true q n more = omega (arith, n, more)
  twice x xs false q n more = false≢true q

  later : (x : A) (xs : List A) (b : Bool) → length (cond b (x ∷ filter p xs) (filter p xs)) ≡ 1 → 0 < length (filter p xs) → length (filter p xs) ≡ 1
  later x xs true n more = absurd (omega (arith, n, more))
  later x xs false n more = n

  once : (xs : List A) (i j : ℕ) (a b : A) → length (filter p xs) ≡ 1 → slice_get xs i ≡ Some a → p a ≡ true → slice_get xs j ≡ Some b → p b ≡ true → i ≡ j
  once [] i j a b n ati pa atj pb = absurd cc
  once (x ∷ xs) zero zero a b n ati pa atj pb = refl
  once (x ∷ xs) zero (suc j) a b n ati pa atj pb = let same : x ≡ a = cc in absurd (twice x xs (p x) (ap p same ∙ pa) n (some_passes xs j b atj pb))
  once (x ∷ xs) (suc i) zero a b n ati pa atj pb = let same : x ≡ b = cc in absurd (twice x xs (p x) (ap p same ∙ pb) n (some_passes xs i a ati pa))
  once (x ∷ xs) (suc i) (suc j) a b n ati pa atj pb = ap suc (once xs i j a b (later x xs (p x) n (some_passes xs i a ati pa)) ati pa atj pb)

-- ---- owners

from_filter : (p : ℕ → Bool) (xs : List ℕ) (a : ℕ) → IsOne a (filter p xs) → (p a ≡ true) × IsOne a xs
from_filter p [] a h = absurd h
from_filter p (x ∷ xs) a h = go (p x) refl h (from_filter p xs a)
  where
    go : (b : Bool) → p x ≡ b → IsOne a (cond b (x ∷ filter p xs) (filter p xs)) → (IsOne a (filter p xs) → (p a ≡ true) × IsOne a xs) → (p a ≡ true) × IsOne a (x ∷ xs)
    go true q (inl same) rest = (ap p (sym same) ∙ q, inl same)
    go true q (inr k) rest = ((rest k).0, inr (rest k).1)
    go false q k rest = ((rest k).0, inr (rest k).1)

below_range : (n from a : ℕ) → IsOne a (range_with_len from n) → a < from + n
below_range zero from a h = absurd h
below_range (suc n) from a (inl same) = omega (arith, same)
below_range (suc n) from a (inr k) = let rest = below_range n (from + 1) a k in omega (arith, rest)

-- ---- the routine at an element of a pthread_t object

get_right : {A : Type 0} (l j k : ℕ) (a : A) (rest : List A) → k ≡ l + j → slice_get (replicate l a ++ rest) k ≡ slice_get rest j
get_right zero j k a rest e = ap (slice_get rest) (let same : k ≡ j = omega (arith, e) in same)
get_right (suc l) j zero a rest e = absurd (omega (arith, e))
get_right (suc l) j (suc k) a rest e = get_right l j k a rest (omega (arith, e))

abbrev routines_of : List ThreadObject → List (Option ℕ)
routines_of os = flat_map (λ (object : ThreadObject). replicate object.length object.routine) os

abbrev elements_of : List ThreadObject → ℕ
elements_of os = sum_by (λ (object : ThreadObject). object.length) os

routine_at : (os : List ThreadObject) (x j k : ℕ) (o : ThreadObject) → slice_get os x ≡ Some o → j < o.length → k ≡ elements_of (take x os) + j →
    slice_get (routines_of os) k ≡ Some o.routine
routine_at [] x j k o e less at = absurd cc
routine_at (p ∷ os) zero j k o e less at =
    let same : p ≡ o = cc in
    let here : k ≡ j = omega (arith, at) in
    subst (λ z. slice_get (replicate p.length p.routine ++ routines_of os) z ≡ Some o.routine) (sym here)
    (copies_front p.length j p.routine (routines_of os) (subst (λ z. j < z.length) (sym same) less) ∙ ap (λ (z : ThreadObject). Some z.routine) same)
routine_at (p ∷ os) (suc x) j k o e less at =
    let whole = sum_by-cons (λ (object : ThreadObject). object.length) p (take x os) in
    get_right p.length (elements_of (take x os) + j) k p.routine (routines_of os) (omega (arith, at, whole))
    ∙ routine_at os x j (elements_of (take x os) + j) o e less refl

-- ---- who runs

-- of a thread that runs none, a number behind those of all functions
abbrev pub function_or : ℕ → Option (Option ℕ) → ℕ
function_or none (Some (Some f)) = f
function_or none (Some None) = none
function_or none None = none

module _ (P : Program) where
  -- the function that thread i runs
  abbrev pub runner : ℕ → ℕ
  runner i = function_or (length P.functions) (slice_get (hardware_routines P) i)

  runs : (i f : ℕ) → runner i ≡ f → f < length P.functions → slice_get (hardware_routines P) i ≡ Some (Some f)
  runs i f e less = go (slice_get (hardware_routines P) i) refl e
    where
      go : (o : Option (Option ℕ)) → slice_get (hardware_routines P) i ≡ o → function_or (length P.functions) o ≡ f → slice_get (hardware_routines P) i ≡ Some (Some f)
      go (Some (Some g)) q r = q ∙ ap (λ n. Some (Some n)) r
      go (Some None) q r = absurd (omega (arith, r, less))
      go None q r = absurd (omega (arith, r, less))

  one_thread : (i j f : ℕ) → has_one_thread P f ≡ true → f < length P.functions → runner i ≡ f → runner j ≡ f → i ≡ j
  one_thread i j f one less ri rj =
      once (runs_on f) (hardware_routines P) i j (Some f) (Some f)
      (eqb-true (length (filter (runs_on f) (hardware_routines P))) 1 one)
      (runs i f ri less) (eq-eqb f f refl) (runs j f rj less) (eq-eqb f f refl)

  -- two threads that run one owner are one
  pub owner_is_one : (i j f : ℕ) → IsOne f (owners P) → runner i ≡ f → runner j ≡ f → i ≡ j
  owner_is_one i j f own ri rj =
      let is = from_filter (has_one_thread P) (range_with_len 0 (length P.functions)) f own in
      let less = below_range (length P.functions) 0 f is.1 in
      one_thread i j f is.0 (omega (arith, less)) ri rj

  -- the thread of an element runs the routine of its object
  pub runner_is : (t place n r : ℕ) (object : ThreadObject) → slice_get P.threads t ≡ Some object → object.routine ≡ Some r → place < object.length →
      n ≡ first_thread P t + place → runner n ≡ r
  runner_is t place n r object at keeps inside is =
      let next : n ≡ suc (elements_of (take t P.threads) + place) = omega (arith, is) in
      ap (function_or (length P.functions))
      (subst (λ k. slice_get (hardware_routines P) k ≡ Some (Some r)) (sym next)
      (routine_at P.threads t place (elements_of (take t P.threads) + place) object at inside refl ∙ ap Some keeps))
