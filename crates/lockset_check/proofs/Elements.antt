-- How many elements of pthread_t objects run a function, one object after another.
use Rattle.std.proofs.Common.{◌≡◌, ◌≢◌, ℕ, zero, suc, ◌+◌, ◌-◌, ◌<◌, ◌≤◌, List, [], ◌∷◌, ◌++◌, length, filter, cond, replicate, refl, sym, ◌∙◌, ap, arith}
use Rattle.std.specs.Prelude.{Bool, true, false, nat_eq, Some}
use Rattle.std.proofs.lemmas.Bool.{false≢true, eq-eqb, eqb-true}
use Rattle.c_program.specs.declared.tree.ThreadObject.{ThreadObject}
use Rattle.c_program.specs.Tree.{Program}
use Rattle.c_program.specs.Weight.{names_routine}
use Rattle.lock_discipline.specs.Discipline.{runs_on, has_one_thread}
use Rattle.lockset_check.specs.Elements.{routines_of}

module _ {A : Type 0} (p : A → Bool) where
  copies_pass : (n : ℕ) (a : A) (rest : List A) → p a ≡ true → length (filter p (replicate n a ++ rest)) ≡ n + length (filter p rest)
  copies_pass zero a rest is = omega arith
  copies_pass (suc n) a rest is =
      let more = copies_pass n a rest is in
      let others = filter p (replicate n a ++ rest) in
      ap (λ (b : Bool). length (cond b (a ∷ others) others)) is ∙ omega (arith, more)

  copies_fail : (n : ℕ) (a : A) (rest : List A) → p a ≡ false → length (filter p (replicate n a ++ rest)) ≡ length (filter p rest)
  copies_fail zero a rest is = refl
  copies_fail (suc n) a rest is =
      let others = filter p (replicate n a ++ rest) in
      ap (λ (b : Bool). length (cond b (a ∷ others) others)) is ∙ copies_fail n a rest is

same_or_not : (a b c d : ℕ) → (a ≡ b → c ≡ d) → (c ≡ d → a ≡ b) → nat_eq a b ≡ nat_eq c d
same_or_not a b c d to from = go (nat_eq a b) (nat_eq c d) refl refl
  where
    eq : (x y : ℕ) → x ≡ y → nat_eq x y ≡ false → ⊥
    eq x y e q = false≢true (sym q ∙ eq-eqb x y e)

    go : (x y : Bool) → nat_eq a b ≡ x → nat_eq c d ≡ y → nat_eq a b ≡ nat_eq c d
    go true true p q = p ∙ sym q
    go true false p q = absurd (eq c d (to (eqb-true a b p)) q)
    go false true p q = absurd (eq a b (from (eqb-true c d q)) p)
    go false false p q = p ∙ sym q

differ : (a b : ℕ) → (a ≡ b → ⊥) → nat_eq a b ≡ false
differ a b apart = go (nat_eq a b) refl
  where
    go : (x : Bool) → nat_eq a b ≡ x → nat_eq a b ≡ false
    go true p = absurd (apart (eqb-true a b p))
    go false p = p

-- an object that has another routine, or none
pub other : (f count : ℕ) (object : ThreadObject) (rest : List ThreadObject) → names_routine f object ≡ false →
    nat_eq (length (filter (runs_on f) (routines_of (object ∷ rest)))) count ≡ nat_eq (length (filter (runs_on f) (routines_of rest))) count
other f count object rest is = ap (λ (n : ℕ). nat_eq n count) (copies_fail (runs_on f) object.length object.routine (routines_of rest) is)

-- one that has it, of no more elements than are asked for
pub named : (f count : ℕ) (object : ThreadObject) (rest : List ThreadObject) → names_routine f object ≡ true → object.length ≤ count →
    nat_eq (length (filter (runs_on f) (routines_of (object ∷ rest)))) count ≡ nat_eq (length (filter (runs_on f) (routines_of rest))) (count - object.length)
named f count object rest is less =
    let whole = copies_pass (runs_on f) object.length object.routine (routines_of rest) is in
    same_or_not (length (filter (runs_on f) (routines_of (object ∷ rest)))) count (length (filter (runs_on f) (routines_of rest))) (count - object.length)
    (λ e. omega (arith, e, whole, less)) (λ e. omega (arith, e, whole, less))

-- and of more
pub named_beyond : (f count : ℕ) (object : ThreadObject) (rest : List ThreadObject) → names_routine f object ≡ true → count < object.length →
    nat_eq (length (filter (runs_on f) (routines_of (object ∷ rest)))) count ≡ false
named_beyond f count object rest is more =
    let whole = copies_pass (runs_on f) object.length object.routine (routines_of rest) is in
    differ (length (filter (runs_on f) (routines_of (object ∷ rest)))) count (λ e. omega (arith, e, whole, more))

pub none_left : (f count : ℕ) → nat_eq (length (filter (runs_on f) (routines_of []))) count ≡ nat_eq count 0
none_left f count = same_or_not 0 count count 0 (λ e. sym e) (λ e. sym e)

-- main runs it, and so does no element
pub of_main : (P : Program) (f : ℕ) → P.main ≡ f → has_one_thread P f ≡ nat_eq (length (filter (runs_on f) (routines_of P.threads))) 0
of_main P f is =
    let others = filter (runs_on f) (routines_of P.threads) in
    ap (λ (b : Bool). nat_eq (length (cond b (Some P.main ∷ others) others)) 1) (eq-eqb P.main f is)
    ∙ same_or_not (suc (length others)) 1 (length others) 0 (λ e. omega (arith, e)) (λ e. omega (arith, e))

pub of_elements : (P : Program) (f : ℕ) → P.main ≢ f → has_one_thread P f ≡ nat_eq (length (filter (runs_on f) (routines_of P.threads))) 1
of_elements P f apart =
    let others = filter (runs_on f) (routines_of P.threads) in
    ap (λ (b : Bool). nat_eq (length (cond b (Some P.main ∷ others) others)) 1) (differ P.main f apart)
