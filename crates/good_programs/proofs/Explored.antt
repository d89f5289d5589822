-- A program is good where a walk through all of its interleavings, of at most so many steps each, meets no step that is
-- undefined and no race.
use Rattle.std.proofs.Common.{◌≡◌, ◌≢◌, ℕ, zero, suc, ◌<◌, ◌≤◌, length, List, [], ◌∷◌, refl, ap, sym, ◌∙◌, subst, inl, inr, arith}
use Rattle.std.specs.Prelude.{◌⊎◌, Bool, true, false, not, ◌&&◌, ◌||◌, nat_eq, Option, Contains}
use Rattle.std.specs.List.{list_any}
use Rattle.std.proofs.lemmas.Bool.{and_parts, and_from, eq-eqb, ne_eqb, cases_lt, false≢true}
use Rattle.std.proofs.lemmas.Option.{slice_get_past}
use Rattle.c_program.specs.Tree.{Program}
use Rattle.thread_semantics.specs.declared.cause.UndefinedCause.{UndefinedCause}
use Rattle.thread_semantics.specs.Memory.{Location}
use Rattle.thread_semantics.specs.State.{Slot, State}
use Rattle.thread_semantics.specs.Step.{Stepped, Steps, Blocks, Undefines, slot_step, step, and_steps, after, is_blocked}
use Rattle.thread_semantics.specs.Races.{Touch, footprint, if_taken, thread_touched, Races, IsGood}
use Rattle.race_model.proofs.Ids.{ids_are_single}

abbrev all_below : ℕ → (ℕ → Bool) → Bool
all_below zero test = true
all_below (suc n) test = test n && all_below n test

abbrev clash : Touch → Touch → Bool
clash a b = nat_eq a.place.variable b.place.variable && (nat_eq a.place.index b.place.index && (a.written || b.written))

abbrev clashes : List Touch → List Touch → Bool
clashes ys zs = list_any (λ a. list_any (clash a) zs) ys

abbrev is_calm : Program → State → Bool
is_calm P s =
    all_below (length s.slots)
    (λ i. all_below (length s.slots) (λ j. nat_eq i j || not (clashes (footprint P s i) (footprint P s j))))

-- once main has returned no thread goes on
abbrev goes_well : Bool → Bool → Bool → Bool
goes_well true blocked explored = blocked
goes_well false blocked explored = explored

-- in each interleaving from here the steps are defined, nothing races, and main has returned after at most so many steps
abbrev pub explored : Program → ℕ → Stepped → Bool
explored P most (Undefines offset cause) = false
explored P most (Blocks cause) = true
explored P zero (Steps s) = false
explored P (suc most) (Steps s) =
    (s.ended || is_calm P s)
    && all_below (length s.slots) (λ i. goes_well s.ended (is_blocked (step P s i)) (explored P most (step P s i)))

at_or_before : (n : ℕ) (test : ℕ → Bool) (i : ℕ) → i < suc n → test n ≡ true → (i < n → test i ≡ true) → (i < n) ⊎ (n ≤ i) → test i ≡ true
at_or_before n test i l e before (inl less) = before less
at_or_before n test i l e before (inr more) = let same : n ≡ i = omega (arith, l, more) in subst (λ k. test k ≡ true) same e

below : (n : ℕ) (test : ℕ → Bool) → all_below n test ≡ true → (i : ℕ) → i < n → test i ≡ true
below zero test e i l = absurd (omega arith)
below (suc n) test e i l =
    let p = and_parts (test n) (all_below n test) e in
    at_or_before n test i l p.0 (λ less. below n test p.1 i less) (cases_lt i n)

any_from : {A : Type 0} (test : A → Bool) (xs : List A) (x : A) → Contains xs x → test x ≡ true → list_any test xs ≡ true
any_from test [] x c e = let l = c.1 in absurd (omega arith)
any_from test (y ∷ ys) x (zero, l, at) e = let f : test y ≡ true = subst (λ z. test z ≡ true) (sym at) e in cc
any_from test (y ∷ ys) x (suc k, l, at) e =
    let f : list_any test ys ≡ true = any_from test ys x (k, (omega (arith, l)), at) e in grind (arith, f)

blocked_stays : (P : Program) (o : Stepped) (list : List ℕ) (t : State) → is_blocked o ≡ true → and_steps P o list ≡ Steps t → ⊥
blocked_stays P (Steps s) list t e r = false≢true e
blocked_stays P (Undefines offset cause) list t e r = false≢true e
blocked_stays P (Blocks cause) [] t e r = cc
blocked_stays P (Blocks cause) (i ∷ list) t e r = cc

module _ (P : Program) where
  abbrev IsExplored : State → Type 0
  IsExplored t = (most : ℕ) × (explored P (suc most) (Steps t) ≡ true)

  onward : {R : Type 0} (ended : Bool) (o : Stepped) (most : ℕ) (list : List ℕ) (t : State) →
      goes_well ended (is_blocked o) (explored P most o) ≡ true → and_steps P o list ≡ Steps t → (explored P most o ≡ true → R) → R
  onward true o most list t e r next = absurd (blocked_stays P o list t e r)
  onward false o most list t e r next = next e

  -- what thread i does, where there is such a thread or none
  goes : (most : ℕ) (s : State) (i : ℕ) → explored P (suc most) (Steps s) ≡ true →
      goes_well s.ended (is_blocked (step P s i)) (explored P most (step P s i)) ≡ true
  goes most s i e = here (cases_lt i (length s.slots))
    where
      parts : ((s.ended || is_calm P s) ≡ true)
          × (all_below (length s.slots) (λ k. goes_well s.ended (is_blocked (step P s k)) (explored P most (step P s k))) ≡ true)
      parts = and_parts _ _ e

      both : (ended : Bool) → goes_well ended true true ≡ true
      both true = refl
      both false = refl

      here : (i < length s.slots) ⊎ (length s.slots ≤ i) → goes_well s.ended (is_blocked (step P s i)) (explored P most (step P s i)) ≡ true
      here (inl less) = below (length s.slots) _ parts.1 i less
      here (inr more) =
          subst (λ (o : Option Slot). goes_well s.ended (is_blocked (slot_step P s i o)) (explored P most (slot_step P s i o)) ≡ true)
          (sym (slice_get_past s.slots i more)) (both s.ended)

  reaches : (most : ℕ) (o : Stepped) (list : List ℕ) (t : State) → explored P most o ≡ true → and_steps P o list ≡ Steps t → IsExplored t
  reaches most (Undefines offset cause) list t e r = absurd (false≢true e)
  reaches most (Blocks cause) list t e r = absurd (blocked_stays P (Blocks cause) list t refl r)
  reaches zero (Steps s) list t e r = absurd (false≢true e)
  reaches (suc most) (Steps s) [] t e r = (most, subst (λ o. explored P (suc most) o ≡ true) r e)
  reaches (suc most) (Steps s) (i ∷ list) t e r =
      onward s.ended (step P s i) most list t (goes most s i e) r (λ f. reaches most (step P s i) list t f r)

  sure : (s : State) (i offset : ℕ) (cause : UndefinedCause) → IsExplored s → s.ended ≡ false → step P s i ≢ Undefines offset cause
  sure s i offset cause (most, e) x q =
      let g : goes_well s.ended (is_blocked (step P s i)) (explored P most (step P s i)) ≡ true = goes most s i e in
      let h : goes_well false false false ≡ true =
      subst (λ o. goes_well false (is_blocked o) (explored P most o) ≡ true) q
      (subst (λ b. goes_well b (is_blocked (step P s i)) (explored P most (step P s i)) ≡ true) x g) in
      false≢true h

  -- a thread that isn't there touches nothing
  within : (s : State) (i : ℕ) (a : Touch) → Contains (footprint P s i) a → i < length s.slots
  within s i a c = here (cases_lt i (length s.slots))
    where
      here : (i < length s.slots) ⊎ (length s.slots ≤ i) → i < length s.slots
      here (inl less) = less
      here (inr more) =
          let none : Contains [] a =
          subst (λ (o : Option Slot). Contains (if_taken (slot_step P s i o) (thread_touched P s o)) a) (slice_get_past s.slots i more) c in
          let l = none.1 in absurd (omega arith)

  same_place : (a b : Touch) (place : Location) → a.place ≡ place → b.place ≡ place → (a.written || b.written) ≡ true → clash a b ≡ true
  same_place a b place p q w =
      let v : nat_eq a.place.variable b.place.variable ≡ true = eq-eqb _ _ (ap (λ (l : Location). l.variable) (p ∙ sym q)) in
      let k : nat_eq a.place.index b.place.index ≡ true = eq-eqb _ _ (ap (λ (l : Location). l.index) (p ∙ sym q)) in
      and_from _ _ v (and_from _ _ k w)

  calm : (s : State) (i j : ℕ) (place : Location) → IsExplored s → s.ended ≡ false → Races P s i j place → ⊥
  calm s i j place (most, e) x r =
      let p : (s.ended || is_calm P s) ≡ true = (and_parts _ _ e).0 in
      let all : is_calm P s ≡ true = subst (λ b. (b || is_calm P s) ≡ true) x p in
      let one : (nat_eq i j || not (clashes (footprint P s i) (footprint P s j))) ≡ true =
      below (length s.slots) _ (below (length s.slots) _ all i (within s i r.first r.first_in)) j (within s j r.second r.second_in) in
      let meets : clash r.first r.second ≡ true = same_place r.first r.second place r.first_place r.second_place r.written in
      let found : clashes (footprint P s i) (footprint P s j) ≡ true =
      any_from (λ a. list_any (clash a) (footprint P s j)) (footprint P s i) r.first r.first_in
      (any_from (clash r.first) (footprint P s j) r.second r.second_in meets) in
      let apart : nat_eq i j ≡ false = ne_eqb i j r.apart in
      let w : (false || not true) ≡ true =
      subst (λ b. (b || not true) ≡ true) apart (subst (λ b. (nat_eq i j || not b) ≡ true) found one) in
      false≢true w

  pub explored_is_good : (most : ℕ) → explored P most (after P []) ≡ true → IsGood P
  explored_is_good most e = record {
    defined = defined;
    calm = λ list s i j place r x races. calm s i j place (reaches most (after P []) list s e r) x races;
    single = ids_are_single P defined;
  }
    where
      defined : (list : List ℕ) (s : State) (i offset : ℕ) (cause : UndefinedCause) → after P list ≡ Steps s → s.ended ≡ false → step P s i ≢ Undefines offset cause
      defined list s i offset cause r x = sure s i offset cause (reaches most (after P []) list s e r) x
