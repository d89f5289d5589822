-- A grant to another thread leaves what a thread is told.
use Rattle.std.specs.Prelude.{Bool, true, false, not, nat_eq, nat_lt, if◌then◌else◌, slice_index, slice_set}
use Rattle.std.proofs.Common.{◌≡◌, ◌≢◌, ℕ, replicate, refl, ap, ◌∙◌, subst}
use Rattle.std.proofs.lemmas.Bool.{eq-eqb, both_ways, not-true}
use Rattle.std.proofs.lemmas.List.{get_or-set_other}
use Rattle.lists.proofs.Places.{zeros_at}
use Rattle.core_states.specs.Machines.{barrier_waited, with_waiter, total_of, IdTable}
use Rattle.core_states.specs.Laws.{RunnersStay, PassersStay}

abbrev Stays : IdTable → IdTable → ℕ → Type 0
Stays t u i = (slice_index u.statuses i ≡ 1) × (slice_index u.arguments i ≡ slice_index t.arguments i)

pub runners_stay : RunnersStay
runners_stay t i j operation id argument ne runs eligible = creates (nat_eq operation 0) eligible
  where
    joins : (c : Bool) → (if c then nat_eq (slice_index t.statuses id) 2 else true) ≡ true →
        Stays t (if c then record { statuses = slice_set t.statuses id 0; arguments = t.arguments } else record { statuses = slice_set t.statuses j 2; arguments = t.arguments }) i
    joins true e =
        let other : i ≢ id = λ same. absurd (let one : slice_index t.statuses id ≡ 1 = subst (λ k. slice_index t.statuses k ≡ 1) same runs in
        let d : nat_eq (slice_index t.statuses id) 2 ≡ nat_eq 1 2 = ap (λ n. nat_eq n 2) one in cc) in
        (get_or-set_other t.statuses id i 0 0 other ∙ runs, refl)
    joins false e = (get_or-set_other t.statuses j i 2 0 ne ∙ runs, refl)

    creates : (c : Bool) → (if c then not (nat_eq (slice_index t.statuses id) 1) else (if nat_eq operation 1 then nat_eq (slice_index t.statuses id) 2 else true)) ≡ true →
        Stays t
        (if c then record { statuses = slice_set t.statuses id 1; arguments = slice_set t.arguments id argument }
        else (if nat_eq operation 1 then record { statuses = slice_set t.statuses id 0; arguments = t.arguments } else record
        { statuses = slice_set t.statuses j 2; arguments = t.arguments })) i
    creates true e =
        let other : i ≢ id = λ same. absurd (both_ways (nat_eq (slice_index t.statuses id) 1)
        (not-true (nat_eq (slice_index t.statuses id) 1) e) (eq-eqb (slice_index t.statuses id) 1 (subst (λ k. slice_index t.statuses k ≡ 1) same runs))) in
        (get_or-set_other t.statuses id i 1 0 other ∙ runs, get_or-set_other t.arguments id i argument 0 other)
    creates false e = joins (nat_eq operation 1) e

pub passers_stay : PassersStay
passers_stay n g i j operation count ne passes = waits (nat_eq operation 1)
  where
    met : (b : Bool) → slice_index (if b then with_waiter g j else replicate n 0) i ≡ 0
    met true = get_or-set_other g.waiting j i 1 0 ne ∙ passes
    met false = zeros_at n i

    others : (b : Bool) → slice_index (if b then g else record { count = if nat_eq operation 0 then count else 0; waiting = replicate n 0 }).waiting i ≡ 0
    others true = passes
    others false = zeros_at n i

    waits : (b : Bool) →
        slice_index (if b then barrier_waited n g j else
        (if nat_eq operation 3 then g else record { count = if nat_eq operation 0 then count else 0; waiting = replicate n 0 })).waiting i ≡ 0
    waits true = met (nat_lt (total_of n (with_waiter g j)) g.count)
    waits false = others (nat_eq operation 3)
