-- What the creates of a text give to the thread objects, where none names a second routine.
use Rattle.std.proofs.Common.{◌≡◌, refl, sym, ap, subst, ◌∙◌, inl, inr, ℕ, zero, suc, ◌<◌, Bool, true, false, List, [], ◌∷◌, length, Option, Some, None, eqb-true, eq-eqb, arith}
use Rattle.std.specs.Prelude.{◌⊎◌, nat_eq, if◌then◌else◌, fold, slice_get, slice_set, slice_index_or, Contains}
use Rattle.std.proofs.lemmas.Bool.{false≢true}
use Rattle.std.proofs.lemmas.Option.{same_Some, none-some}
use Rattle.std.proofs.lemmas.List.Elements.{Contains-append_right}
use Rattle.lists.proofs.Places.{set_elsewhere, set_there}
use Rattle.c_program.specs.declared.tree.ThreadObject.{ThreadObject}
use Rattle.c_rules.specs.declared.fault.Fault.{Fault}
use Rattle.c_rules.specs.declared.findings.Creation.{Creation}
use Rattle.c_rules.specs.Faults.{first}
use Rattle.c_resolution.specs.Routines as y
use Rattle.c_resolved_program.proofs.Walks.{first-none}
use Rattle.c_resolved_program.proofs.Graph.{first-second}

-- ---- one create

-- an object behind creates: of the same length, with the routine that it had, or that one of these gave it
pub record IsLater (object later : ThreadObject) (Given : ℕ → Type 0) : Type 0 where
  pub length : later.length ≡ object.length
  pub kept : (routine : ℕ) → object.routine ≡ Some routine → later.routine ≡ Some routine
  pub given : (routine : ℕ) → later.routine ≡ Some routine → (object.routine ≡ Some routine) ⊎ Given routine

-- for each object that is there behind them, one is there before them
abbrev pub AreLater : List ThreadObject → List ThreadObject → (ℕ → ℕ → Type 0) → Type 0
AreLater threads later Given =
    (k : ℕ) (o : ThreadObject) → slice_get later k ≡ Some o → (before : ThreadObject) × (slice_get threads k ≡ Some before) × IsLater before o (Given k)

same_later : (o : ThreadObject) (Given : ℕ → Type 0) → IsLater o o Given
same_later o Given = record { length = refl; kept = λ routine is. is; given = λ routine is. inl is }

abbrev By : Creation → ℕ → ℕ → Type 0
By c k routine = (k ≡ c.thread) × (routine ≡ c.routine)

set_later : (c : Creation) (object : ThreadObject) (threads : List ThreadObject) → slice_get threads c.thread ≡ Some object → object.routine ≡ None →
    AreLater threads (y.with_routine c.thread object c.routine threads) (By c)
set_later c object threads at none k o is = by (nat_eq c.thread k) refl
  where
    new : ThreadObject
    new = record { length = object.length; routine = Some c.routine }

    by : (b : Bool) → nat_eq c.thread k ≡ b → (before : ThreadObject) × (slice_get threads k ≡ Some before) × IsLater before o (By c k)
    by false apart = (o, sym (set_elsewhere threads c.thread k new (λ e. false≢true (sym apart ∙ eq-eqb c.thread k e))) ∙ is, same_later o (By c k))
    by true same =
        let e : c.thread ≡ k = eqb-true c.thread k same in
        let there = subst (λ n. slice_get (slice_set threads c.thread new) n ≡ Some new) e (set_there threads c.thread object new at) in
        let made : new ≡ o = same_Some new o (sym there ∙ is) in (
          object,
          subst (λ n. slice_get threads n ≡ Some object) e at,
          subst (λ x. IsLater object x (By c k)) made (record {
            length = refl;
            kept = λ routine had. absurd (none-some routine (sym (sym had ∙ none)));
            given = λ routine has. inr (sym e, sym (same_Some c.routine routine has));
          }),
        )

given_to_later : (c : Creation) (object : ThreadObject) (routine : Option ℕ) (threads : List ThreadObject) → slice_get threads c.thread ≡ Some object → object.routine ≡ routine →
    AreLater threads (y.given_to c object routine threads).0 (By c)
given_to_later c object None threads at is = set_later c object threads at is
given_to_later c object (Some routine) threads at is = λ k o here. (o, here, same_later o (By c k))

given_at_later : (c : Creation) (object : Option ThreadObject) (threads : List ThreadObject) → slice_get threads c.thread ≡ object → AreLater threads
    (y.given_at c object threads).0 (By c)
given_at_later c None threads at = λ k o here. (o, here, same_later o (By c k))
given_at_later c (Some object) threads at = given_to_later c object object.routine threads at refl

-- the routine that it names is that of its object
second_by : (b : Bool) (f : Fault) → (if b then None else Some f) ≡ None → b ≡ true
second_by true f h = refl
second_by false f h = absurd (none-some f (sym h))

given_to_there : (c : Creation) (object : ThreadObject) (routine : Option ℕ) (threads : List ThreadObject) → slice_get threads c.thread ≡ Some object → object.routine ≡ routine →
    (y.given_to c object routine threads).1 ≡ None → (o : ThreadObject) → slice_get (y.given_to c object routine threads).0 c.thread ≡ Some o → o.routine ≡ Some c.routine
given_to_there c object None threads at is none o here =
    let new : ThreadObject = record { length = object.length; routine = Some c.routine } in
    subst (λ (x : ThreadObject). x.routine ≡ Some c.routine) (same_Some new o (sym (set_there threads c.thread object new at) ∙ here)) refl
given_to_there c object (Some routine) threads at is none o here =
    let same = eqb-true routine c.routine (second_by (nat_eq routine c.routine) _ none) in
    ap (λ (x : ThreadObject). x.routine) (same_Some o object (sym here ∙ at)) ∙ is ∙ ap Some same

given_at_there : (c : Creation) (object : Option ThreadObject) (threads : List ThreadObject) → slice_get threads c.thread ≡ object → (y.given_at c object threads).1 ≡ None →
    (o : ThreadObject) → slice_get (y.given_at c object threads).0 c.thread ≡ Some o → o.routine ≡ Some c.routine
given_at_there c None threads at none o here = absurd (none-some o (sym (sym here ∙ at)))
given_at_there c (Some object) threads at none o here = given_to_there c object object.routine threads at refl none o here

-- ---- all creates

abbrev pub Among : List Creation → ℕ → ℕ → Type 0
Among list k routine = (c : Creation) × Contains list c × (k ≡ c.thread) × (routine ≡ c.routine)

later_on : (a b d : ThreadObject) (Given More All : ℕ → Type 0) → IsLater a b Given → IsLater b d More → ((r : ℕ) → Given r → All r) → ((r : ℕ) → More r → All r) → IsLater a d All
later_on a b d Given More All h k first next = record {
  length = k.length ∙ h.length;
  kept = λ routine is. k.kept routine (h.kept routine is);
  given = λ routine is. by routine (k.given routine is);
}
  where
    earlier : (routine : ℕ) → ((a.routine ≡ Some routine) ⊎ Given routine) → (a.routine ≡ Some routine) ⊎ All routine
    earlier routine (inl had) = inl had
    earlier routine (inr gave) = inr (first routine gave)

    by : (routine : ℕ) → ((b.routine ≡ Some routine) ⊎ More routine) → (a.routine ≡ Some routine) ⊎ All routine
    by routine (inl had) = earlier routine (h.given routine had)
    by routine (inr gave) = inr (next routine gave)

pub all_later : (list : List Creation) (threads : List ThreadObject) (fault : Option Fault) → AreLater threads (fold y.next_given (threads, fault) list).0 (Among list)
all_later [] threads fault k o here = (o, here, same_later o (Among [] k))
all_later (c ∷ list) threads fault k o here =
    let g = y.given c threads in
    let behind = all_later list g.0 (first fault g.1) k o here in
    let before = given_at_later c (slice_get threads c.thread) threads refl k behind.0 behind.1 in (
      before.0,
      before.1,
      later_on before.0 behind.0 o (By c k) (Among list k) (Among (c ∷ list) k) before.2 behind.2
          (λ r by. (c, (0, omega arith, refl), by.0, by.1)) (λ r among. (among.0, Contains-append_right (c ∷ []) list among.0 among.1, among.2, among.3)),
    )

pub all_none : (list : List Creation) (threads : List ThreadObject) (fault : Option Fault) → (fold y.next_given (threads, fault) list).1 ≡ None → fault ≡ None
all_none [] threads fault h = h
all_none (c ∷ list) threads fault h =
    let g = y.given c threads in
    first-none fault g.1 (all_none list g.0 (first fault g.1) h)

pub all_given : (list : List Creation) (threads : List ThreadObject) (fault : Option Fault) → (fold y.next_given (threads, fault) list).1 ≡ None →
    (c : Creation) (k : ℕ) → k < length list → slice_index_or list k c ≡ c →
    (o : ThreadObject) → slice_get (fold y.next_given (threads, fault) list).0 c.thread ≡ Some o → o.routine ≡ Some c.routine
all_given [] threads fault h c k lt is o here = absurd (omega arith)
all_given (x ∷ list) threads fault h c zero lt is o here =
    let g = y.given x threads in
    let quiet = first-second fault g.1 (all_none list g.0 (first fault g.1) h) in
    let at = subst (λ (z : Creation). slice_get (fold y.next_given (g.0, first fault g.1) list).0 z.thread ≡ Some o) (sym is) here in
    let behind = all_later list g.0 (first fault g.1) x.thread o at in
    subst (λ (z : Creation). o.routine ≡ Some z.routine) is
    (behind.2.kept x.routine (given_at_there x (slice_get threads x.thread) threads refl quiet behind.0 behind.1))
all_given (x ∷ list) threads fault h c (suc k) lt is o here =
    let g = y.given x threads in
    all_given list g.0 (first fault g.1) h c k (omega arith) is o here
