-- Creates keep the lengths of the thread objects.
use Rattle.std.proofs.Common.{◌≡◌, refl, sym, ap, ◌∙◌, ℕ, zero, suc, List, [], ◌∷◌, Option, Some, None, length}
use Rattle.std.specs.Prelude.{fold, slice_get, slice_set}
use Rattle.std.proofs.lemmas.Option.{same_Some}
use Rattle.std.proofs.lemmas.List.{length-set}
use Rattle.c_program.specs.declared.tree.ThreadObject.{ThreadObject}
use Rattle.c_program.specs.Resolved.{thread_length}
use Rattle.c_rules.specs.declared.fault.Fault.{Fault}
use Rattle.c_rules.specs.declared.findings.Creation.{Creation}
use Rattle.c_rules.specs.Faults.{first}
use Rattle.c_resolution.specs.Routines as y

set_length : (list : List ThreadObject) (k n : ℕ) (a b : ThreadObject) → slice_get list k ≡ Some a → b.length ≡ a.length →
    thread_length (slice_get (slice_set list k b) n) ≡ thread_length (slice_get list n)
set_length [] k n a b is same = refl
set_length (x ∷ list) zero zero a b is same = ap Some (same ∙ ap (λ (o : ThreadObject). o.length) (sym (same_Some x a is)))
set_length (x ∷ list) zero (suc n) a b is same = refl
set_length (x ∷ list) (suc k) zero a b is same = refl
set_length (x ∷ list) (suc k) (suc n) a b is same = set_length list k n a b is same

to_length : (c : Creation) (object : ThreadObject) (routine : Option ℕ) (threads : List ThreadObject) (n : ℕ) → slice_get threads c.thread ≡ Some object →
    thread_length (slice_get (y.given_to c object routine threads).0 n) ≡ thread_length (slice_get threads n)
to_length c object None threads n at =
    set_length threads c.thread n object (record { length = object.length; routine = Some c.routine }) at refl
to_length c object (Some routine) threads n at = refl

at_length : (c : Creation) (o : Option ThreadObject) (threads : List ThreadObject) (n : ℕ) → slice_get threads c.thread ≡ o →
    thread_length (slice_get (y.given_at c o threads).0 n) ≡ thread_length (slice_get threads n)
at_length c None threads n at = refl
at_length c (Some object) threads n at = to_length c object object.routine threads n at

pub given_lengths : (list : List Creation) (threads : List ThreadObject) (fault : Option Fault) (n : ℕ) →
    thread_length (slice_get (fold y.next_given (threads, fault) list).0 n) ≡ thread_length (slice_get threads n)
given_lengths [] threads fault n = refl
given_lengths (c ∷ list) threads fault n =
    let g = y.given c threads in
    given_lengths list g.0 (first fault g.1) n ∙ at_length c (slice_get threads c.thread) threads n refl

-- ---- and their number

to_count : (c : Creation) (object : ThreadObject) (routine : Option ℕ) (threads : List ThreadObject) → length (y.given_to c object routine threads).0 ≡ length threads
to_count c object None threads = length-set threads c.thread (record { length = object.length; routine = Some c.routine })
to_count c object (Some routine) threads = refl

at_count : (c : Creation) (o : Option ThreadObject) (threads : List ThreadObject) → length (y.given_at c o threads).0 ≡ length threads
at_count c None threads = refl
at_count c (Some object) threads = to_count c object object.routine threads

pub given_count : (list : List Creation) (threads : List ThreadObject) (fault : Option Fault) → length (fold y.next_given (threads, fault) list).0 ≡ length threads
given_count [] threads fault = refl
given_count (c ∷ list) threads fault =
    let g = y.given c threads in
    given_count list g.0 (first fault g.1) ∙ at_count c (slice_get threads c.thread) threads
