-- The states of a mutex and their words; what may be granted, and what a grant does.
use Rattle.std.proofs.Common.{◌≡◌, ℕ, zero, suc, Bool, true, false, nat_eq, nat_lt, if◌then◌else◌, refl, sym, ap, ◌∙◌, arith}
use Rattle.std.specs.Prelude.{not, ◌&&◌}
use Rattle.std.proofs.lemmas.Bool.Decides.{nat_tests}
use Rattle.std.proofs.lemmas.Bool.{eqb-true, and_right, and_left}
use Rattle.hls_ints.specs.Residues.{bit_of}
use Rattle.core_states.specs.Machines.{CoreMutex, Unset, Free, Owned, is_owned, mutex_eligible, mutex_after}
use Rattle.mutex_cores.specs.declared.mutex.Shape.{Shape}
use Rattle.mutex_cores.specs.Mutex.{owner, first_word}
use Rattle.mutex_cores.specs.Machine.{Ask, initial_mutex, mutex_machine, word_of_mutex}
use Rattle.mutex_cores.specs.Laws.{IsBlocked, Silent, Taken, LockBlocked, LockIsGranted, MutexWaits}

-- ---- words

abbrev pub mutex_of_word : ℕ → CoreMutex
mutex_of_word zero = Unset
mutex_of_word (suc zero) = Free
mutex_of_word (suc (suc i)) = Owned i

pub word_is : (x : ℕ) → x ≡ word_of_mutex (mutex_of_word x)
word_is zero = refl
word_is (suc zero) = refl
word_is (suc (suc i)) = omega arith

pub is_taken : (s : CoreMutex) → nat_lt 1 (word_of_mutex s) ≡ is_owned s
is_taken Unset = refl
is_taken Free = refl
is_taken (Owned i) = grind (arith, nat_tests)

pub word_if : (b : Bool) (x y : CoreMutex) → word_of_mutex (if b then x else y) ≡ (if b then word_of_mutex x else word_of_mutex y)
word_if true x y = refl
word_if false x y = refl

pub first_is : (b : Bool) → first_word b ≡ word_of_mutex (initial_mutex b)
first_is true = refl
first_is false = refl

-- ---- tests

pub offered : (b c : Bool) → (if b then 0 else bit_of c) ≡ bit_of (c && not b)
offered true true = refl
offered true false = refl
offered false true = refl
offered false false = refl

-- ---- what blocks

blocked_by : (s : CoreMutex) (a : Ask) (b c : Bool) → a.asks ≡ b → nat_eq a.operation 1 ≡ c → (b && not (c && is_owned s)) ≡ false → IsBlocked s a
blocked_by s a false c p q e = Silent p
blocked_by s a true false p q e = absurd cc
blocked_by Unset a true true p q e = absurd cc
blocked_by Free a true true p q e = absurd cc
blocked_by (Owned j) a true true p q e = Taken (eqb-true a.operation 1 q) j refl

blocks : (shape : Shape) (s : CoreMutex) (i : ℕ) (a : Ask) → IsBlocked s a → (mutex_machine shape).eligible s i a ≡ false
blocks shape s i a (Silent e) = and_left a.asks (mutex_eligible s a.operation) e
blocks shape s i a (Taken e j o) =
    and_right a.asks (mutex_eligible s a.operation)
    (ap (λ x. not (nat_eq x 1 && is_owned s)) e ∙ ap (λ (l : CoreMutex). not (nat_eq 1 1 && is_owned l)) o)

pub lock_blocked : LockBlocked
lock_blocked shape s i a = record {
  why = λ e. blocked_by s a a.asks (nat_eq a.operation 1) refl refl e;
  so = blocks shape s i a;
}

-- ---- what a grant does

free_for : (a : Bool) (s : CoreMutex) (operation : ℕ) → (a && mutex_eligible s operation) ≡ true → operation ≡ 1 → is_owned s ≡ false
free_for false s operation e o = absurd cc
free_for true Unset operation e o = refl
free_for true Free operation e o = refl
free_for true (Owned j) operation e o = absurd (let x : not (nat_eq 1 1 && true) ≡ true = ap (λ k. not (nat_eq k 1 && true)) (sym o) ∙ e in cc)

pub lock_is_granted : LockIsGranted
lock_is_granted shape s i a e = record {
  unowned = free_for a.asks s a.operation e;
  locked = λ o. ap (mutex_after s i) o;
  begun = λ o. ap (mutex_after s i) o;
  unlocked = λ o. ap (mutex_after s i) o;
  destroyed = λ o. ap (mutex_after s i) o;
  held = λ o j b q. and_right b.asks (mutex_eligible (mutex_after s i a.operation) b.operation)
      (ap (λ x. not (nat_eq b.operation 1 && is_owned (mutex_after s i x))) o ∙ ap (λ x. not (nat_eq x 1 && true)) q);
}

pub mutex_waits : MutexWaits
mutex_waits shape = record {
  shown = λ r. (mutex_of_word (r.signal (owner shape.threads)), word_is (r.signal (owner shape.threads)));
  some = omega arith;
  asked = λ s i f e. and_left (nat_lt 0 (f 0)) (mutex_eligible s (f 1)) (ap (nat_lt 0) e);
}
