-- Which of two faults is the first.
use Rattle.std.proofs.Common.{◌≡◌, refl, sym, subst, inl, inr, ℕ, Bool, true, false, Option, Some, None, arith}
use Rattle.std.specs.Prelude.{◌⊎◌, ◌||◌, ◌&&◌, nat_eq, nat_lt, if◌then◌else◌}
use Rattle.std.proofs.lemmas.Bool.Decides.{nat_tests}
use Rattle.std.proofs.lemmas.Option.{same_Some, none-some}
use Rattle.c_rules.specs.declared.fault.Fault.{Fault}
use Rattle.c_rules.specs.Faults.{number, is_before, first}

-- places and numbers in order
abbrev before : ℕ → ℕ → ℕ → ℕ → Bool
before a m b n = nat_lt a b || (nat_eq a b && nat_lt m n)

before_itself : (a m : ℕ) → before a m a m ≡ false
before_itself a m = grind (arith, nat_tests)

before_on : (a m b n c k : ℕ) → before a m b n ≡ false → before c k b n ≡ true → before a m c k ≡ false
before_on a m b n c k h e = grind (arith, nat_tests)

-- the fault is there, or one that is before it
pub record IsReached (x : Fault) (o : Option Fault) : Type 0 where
  pub f : Fault
  pub is : o ≡ Some f
  pub least : is_before x f ≡ false

chosen_reached : (x a b : Fault) (t : Bool) → is_before b a ≡ t → is_before x a ≡ false → IsReached x (if t then Some b else Some a)
chosen_reached x a b true e h = record {
  f = b;
  is = refl;
  least = before_on x.offset (number x.rule) a.offset (number a.rule) b.offset (number b.rule) h e;
}
chosen_reached x a b false e h = record { f = a; is = refl; least = h }

-- what is reached stays so
pub reached_first : (x : Fault) (a b : Option Fault) → IsReached x a → IsReached x (first a b)
unfolding first
reached_first x None b h = absurd (none-some h.f h.is)
reached_first x (Some a) None h = h
reached_first x (Some a) (Some b) h = chosen_reached x a b (is_before b a) refl (subst (λ f. is_before x f ≡ false) (sym (same_Some _ _ h.is)) h.least)

chosen_new : (x a : Fault) (t : Bool) → is_before x a ≡ t → IsReached x (if t then Some x else Some a)
chosen_new x a true e = record { f = x; is = refl; least = before_itself x.offset (number x.rule) }
chosen_new x a false e = record { f = a; is = refl; least = e }

-- and what is found is reached
pub reached_new : (x : Fault) (a : Option Fault) → IsReached x (first a (Some x))
unfolding first
reached_new x None = record { f = x; is = refl; least = before_itself x.offset (number x.rule) }
reached_new x (Some a) = chosen_new x a (is_before x a) refl

chosen_from : (a x f : Fault) (t : Bool) → (if t then Some x else Some a) ≡ Some f → (Some a ≡ Some f) ⊎ (x ≡ f)
chosen_from a x f true h = inr (same_Some _ _ h)
chosen_from a x f false h = inl h

-- a first fault was there before, or is the one that is found
pub first_from : (a : Option Fault) (x f : Fault) → first a (Some x) ≡ Some f → (a ≡ Some f) ⊎ (x ≡ f)
unfolding first
first_from None x f h = inr (same_Some _ _ h)
first_from (Some a) x f h = chosen_from a x f (is_before x a) h

later_on : (a m b n c k : ℕ) → before a m b n ≡ false → before b n c k ≡ false → before a m c k ≡ false
later_on a m b n c k h e = grind (arith, nat_tests)

chosen_second : (x a b : Fault) (t : Bool) → is_before b a ≡ t → is_before x b ≡ false → IsReached x (if t then Some b else Some a)
chosen_second x a b true e h = record { f = b; is = refl; least = h }
chosen_second x a b false e h = record {
  f = a;
  is = refl;
  least = later_on x.offset (number x.rule) b.offset (number b.rule) a.offset (number a.rule) h e;
}

chosen_two : (a b f : Fault) (t : Bool) → (if t then Some b else Some a) ≡ Some f → (Some a ≡ Some f) ⊎ (Some b ≡ Some f)
chosen_two a b f true h = inr h
chosen_two a b f false h = inl h

-- the second of two is there, or one that is before it
pub reached_second : (x : Fault) (a b : Option Fault) → IsReached x b → IsReached x (first a b)
unfolding first
reached_second x None b h = h
reached_second x (Some a) None h = absurd (none-some h.f h.is)
reached_second x (Some a) (Some b) h = chosen_second x a b (is_before b a) refl (subst (λ f. is_before x f ≡ false) (sym (same_Some _ _ h.is)) h.least)

-- a first fault is one of the two
pub first_of_two : (a b : Option Fault) (f : Fault) → first a b ≡ Some f → (a ≡ Some f) ⊎ (b ≡ Some f)
unfolding first
first_of_two None b f h = inr h
first_of_two (Some a) None f h = inl h
first_of_two (Some a) (Some b) f h = chosen_two a b f (is_before b a) h
