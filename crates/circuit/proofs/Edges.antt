-- What an edge leaves behind registers that each take a wire's number, and other statements.
use Rattle.std.proofs.Common.{◌≡◌, ℕ, zero, suc, ◌+◌, ◌-◌, ◌<◌, ◌≤◌, List, [], ◌∷◌, ◌++◌, slice_get, Some, Bool, true, false, nat_eq, nat_lt, if◌then◌else◌, bit_and}
use Rattle.std.proofs.Common.{refl, sym, ap, ◌∙◌, subst, arith, add-zero, zero-add}
use Rattle.std.specs.Prelude.{not, ◌&&◌}
use Rattle.std.proofs.lemmas.Bool.Decides.{nat_tests}
use Rattle.verilog_meaning.specs.Residues.{bit_of}
use Rattle.netlist.specs.declared.netlist.Action.{Action}
use Rattle.netlist.specs.declared.netlist.Module.{Module}
use Rattle.netlist.specs.declared.netlist.Source.TheVariants as source
use Rattle.netlist.specs.declared.netlist.Effect.TheVariants as effect
use Rattle.netlist.specs.Sound.{IsSet}
use Rattle.verilog_meaning.specs.Readings.{Reading, is_on, set_by, stored_by, register_after, word_after, action_bytes}
use Rattle.circuit.specs.Rows.{EachOf, spread, set_at, sets}

pub register_after-append : (r : Reading) (xs ys : List Action) (k old : ℕ) → register_after r (xs ++ ys) k old ≡ register_after r ys k (register_after r xs k old)
register_after-append r [] ys k old = refl
register_after-append r (a ∷ xs) ys k old = register_after-append r xs ys k (if is_on r a.conditions then set_by r a.effect k old else old)

pub word_after-append : (r : Reading) (xs ys : List Action) (j k old : ℕ) → word_after r (xs ++ ys) j k old ≡ word_after r ys j k (word_after r xs j k old)
word_after-append r [] ys j k old = refl
word_after-append r (a ∷ xs) ys j k old = word_after-append r xs ys j k (if is_on r a.conditions then stored_by r a.effect j k old else old)

module _ (r : Reading) (register next : ℕ) where
  sets_before : (i c k old : ℕ) → k < register + i → register_after r (spread (set_at register next) i c) k old ≡ old
  sets_before i zero k old l = refl
  sets_before i (suc c) k old l =
      let t : nat_eq (register + i) k ≡ false = grind (arith, nat_tests) in
      ap (λ b. register_after r (spread (set_at register next) (i + 1) c) k (if b then r.signal (next + i) else old)) t
      ∙ sets_before (i + 1) c k old (omega arith)

  sets_from : (i c j k old : ℕ) → j < c → k ≡ register + (i + j) → register_after r (spread (set_at register next) i c) k old ≡ r.signal (next + (i + j))
  sets_from i zero j k old l e = absurd (omega arith)
  sets_from i (suc c) zero k old l e =
      let t : nat_eq (register + i) k ≡ true = let z : register + i ≡ k = omega arith in grind (arith, nat_tests) in
      let y : i ≡ i + 0 = omega arith in
      ap (λ b. register_after r (spread (set_at register next) (i + 1) c) k (if b then r.signal (next + i) else old)) t
      ∙ sets_before (i + 1) c k (r.signal (next + i)) (omega arith) ∙ ap (λ x. r.signal (next + x)) y
  sets_from i (suc c) (suc j) k old l e =
      let y : i + 1 + j ≡ i + suc j = omega arith in
      sets_from (i + 1) c j k (if nat_eq (register + i) k then r.signal (next + i) else old) (omega arith) (omega arith) ∙ ap (λ x. r.signal (next + x)) y

  -- each register has its next number
  pub sets_after : (c j old : ℕ) → j < c → register_after r (sets register next c) (register + j) old ≡ r.signal (next + j)
  sets_after c j old l =
      let z : register + j ≡ register + (0 + j) = omega arith in
      sets_from 0 c j (register + j) old l z ∙ ap (λ x. r.signal (next + x)) (zero-add j)

  pub sets_words : (i c m k old : ℕ) → word_after r (spread (set_at register next) i c) m k old ≡ old
  sets_words i zero m k old = refl
  sets_words i (suc c) m k old = sets_words (i + 1) c m k old

  -- they write nothing
  pub sets_print : (m : Module) (i c : ℕ) (rest : List Action) → action_bytes m r (spread (set_at register next) i c ++ rest) ≡ action_bytes m r rest
  sets_print m i zero rest = refl
  sets_print m i (suc c) rest = sets_print m (i + 1) c rest

-- one register that takes a wire's number
pub one_after : (r : Reading) (x y old : ℕ) → register_after r (sets x y 1) x old ≡ r.signal y
one_after r x y old =
    let z : x + 0 ≡ x = add-zero x in
    let t : nat_eq (x + 0) x ≡ true = grind (arith, nat_tests) in
    ap (λ b. if b then r.signal (y + 0) else old) t ∙ ap r.signal (add-zero y)

-- ---- wires that are bits

pub tested : (b : Bool) (t x y : ℕ) → t ≡ bit_of b → (if nat_eq t 0 then y else x) ≡ (if b then x else y)
tested true t x y e = ap (λ a. if nat_eq a 0 then y else x) e
tested false t x y e = ap (λ a. if nat_eq a 0 then y else x) e

pub both_bits : (b c : Bool) (x y : ℕ) → x ≡ bit_of b → y ≡ bit_of c → bit_and x y ≡ bit_of (b && c)
both_bits true true x y e f = ap (λ a. bit_and a y) e ∙ ap (bit_and 1) f
both_bits true false x y e f = ap (λ a. bit_and a y) e ∙ ap (bit_and 1) f
both_bits false true x y e f = ap (λ a. bit_and a y) e ∙ ap (bit_and 0) f
both_bits false false x y e f = ap (λ a. bit_and a y) e ∙ ap (bit_and 0) f

pub a_bit : (a : ℕ) → a < 2 → a ≡ bit_of (nat_lt 0 a)
a_bit zero l = refl
a_bit (suc zero) l = refl
a_bit (suc (suc a)) l = absurd (omega arith)

pub read_bit : (a : ℕ) → nat_eq a 0 ≡ not (nat_lt 0 a)
read_bit zero = refl
read_bit (suc a) = let t : nat_lt 0 (suc a) ≡ true = grind (arith, nat_tests) in let u : nat_eq (suc a) 0 ≡ false = grind (arith, nat_tests) in u ∙ ap not (sym t)

-- ---- each of some statements

pub each_joined : {X : Type 0} (P : X → Type 0) (xs ys : List X) → EachOf P xs → EachOf P ys → EachOf P (xs ++ ys)
each_joined P [] ys a b = b
each_joined P (x ∷ xs) ys a b = (a.0, each_joined P xs ys a.1 b)

pub each_spread : {X : Type 0} (P : X → Type 0) (f : ℕ → X) (i n : ℕ) → ((k : ℕ) → k < n → P (f (i + k))) → EachOf P (spread f i n)
each_spread P f i zero h = tt
each_spread P f i (suc n) h =
    let z : i + 0 ≡ i = omega arith in (
      subst (λ j. P (f j)) z (h 0 (omega arith)),
      each_spread P f (i + 1) n (λ k l. let y : i + suc k ≡ i + 1 + k = omega arith in subst (λ j. P (f j)) y (h (suc k) (omega arith))),
    )

-- a statement among some and before others
pub among : {X : Type 0} (f : ℕ → X) (i n : ℕ) (ys : List X) (k : ℕ) → k < n → slice_get (spread f i n ++ ys) k ≡ Some (f (i + k))
among f i zero ys k l = absurd (omega arith)
among f i (suc n) ys zero l = let e : i ≡ i + 0 = omega arith in ap (λ j. Some (f j)) e
among f i (suc n) ys (suc k) l = let e : i + 1 + k ≡ i + suc k = omega arith in among f (i + 1) n ys k (omega arith) ∙ ap (λ j. Some (f j)) e

-- each register that some statements set one after another is set
pub set_by_some : (m : Module) (register next c : ℕ) (rest : List Action) → m.actions ≡ sets register next c ++ rest → (x : ℕ) → register ≤ x → x < register + c → (n : ℕ)
    → IsSet m x (source.Register n)
set_by_some m register next c rest is x a b n =
    let k : ℕ = x - register in let l : k < c = omega arith in let z : register + (0 + k) ≡ x = omega arith in (
      k,
      set_at register next (0 + k),
      next + (0 + k),
      ap (λ (xs : List Action). slice_get xs k) is ∙ among (set_at register next) 0 c rest k l,
      ap (λ y. effect.Set y (next + (0 + k))) z,
    )
