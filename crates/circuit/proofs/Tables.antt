-- What holds of each signal of a list, by its place; and what an equation of a module says where its operands fit.
use Rattle.std.proofs.Common.{◌≡◌, ℕ, zero, suc, ◌+◌, ◌^◌, ◌<◌, ◌≤◌, Bool, true, false, List, [], ◌∷◌, ◌++◌, length, Option, Some, slice_get, nat_eq, nat_lt}
use Rattle.std.proofs.Common.{bit_and, bit_or, refl, sym, ap, ◌∙◌, subst, inl, inr, arith}
use Rattle.std.proofs.lemmas.Bool.Decides.{nat_tests}
use Rattle.std.proofs.Math.Nat.{mod-eq_of_lt}
use Rattle.verilog_meaning.specs.Residues.{bit_of}
use Rattle.verilog_meaning.specs.Words.{word}
use Rattle.verilog_tree.specs.declared.tree.BinaryOperator.{BinaryOperator}
use Rattle.verilog_tree.specs.declared.tree.BinaryOperator.TheVariants.{Add, Subtract, Multiply, And, Or, Xor, Equal, Less, ShiftLeft, ShiftRight}
use Rattle.netlist.specs.declared.netlist.Value.{Value}
use Rattle.netlist.specs.declared.netlist.Value.TheVariants.{Copy, Constant, BitwiseNot, Binary, SignedLess, ArithmeticShiftRight, Conditional, Division, SignedDivision}
use Rattle.netlist.specs.declared.netlist.Value.TheVariants.{MemoryRead, Select, Concatenation, Replication}
use Rattle.netlist.specs.declared.netlist.Source.{Source}
use Rattle.netlist.specs.declared.netlist.Source.TheVariants.{Input, Register, Assigned, Port}
use Rattle.netlist.specs.declared.netlist.Signal.{Signal}
use Rattle.netlist.specs.declared.netlist.Memory.{Memory}
use Rattle.netlist.specs.declared.netlist.Module.{Module}
use Rattle.verilog_meaning.specs.Readings.{Reading, value, width, binary, signal_width}
use Rattle.verilog_meaning.specs.Threads.{operands, IsOneOf}
use Rattle.circuit.specs.Rows.{spread}
use Rattle.circuit.specs.Modules.{Obeys, Has, FitsValue, FitsBinary, FitsParts, Reads, IsSoundSource, IsSound, is_between}

-- P of each signal of a list whose first has a place
abbrev pub EachFrom : (ℕ → Signal → Type 0) → ℕ → List Signal → Type 0
EachFrom P k [] = Unit {0}
EachFrom P k (s ∷ signals) = P k s × EachFrom P (k + 1) signals

pub each_at : (P : ℕ → Signal → Type 0) (k : ℕ) (signals : List Signal) → EachFrom P k signals → (x : ℕ) (s : Signal) → slice_get signals x ≡ Some s → P (k + x) s
each_at P k [] e x s q = absurd cc
each_at P k (t ∷ signals) e zero s q =
    let same : t ≡ s = cc in let z : k ≡ k + 0 = omega arith in
    subst (λ y. P y s) z (subst (P k) same e.0)
each_at P k (t ∷ signals) e (suc x) s q =
    let z : k + 1 + x ≡ k + suc x = omega arith in
    subst (λ y. P y s) z (each_at P (k + 1) signals e.1 x s q)

pub each_from : (P : ℕ → Signal → Type 0) (k : ℕ) (signals : List Signal) → ((x : ℕ) (s : Signal) → slice_get signals x ≡ Some s → P (k + x) s) → EachFrom P k signals
each_from P k [] h = tt
each_from P k (s ∷ signals) h =
    let z : k + 0 ≡ k = omega arith in (
      subst (λ x. P x s) z (h 0 s refl),
      each_from P (k + 1) signals (λ x t e. let y : k + suc x ≡ k + 1 + x = omega arith in subst (λ p. P p t) y (h (suc x) t e)),
    )

pub EachFrom-append : (P : ℕ → Signal → Type 0) (k : ℕ) (xs ys : List Signal) → EachFrom P k (xs ++ ys) → EachFrom P k xs × EachFrom P (k + length xs) ys
EachFrom-append P k [] ys e = let z : k ≡ k + 0 = omega arith in (tt, subst (λ x. EachFrom P x ys) z e)
EachFrom-append P k (x ∷ xs) ys e =
    let p = EachFrom-append P (k + 1) xs ys e.1 in
    let z : k + 1 + length xs ≡ k + length (x ∷ xs) = omega arith in
    ((e.0, p.0), subst (λ y. EachFrom P y ys) z p.1)

pub EachFrom-join : (P : ℕ → Signal → Type 0) (k : ℕ) (xs ys : List Signal) → EachFrom P k xs → EachFrom P (k + length xs) ys → EachFrom P k (xs ++ ys)
EachFrom-join P k [] ys a b = let z : k + 0 ≡ k = omega arith in subst (λ x. EachFrom P x ys) z b
EachFrom-join P k (x ∷ xs) ys a b =
    let z : k + length (x ∷ xs) ≡ k + 1 + length xs = omega arith in
    (a.0, EachFrom-join P (k + 1) xs ys a.1 (subst (λ y. EachFrom P y ys) z b))

pub each-spread : (P : ℕ → Signal → Type 0) (f : ℕ → Signal) (at i n : ℕ) → EachFrom P at (spread f i n) → (k : ℕ) → k < n → P (at + k) (f (i + k))
each-spread P f at i zero e k l = absurd (omega arith)
each-spread P f at i (suc n) e zero l =
    let a : at ≡ at + 0 = omega arith in let b : i ≡ i + 0 = omega arith in
    subst (λ x. P x (f (i + 0))) a (subst (λ j. P at (f j)) b e.0)
each-spread P f at i (suc n) e (suc k) l =
    let a : at + 1 + k ≡ at + suc k = omega arith in let b : i + 1 + k ≡ i + suc k = omega arith in
    subst (λ x. P x (f (i + suc k))) a (subst (λ j. P (at + 1 + k) (f j)) b (each-spread P f (at + 1) (i + 1) n e.1 k (omega arith)))

pub spread-each : (P : ℕ → Signal → Type 0) (f : ℕ → Signal) (at i n : ℕ) → ((k : ℕ) → k < n → P (at + k) (f (i + k))) → EachFrom P at (spread f i n)
spread-each P f at i zero h = tt
spread-each P f at i (suc n) h =
    let a : at + 0 ≡ at = omega arith in let b : i + 0 ≡ i = omega arith in (
      subst (λ x. P x (f i)) a (subst (λ j. P (at + 0) (f j)) b (h 0 (omega arith))),
      spread-each P f (at + 1) (i + 1) n (λ k l.
          let a : at + suc k ≡ at + 1 + k = omega arith in let b : i + suc k ≡ i + 1 + k = omega arith in
          subst (λ x. P x (f (i + 1 + k))) a (subst (λ j. P (at + suc k) (f j)) b (h (suc k) (omega arith)))),
    )

-- ---- what a right side says, where its operands fit

abbrev pub plain_binary : BinaryOperator → ℕ → ℕ → ℕ → ℕ
plain_binary And w a b = bit_and a b
plain_binary Or w a b = bit_or a b
plain_binary Equal w a b = bit_of (nat_eq a b)
plain_binary Less w a b = bit_of (nat_lt a b)
plain_binary operator w a b = binary operator w a b

abbrev pub plain : Module → Reading → Value → ℕ
plain m r (Binary operator x y) = plain_binary operator (width m x) (r.signal x) (r.signal y)
plain m r v = value m r v

abbrev pub ToldBy : Module → Reading → ℕ → Source → Type 0
ToldBy m r x (Assigned v) = r.signal x ≡ plain m r v
ToldBy m r x _ = Unit {0}

abbrev pub Told : Module → Reading → ℕ → Signal → Type 0
Told m r x s = ToldBy m r x s.source

pub width_is : (m : Module) (x w : ℕ) → Has m x w → width m x ≡ w
width_is m x w h = ap signal_width h.listed ∙ h.wide

word_below : (w a : ℕ) → a < 2 ^ w → word w a ≡ a
word_below w a l = mod-eq_of_lt l

module _ (m : Module) (r : Reading) (obeys : Obeys m r) where
  below : (x w : ℕ) → Has m x w → r.signal x < 2 ^ w
  below x w h = subst (λ v. r.signal x < 2 ^ v) h.wide (obeys.within x h.signal h.listed)

  -- a number that fits is its own word
  word_is : (x y w : ℕ) → Has m x w → Has m y w → word (width m x) (r.signal y) ≡ r.signal y
  word_is x y w h k = ap (λ v. word v (r.signal y)) (width_is m x w h) ∙ word_below w (r.signal y) (below y w k)

  both_words : (f : ℕ → ℕ → ℕ) (x y w : ℕ) → Has m x w → Has m y w → f (word (width m x) (r.signal x)) (word (width m x) (r.signal y)) ≡ f (r.signal x) (r.signal y)
  both_words f x y w h k = ap (λ a. f a (word (width m x) (r.signal y))) (word_is x x w h h) ∙ ap (f (r.signal x)) (word_is x y w h k)

  binary_plain : (operator : BinaryOperator) (w x y : ℕ) → FitsBinary (Has m) operator w x y
      → binary operator (width m x) (r.signal x) (r.signal y) ≡ plain_binary operator (width m x) (r.signal x) (r.signal y)
  binary_plain Add w x y f = refl
  binary_plain Subtract w x y f = refl
  binary_plain Multiply w x y f = refl
  binary_plain And w x y f = both_words bit_and x y w f.0 f.1
  binary_plain Or w x y f = both_words bit_or x y w f.0 f.1
  binary_plain Xor w x y f = refl
  binary_plain Equal w x y f = both_words (λ a b. bit_of (nat_eq a b)) x y f.1.0 f.1.1 f.1.2
  binary_plain Less w x y f = both_words (λ a b. bit_of (nat_lt a b)) x y f.1.0 f.1.1 f.1.2
  binary_plain ShiftLeft w x y f = refl
  binary_plain ShiftRight w x y f = refl

  value_plain : (memory : ℕ → Option Memory) (w : ℕ) (v : Value) → FitsValue (Has m) memory w v → value m r v ≡ plain m r v
  value_plain memory w (Binary operator x y) f = binary_plain operator w x y f
  value_plain memory w (Copy x) f = refl
  value_plain memory w (Constant n) f = refl
  value_plain memory w (BitwiseNot x) f = refl
  value_plain memory w (SignedLess x y) f = refl
  value_plain memory w (ArithmeticShiftRight x y) f = refl
  value_plain memory w (Conditional c x y) f = refl
  value_plain memory w (Division operator x y) f = refl
  value_plain memory w (SignedDivision operator x y) f = refl
  value_plain memory w (MemoryRead j x) f = refl
  value_plain memory w (Select x high low) f = refl
  value_plain memory w (Concatenation xs) f = refl
  value_plain memory w (Replication n x) f = refl

-- ---- what fits under one condition on the operands fits under one that follows for these

module _ (P Q : ℕ → ℕ → Type 0) where
  abbrev Weaker : List ℕ → Type 0
  Weaker xs = (y u : ℕ) → IsOneOf y xs → P y u → Q y u

  some_among : (xs : List ℕ) (x : ℕ) → IsOneOf x xs → Weaker xs → (v : ℕ) × P x v → (v : ℕ) × Q x v
  some_among xs x i h f = (f.0, h x f.0 i f.1)

  both_among : (x y : ℕ) → Weaker (x ∷ y ∷ []) → (v : ℕ) × P x v × P y v → (v : ℕ) × Q x v × Q y v
  both_among x y h f = (f.0, h x f.0 (inl refl) f.1, h y f.0 (inr (inl refl)) f.2)

  two_among : (w x y : ℕ) → Weaker (x ∷ y ∷ []) → P x w × P y w → Q x w × Q y w
  two_among w x y h f = (h x w (inl refl) f.0, h y w (inr (inl refl)) f.1)

  shift_among : (w x y : ℕ) → Weaker (x ∷ y ∷ []) → P x w × ((v : ℕ) × P y v) → Q x w × ((v : ℕ) × Q y v)
  shift_among w x y h f = (h x w (inl refl) f.0, some_among (x ∷ y ∷ []) y (inr (inl refl)) h f.1)

  binary_among : (operator : BinaryOperator) (w x y : ℕ) → Weaker (x ∷ y ∷ []) → FitsBinary P operator w x y → FitsBinary Q operator w x y
  binary_among Equal w x y h f = (f.0, both_among x y h f.1)
  binary_among Less w x y h f = (f.0, both_among x y h f.1)
  binary_among ShiftLeft w x y h f = shift_among w x y h f
  binary_among ShiftRight w x y h f = shift_among w x y h f
  binary_among Add w x y h f = two_among w x y h f
  binary_among Subtract w x y h f = two_among w x y h f
  binary_among Multiply w x y h f = two_among w x y h f
  binary_among And w x y h f = two_among w x y h f
  binary_among Or w x y h f = two_among w x y h f
  binary_among Xor w x y h f = two_among w x y h f

  parts_among : (xs : List ℕ) (w : ℕ) → Weaker xs → FitsParts P xs w → FitsParts Q xs w
  parts_among [] w h f = f
  parts_among (x ∷ xs) w h f = (f.0, f.1, h x f.0 (inl refl) f.2, parts_among xs f.1 (λ y u i p. h y u (inr i) p) f.3, f.4)

  pub fits_among : (memory : ℕ → Option Memory) (w : ℕ) (v : Value) → ((y u : ℕ) → IsOneOf y (operands v) → P y u → Q y u) → FitsValue P memory w v → FitsValue Q memory w v
  fits_among memory w (Copy x) h f = h x w (inl refl) f
  fits_among memory w (Constant n) h f = f
  fits_among memory w (BitwiseNot x) h f = h x w (inl refl) f
  fits_among memory w (Binary operator x y) h f = binary_among operator w x y h f
  fits_among memory w (SignedLess x y) h f = (f.0, both_among x y h f.1)
  fits_among memory w (ArithmeticShiftRight x y) h f = shift_among w x y h f
  fits_among memory w (Conditional c x y) h f = (h c 1 (inl refl) f.0, h x w (inr (inl refl)) f.1, h y w (inr (inr (inl refl))) f.2)
  fits_among memory w (Division operator x y) h f = two_among w x y h f
  fits_among memory w (SignedDivision operator x y) h f = two_among w x y h f
  fits_among memory w (MemoryRead j x) h f = (f.0, f.1, f.2, (f.3.0, h x f.3.0 (inl refl) f.3.1, f.3.2))
  fits_among memory w (Select x high low) h f = (f.0, f.1, (f.2.0, h x f.2.0 (inl refl) f.2.1, f.2.2))
  fits_among memory w (Concatenation xs) h f = parts_among xs w h f
  fits_among memory w (Replication n x) h f = (f.0, h x f.0 (inl refl) f.1, f.2)

module _ (P : ℕ → ℕ → Type 0) where
  -- each operand meets the condition
  some_of : (xs : List ℕ) (w : ℕ) → FitsParts P xs w → (y : ℕ) → IsOneOf y xs → (u : ℕ) × P y u
  some_of [] w f y i = absurd i
  some_of (x ∷ xs) w f y (inl e) = (f.0, subst (λ z. P z f.0) (sym e) f.2)
  some_of (x ∷ xs) w f y (inr i) = some_of xs f.1 f.3 y i

  one_of_one : (x u : ℕ) → P x u → (y : ℕ) → IsOneOf y (x ∷ []) → (u : ℕ) × P y u
  one_of_one x u p y (inl e) = (u, subst (λ z. P z u) (sym e) p)
  one_of_one x u p y (inr i) = absurd i

  one_of_two : (x z u v : ℕ) → P x u → P z v → (y : ℕ) → IsOneOf y (x ∷ z ∷ []) → (u : ℕ) × P y u
  one_of_two x z u v p q y (inl e) = (u, subst (λ k. P k u) (sym e) p)
  one_of_two x z u v p q y (inr i) = one_of_one z v q y i

  of_binary : (operator : BinaryOperator) (w x z : ℕ) → FitsBinary P operator w x z → (y : ℕ) → IsOneOf y (x ∷ z ∷ []) → (u : ℕ) × P y u
  of_binary Equal w x z f = one_of_two x z f.1.0 f.1.0 f.1.1 f.1.2
  of_binary Less w x z f = one_of_two x z f.1.0 f.1.0 f.1.1 f.1.2
  of_binary ShiftLeft w x z f = one_of_two x z w f.1.0 f.0 f.1.1
  of_binary ShiftRight w x z f = one_of_two x z w f.1.0 f.0 f.1.1
  of_binary Add w x z f = one_of_two x z w w f.0 f.1
  of_binary Subtract w x z f = one_of_two x z w w f.0 f.1
  of_binary Multiply w x z f = one_of_two x z w w f.0 f.1
  of_binary And w x z f = one_of_two x z w w f.0 f.1
  of_binary Or w x z f = one_of_two x z w w f.0 f.1
  of_binary Xor w x z f = one_of_two x z w w f.0 f.1

  one_of_three : (c x z u v k : ℕ) → P c u → P x v → P z k → (y : ℕ) → IsOneOf y (c ∷ x ∷ z ∷ []) → (u : ℕ) × P y u
  one_of_three c x z u v k p q t y (inl e) = (u, subst (λ j. P j u) (sym e) p)
  one_of_three c x z u v k p q t y (inr i) = one_of_two x z v k q t y i

  pub operand_of : (memory : ℕ → Option Memory) (w : ℕ) (v : Value) → FitsValue P memory w v → (y : ℕ) → IsOneOf y (operands v) → (u : ℕ) × P y u
  operand_of memory w (Copy x) f = one_of_one x w f
  operand_of memory w (Constant n) f = λ y i. absurd i
  operand_of memory w (BitwiseNot x) f = one_of_one x w f
  operand_of memory w (Binary operator x z) f = of_binary operator w x z f
  operand_of memory w (SignedLess x z) f = one_of_two x z f.1.0 f.1.0 f.1.1 f.1.2
  operand_of memory w (ArithmeticShiftRight x z) f = one_of_two x z w f.1.0 f.0 f.1.1
  operand_of memory w (Conditional c x z) f = one_of_three c x z 1 w w f.0 f.1 f.2
  operand_of memory w (Division operator x z) f = one_of_two x z w w f.0 f.1
  operand_of memory w (SignedDivision operator x z) f = one_of_two x z w w f.0 f.1
  operand_of memory w (MemoryRead j x) f = one_of_one x f.3.0 f.3.1
  operand_of memory w (Select x high low) f = one_of_one x f.2.0 f.2.1
  operand_of memory w (Concatenation xs) f = some_of xs w f
  operand_of memory w (Replication n x) f = one_of_one x f.0 f.1

-- ---- a module whose signals are sound

told : (m : Module) (r : Reading) (inputs : ℕ) (late : ℕ → Bool) (x w : ℕ) (source : Source) → Obeys m r → IsSoundSource m inputs late x w source → ((v : Value)
    → source ≡ Assigned v → r.signal x ≡ value m r v) → ToldBy m r x source
told m r inputs late x w Input obeys sound h = tt
told m r inputs late x w (Register n) obeys sound h = tt
told m r inputs late x w (Assigned v) obeys sound h =
    h v refl ∙ value_plain m r obeys (λ j. slice_get m.memories j) w v
    (fits_among (Reads m late x) (Has m) (λ j. slice_get m.memories j) w v (λ y u i h. h.has) sound)
told m r inputs late x w (Port i p) obeys sound h = tt

-- of each signal
pub all_told_at : (m : Module) (inputs : ℕ) (late : ℕ → Bool) → ((x : ℕ) (s : Signal) → slice_get m.signals x ≡ Some s → IsSound m inputs late x s)
    → (r : Reading) → Obeys m r → (x : ℕ) (s : Signal) → slice_get m.signals x ≡ Some s → Told m r x s
all_told_at m inputs late sound r obeys x s e = told m r inputs late x s.width s.source obeys (sound x s e) (λ v q. obeys.equations x s v e q)

-- ---- widths

pub has : (m : Module) (y : ℕ) (s : Signal) → slice_get m.signals y ≡ Some s → Has m y s.width
has m y s e = record { signal = s; listed = e; wide = refl }

-- ---- early and late places

pub between_on : (from until x : ℕ) → from ≤ x → x < until → is_between from until x ≡ true
between_on from until x a b =
    let t : nat_lt x from ≡ false = grind (arith, nat_tests) in let u : nat_lt x until ≡ true = grind (arith, nat_tests) in rw (t, u)

pub between_behind : (from until x : ℕ) → from ≤ x → until ≤ x → is_between from until x ≡ false
between_behind from until x a b =
    let t : nat_lt x from ≡ false = grind (arith, nat_tests) in let u : nat_lt x until ≡ false = grind (arith, nat_tests) in rw (t, u)
