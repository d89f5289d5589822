-- What decides a reading that a module obeys, and that there is one.
use Rattle.std.proofs.Common.{◌≡◌, ℕ, zero, suc, ◌+◌, ◌*◌, ◌%◌, ◌^◌, ◌<◌, ◌≤◌, Bool, true, false, List, [], ◌∷◌, length, Option, Some, None, slice_get, nat_eq, nat_lt}
use Rattle.std.proofs.Common.{if◌then◌else◌, refl, sym, ap, ◌∙◌, subst, ⊎_elim, arith}
use Rattle.std.proofs.lemmas.Bool.{cases_lt}
use Rattle.std.proofs.lemmas.Bool.Decides.{nat_tests}
use Rattle.std.proofs.lemmas.Nat.{pow_pos, mod_below}
use Rattle.netlist.specs.declared.netlist.Value.{Value}
use Rattle.netlist.specs.declared.netlist.Value.TheVariants.{Copy, Constant, BitwiseNot, Binary, SignedLess, ArithmeticShiftRight, Conditional, Division, SignedDivision}
use Rattle.netlist.specs.declared.netlist.Value.TheVariants.{MemoryRead, Select, Concatenation, Replication}
use Rattle.netlist.specs.declared.netlist.Source.{Source}
use Rattle.netlist.specs.declared.netlist.Source.TheVariants.{Input, Register, Assigned, Port}
use Rattle.netlist.specs.declared.netlist.Signal.{Signal}
use Rattle.netlist.specs.declared.netlist.Memory.{Memory}
use Rattle.netlist.specs.declared.netlist.Module.{Module}
use Rattle.verilog_meaning.specs.Readings.{Reading, value, width, joined, memory_words}
use Rattle.verilog_meaning.specs.Cycles.{IsRegister}
use Rattle.verilog_meaning.specs.Threads.{operands, IsOneOf}
use Rattle.verilog_meaning.proofs.Operands as at
use Rattle.verilog_meaning.proofs.Operands.{same_value}
use Rattle.circuit.specs.Modules.{Obeys, Agree, FitsValue, Reads, IsSoundSource, IsLeaf}
use Rattle.circuit.proofs.Tables.{fits_among, operand_of}
use Rattle.circuit.proofs.Widths.{Fitting, value_below}
use Rattle.leaf_machine.specs.Settled.{number_from, number_at, filled, settled_reading, IsSlot}

-- ---- a right side has the same value in two readings that agree at its operands and within memories

-- a reading of these numbers
abbrev reading : (ℕ → ℕ) → (ℕ → ℕ → ℕ) → Reading
reading f g = record { signal = f; word = g }

same_read : (b : Bool) (x y : ℕ) → (b ≡ true → x ≡ y) → (if b then x else 0) ≡ (if b then y else 0)
same_read true x y h = h refl
same_read false x y h = refl

module _ (m : Module) where
  -- two readings have the same words within the memories
  abbrev pub SameWords : Reading → Reading → Type 0
  SameWords r q = (j k : ℕ) (t : Memory) → slice_get m.memories j ≡ Some t → k < length t.initial → r.word j k ≡ q.word j k

  word_same : (r q : Reading) → SameWords r q → (j n : ℕ) (o : Option Memory) → slice_get m.memories j ≡ o → nat_lt n (memory_words o) ≡ true → r.word j n ≡ q.word j n
  word_same r q same j n None e l = absurd (let f : n < 0 = grind (arith, nat_tests) in omega arith)
  word_same r q same j n (Some t) e l = same j n t e (let f : n < length t.initial = grind (arith, nat_tests) in f)

  joined_words : (f : ℕ → ℕ) (g h : ℕ → ℕ → ℕ) (xs : List ℕ) (above : ℕ) → joined m (reading f g) xs above ≡ joined m (reading f h) xs above
  joined_words f g h [] above = refl
  joined_words f g h (x ∷ xs) above = joined_words f g h xs (above * 2 ^ width m x + f x)

  value_words : (f : ℕ → ℕ) (g h : ℕ → ℕ → ℕ) → SameWords (reading f g) (reading f h) → (v : Value) → value m (reading f g) v ≡ value m (reading f h) v
  value_words f g h same (Copy x) = refl
  value_words f g h same (Constant n) = refl
  value_words f g h same (BitwiseNot x) = refl
  value_words f g h same (Binary operator x y) = refl
  value_words f g h same (SignedLess x y) = refl
  value_words f g h same (ArithmeticShiftRight x y) = refl
  value_words f g h same (Conditional c x y) = refl
  value_words f g h same (Division operator x y) = refl
  value_words f g h same (SignedDivision operator x y) = refl
  value_words f g h same (MemoryRead j x) =
      same_read (nat_lt (f x) (memory_words (slice_get m.memories j))) (g j (f x)) (h j (f x))
      (word_same (reading f g) (reading f h) same j (f x) (slice_get m.memories j) refl)
  value_words f g h same (Select x high low) = refl
  value_words f g h same (Concatenation xs) = joined_words f g h xs 0
  value_words f g h same (Replication n x) = refl

  pub value_same : (r q : Reading) (v : Value) → SameWords r q → ((y : ℕ) → IsOneOf y (operands v) → r.signal y ≡ q.signal y) → value m r v ≡ value m q v
  value_same r q v words same =
      let there : at.Agree (operands v) (reading r.signal q.word) q = record { signals = same; words = λ j k. refl } in
      value_words r.signal r.word q.word words v ∙ same_value m (reading r.signal q.word) q v there

-- ---- uniqueness

-- operand y of a signal at x, which stands before it
pub record Stands (m : Module) (Q : ℕ → Type 0) (x y : ℕ) : Type 0 where
  pub signal : Signal
  pub listed : slice_get m.signals y ≡ Some signal
  pub before : y < x
  pub is : Q y

abbrev pub IsPortless : Module → Type 0
IsPortless m = (x : ℕ) (s : Signal) (i p : ℕ) → slice_get m.signals x ≡ Some s → s.source ≡ Port i p → ⊥

-- signals of a kind read earlier ones of it alone
abbrev pub IsClosed : Module → (ℕ → Type 0) → Type 0
IsClosed m Q = (x : ℕ) (s : Signal) (v : Value) → slice_get m.signals x ≡ Some s → s.source ≡ Assigned v → Q x → (y : ℕ) → IsOneOf y (operands v) → Stands m Q x y

-- a reading meets the equations of a module
abbrev pub Meets : Module → Reading → Type 0
Meets m r = (x : ℕ) (s : Signal) (v : Value) → slice_get m.signals x ≡ Some s → s.source ≡ Assigned v → r.signal x ≡ value m r v

module _ (m : Module) (portless : IsPortless m) (Q : ℕ → Type 0) (closed : IsClosed m Q) (r q : Reading) (meets : Meets m r) (meets' : Meets m q) (agree : Agree m r q) (inputs : (x : ℕ)
    (s : Signal) → slice_get m.signals x ≡ Some s → s.source ≡ Input → Q x → r.signal x ≡ q.signal x) where
  source_same : (n : ℕ) → ((y : ℕ) (t : Signal) → y < n → slice_get m.signals y ≡ Some t → Q y → r.signal y ≡ q.signal y) → (x : ℕ) (s : Signal) → x < suc n
      → slice_get m.signals x ≡ Some s → Q x → (source : Source) → s.source ≡ source → r.signal x ≡ q.signal x
  source_same n below x s l e quiet Input is = inputs x s e is quiet
  source_same n below x s l e quiet (Register k) is = agree.registers x s e (subst IsRegister (sym is) tt)
  source_same n below x s l e quiet (Assigned v) is =
      meets x s v e is
      ∙ value_same m r q v agree.words (λ y i. let o = closed x s v e is quiet y i in below y o.signal (let b = o.before in omega arith) o.listed o.is)
      ∙ sym (meets' x s v e is)
  source_same n below x s l e quiet (Port i p) is = absurd (portless x s i p e is)

  all_same : (n x : ℕ) (s : Signal) → x < n → slice_get m.signals x ≡ Some s → Q x → r.signal x ≡ q.signal x
  all_same zero x s l e quiet = absurd (omega arith)
  all_same (suc n) x s l e quiet = source_same n (all_same n) x s l e quiet s.source refl

  -- two readings that meet a module's equations agree on a kind of signals if they do at its registers, words and inputs of the kind
  pub same_signal : (x : ℕ) (s : Signal) → slice_get m.signals x ≡ Some s → Q x → r.signal x ≡ q.signal x
  same_signal x s e quiet = all_same (suc x) x s (omega arith) e quiet

-- ---- of a leaf

module _ (m : Module) (inputs : ℕ) (late : ℕ → Bool) (leaf : IsLeaf m inputs late) where
  pub leaf_portless : IsPortless m
  leaf_portless x s i p e is = subst (IsSoundSource m inputs late x s.width) is (leaf.sound x s e)

  -- what a signal reads
  pub leaf_reads : (x : ℕ) (s : Signal) (v : Value) → slice_get m.signals x ≡ Some s → s.source ≡ Assigned v → (y : ℕ) → IsOneOf y (operands v) → (u : ℕ) × Reads m late x y u
  leaf_reads x s v e is =
      operand_of (Reads m late x) (λ j. slice_get m.memories j) s.width v (subst (IsSoundSource m inputs late x s.width) is (leaf.sound x s e))

  pub leaf_input : (x : ℕ) (s : Signal) → slice_get m.signals x ≡ Some s → s.source ≡ Input → x < inputs
  leaf_input x s e is = subst (IsSoundSource m inputs late x s.width) is (leaf.sound x s e)

  stays_early : (b c : Bool) → (b ≡ true → c ≡ true) → c ≡ false → b ≡ false
  stays_early true c h e = let t : c ≡ true = h refl in absurd cc
  stays_early false c h e = refl

  -- signals that are not late read none that is
  pub leaf_closed : IsClosed m (λ x. late x ≡ false)
  leaf_closed x s v e is quiet y i =
      let o = (leaf_reads x s v e is y i).1 in
      record { signal = o.has.signal; listed = o.has.listed; before = o.before; is = stays_early (late y) (late x) o.in_time quiet }

  -- two readings that the module obeys agree outside of the late signals if they do at registers, words and inputs that are not late
  pub same_early : (r q : Reading) → Obeys m r → Obeys m q → Agree m r q → ((x : ℕ) → x < inputs → late x ≡ false → r.signal x ≡ q.signal x) → (x : ℕ) (s : Signal)
      → slice_get m.signals x ≡ Some s → late x ≡ false → r.signal x ≡ q.signal x
  same_early r q a b agree given =
      same_signal m leaf_portless (λ x. late x ≡ false) leaf_closed r q a.equations b.equations agree (λ x s e is quiet. given x (leaf_input x s e is) quiet)

-- ---- the settled reading

module _ (m : Module) (given : ℕ → ℕ) (s : Reading) where
  pub settled-at : (x : ℕ) (t : Signal) → slice_get m.signals x ≡ Some t → (settled_reading m given s).signal x ≡ number_from m given s (filled m given s x) x t.width t.source
  unfolding settled_reading
  settled-at x t e = ap (number_at m given s (filled m given s x) x) e

  pub settled-word : (j k : ℕ) → (settled_reading m given s).word j k ≡ s.word j k
  unfolding settled_reading
  settled-word j k = refl

  pub settled-input : (x : ℕ) (t : Signal) → slice_get m.signals x ≡ Some t → t.source ≡ Input → (settled_reading m given s).signal x ≡ given x % 2 ^ t.width
  settled-input x t e is = settled-at x t e ∙ ap (number_from m given s (filled m given s x) x t.width) is

  kept : (before : ℕ → ℕ) (x w : ℕ) (source : Source) → IsRegister source → number_from m given s before x w source ≡ s.signal x
  kept before x w (Register n) i = refl
  kept before x w Input i = absurd i
  kept before x w (Assigned v) i = absurd i
  kept before x w (Port a b) i = absurd i

  pub settled-register : (x : ℕ) (t : Signal) → slice_get m.signals x ≡ Some t → IsRegister t.source → (settled_reading m given s).signal x ≡ s.signal x
  settled-register x t e i = settled-at x t e ∙ kept (filled m given s x) x t.width t.source i

  -- it is a reading of the state
  pub settled_agrees : Agree m s (settled_reading m given s)
  settled_agrees = record {
    registers = λ x t e i. sym (settled-register x t e i);
    words = λ j k t e l. sym (settled-word j k);
  }

  -- places that are filled have their numbers
  filled-below : (n y : ℕ) → y < n → filled m given s n y ≡ (settled_reading m given s).signal y
  unfolding settled_reading
  filled-below zero y l = absurd (omega arith)
  filled-below (suc n) y l =
      ⊎_elim
      (λ (b : y < n).
      let t : nat_eq y n ≡ false = grind (arith, nat_tests) in
      ap (λ c. if c then number_at m given s (filled m given s n) y (slice_get m.signals y) else filled m given s n y) t ∙ filled-below n y b)
      (λ (b : n ≤ y).
      let same : n ≡ y = omega arith in
      let t : nat_eq y n ≡ true = grind (arith, nat_tests) in
      ap (λ c. if c then number_at m given s (filled m given s n) y (slice_get m.signals y) else filled m given s n y) t
      ∙ ap (λ k. number_at m given s (filled m given s k) y (slice_get m.signals y)) same)
      (cases_lt y n)

  module _ (inputs : ℕ) (late : ℕ → Bool) (leaf : IsLeaf m inputs late) where
    pub settled_meets : Meets m (settled_reading m given s)
    settled_meets x t v e is =
        let r = reading (filled m given s x) s.word in
        settled-at x t e ∙ ap (number_from m given s (filled m given s x) x t.width) is
        ∙ value_same m r (settled_reading m given s) v (λ j k u f l. sym (settled-word j k))
        (λ y i. filled-below x y (leaf_reads m inputs late leaf x t v e is y i).1.before)

    module _ (slot : IsSlot m s) where
      pub settled_words : (j k : ℕ) (t : Memory) → slice_get m.memories j ≡ Some t → k < length t.initial → (settled_reading m given s).word j k < 2 ^ t.width
      settled_words j k t e l = subst (λ n. n < 2 ^ t.width) (sym (settled-word j k)) (slot.words j k t e l)

      source_within : (n : ℕ) → ((y : ℕ) (t : Signal) → y < n → slice_get m.signals y ≡ Some t → (settled_reading m given s).signal y < 2 ^ t.width) → (x : ℕ) (t : Signal) → x < suc n
          → slice_get m.signals x ≡ Some t → (source : Source) → t.source ≡ source → (settled_reading m given s).signal x < 2 ^ t.width
      source_within n below x t l e Input is =
          subst (λ k. k < 2 ^ t.width) (sym (settled-input x t e is)) (mod_below (given x) (2 ^ t.width) (pow_pos t.width))
      source_within n below x t l e (Register k) is =
          let i = subst IsRegister (sym is) tt in
          subst (λ k. k < 2 ^ t.width) (sym (settled-register x t e i)) (slot.registers x t e i)
      source_within n below x t l e (Assigned v) is =
          let fits : FitsValue (Reads m late x) (λ j. slice_get m.memories j) t.width v = subst (IsSoundSource m inputs late x t.width) is (leaf.sound x t e) in
          subst (λ k. k < 2 ^ t.width) (sym (settled_meets x t v e is))
          (value_below m (settled_reading m given s) settled_words t.width v
          (fits_among (Reads m late x) (Fitting m (settled_reading m given s)) (λ j. slice_get m.memories j) t.width v
          (λ y u i reads. record {
            has = reads.has;
            below = subst (λ k. (settled_reading m given s).signal y < 2 ^ k) reads.has.wide
                (below y reads.has.signal (let b = reads.before in omega arith) reads.has.listed);
          }) fits))
      source_within n below x t l e (Port i p) is = absurd (leaf_portless m inputs late leaf x t i p e is)

      all_within : (n x : ℕ) (t : Signal) → x < n → slice_get m.signals x ≡ Some t → (settled_reading m given s).signal x < 2 ^ t.width
      all_within zero x t l e = absurd (omega arith)
      all_within (suc n) x t l e = source_within n (all_within n) x t l e t.source refl

      -- the settled reading of a state obeys the module
      pub settled_obeys : Obeys m (settled_reading m given s)
      settled_obeys = record { equations = settled_meets; within = λ x t e. all_within (suc x) x t (omega arith) e }
