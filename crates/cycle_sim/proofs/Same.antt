-- What a cycle leads to and writes hangs on registers and memory words alone.
use Rattle.std.specs.Prelude.{◌≡◌, ℕ, ◌+◌, ◌*◌, ◌^◌, ◌<◌, Bool, true, false, ◌&&◌, nat_lt, List, [], ◌∷◌, ◌++◌, length, Option, Some, None, slice_get, if◌then◌else◌, refl}
use Rattle.std.proofs.Common.{ap, sym, ◌∙◌, subst, inl, inr, ⊎_elim, arith}
use Rattle.std.proofs.lemmas.Bool.Decides.{nat_tests}
use Rattle.std.proofs.lemmas.List.{append-nil, append_assoc}
use Rattle.netlist.specs.declared.netlist.Value.{Value}
use Rattle.netlist.specs.declared.netlist.Value.TheVariants as v
use Rattle.netlist.specs.declared.netlist.Source.{Source}
use Rattle.netlist.specs.declared.netlist.Source.TheVariants as source
use Rattle.netlist.specs.declared.netlist.Signal.{Signal}
use Rattle.netlist.specs.declared.netlist.Memory.{Memory}
use Rattle.netlist.specs.declared.netlist.Argument.{Argument}
use Rattle.netlist.specs.declared.netlist.Argument.TheVariants.{Unsigned, Signed}
use Rattle.netlist.specs.declared.netlist.Effect.{Effect}
use Rattle.netlist.specs.declared.netlist.Effect.TheVariants as effect
use Rattle.netlist.specs.declared.netlist.Action.{Action}
use Rattle.netlist.specs.declared.netlist.Module.{Module}
use Rattle.verilog_meaning.specs.Readings.{Reading, Plain, width, value, joined, memory_words, is_on, set_by, stored_by}
use Rattle.verilog_meaning.specs.Readings.{register_after, word_after, argument_bytes, all_arguments, effect_bytes, action_bytes, filled}
use Rattle.verilog_meaning.specs.Cycles.{Path, Valuation, Choice, IsRegister, module_at, IsAt, HasMemory, number, input_number}
use Rattle.verilog_meaning.specs.Cycles.{IsSettled, IsSameIn, next_at, next_state, written_at, IsWritten, Cycle, Runs, ShowsDone}

-- ---- one module: the same signals, and other words

abbrev pub with_words : Reading → (ℕ → ℕ → ℕ) → Reading
with_words r words = record { signal = r.signal; word = words }

module _ (m : Module) (r : Reading) (words : ℕ → ℕ → ℕ) where
  abbrev other : Reading
  other = with_words r words

  -- the words are the same where there are any
  abbrev AreSame : Type 0
  AreSame = (j k : ℕ) (s : Memory) → slice_get m.memories j ≡ Some s → k < length s.initial → r.word j k ≡ words j k

  read_same : AreSame → (j y : ℕ) (o : Option Memory) → slice_get m.memories j ≡ o → (b : Bool) → nat_lt y (memory_words o) ≡ b → (if b then r.word j y else 0) ≡ (if b then words j y else 0)
  read_same same j y o e false q = refl
  read_same same j y None e true q = absurd (let l : y < 0 = grind (arith, nat_tests) in omega (arith, l))
  read_same same j y (Some s) e true q = same j y s e (let l : y < length s.initial = grind (arith, nat_tests) in l)

  joined_same : (xs : List ℕ) (above : ℕ) → joined m r xs above ≡ joined m other xs above
  joined_same [] above = refl
  joined_same (x ∷ xs) above = joined_same xs (above * 2 ^ width m x + r.signal x)

  value_same : AreSame → (a : Value) → value m r a ≡ value m other a
  value_same same (v.Copy x) = refl
  value_same same (v.Constant n) = refl
  value_same same (v.BitwiseNot x) = refl
  value_same same (v.Binary operator x y) = refl
  value_same same (v.SignedLess x y) = refl
  value_same same (v.ArithmeticShiftRight x y) = refl
  value_same same (v.Conditional c x y) = refl
  value_same same (v.Division operator x y) = refl
  value_same same (v.SignedDivision operator x y) = refl
  value_same same (v.MemoryRead j x) = read_same same j (r.signal x) (slice_get m.memories j) refl (nat_lt (r.signal x) (memory_words (slice_get m.memories j))) refl
  value_same same (v.Select x high low) = refl
  value_same same (v.Concatenation xs) = joined_same xs 0
  value_same same (v.Replication n x) = refl

  on_same : (xs : List ℕ) → is_on r xs ≡ is_on other xs
  on_same [] = refl
  on_same (x ∷ xs) = ap (λ b. nat_lt 0 (r.signal x) && b) (on_same xs)

  set_same : (e : Effect) (k old : ℕ) → set_by r e k old ≡ set_by other e k old
  set_same (effect.Set x y) k old = refl
  set_same (effect.Store j x y) k old = refl
  set_same (effect.Write text arguments) k old = refl

  stored_same : (e : Effect) (j k old : ℕ) → stored_by r e j k old ≡ stored_by other e j k old
  stored_same (effect.Set x y) j k old = refl
  stored_same (effect.Store i x y) j k old = refl
  stored_same (effect.Write text arguments) j k old = refl

  register_same : (actions : List Action) (k old : ℕ) → register_after r actions k old ≡ register_after other actions k old
  register_same [] k old = refl
  register_same (a ∷ actions) k old =
      ap (λ b. register_after r actions k (if b then set_by r a.effect k old else old)) (on_same a.conditions)
      ∙ ap (λ z. register_after r actions k (if is_on other a.conditions then z else old)) (set_same a.effect k old)
      ∙ register_same actions k (if is_on other a.conditions then set_by other a.effect k old else old)

  word_same : (actions : List Action) (j k old : ℕ) → word_after r actions j k old ≡ word_after other actions j k old
  word_same [] j k old = refl
  word_same (a ∷ actions) j k old =
      ap (λ b. word_after r actions j k (if b then stored_by r a.effect j k old else old)) (on_same a.conditions)
      ∙ ap (λ z. word_after r actions j k (if is_on other a.conditions then z else old)) (stored_same a.effect j k old)
      ∙ word_same actions j k (if is_on other a.conditions then stored_by other a.effect j k old else old)

  argument_same : (a : Argument) → argument_bytes m r a ≡ argument_bytes m other a
  argument_same (Unsigned x) = refl
  argument_same (Signed x) = refl

  arguments_same : (arguments : List Argument) → all_arguments m r arguments ≡ all_arguments m other arguments
  arguments_same [] = refl
  arguments_same (a ∷ arguments) = ap (λ z. z ∷ all_arguments m r arguments) (argument_same a) ∙ ap (λ l. argument_bytes m other a ∷ l) (arguments_same arguments)

  effect_same : (e : Effect) → effect_bytes m r e ≡ effect_bytes m other e
  effect_same (effect.Set x y) = refl
  effect_same (effect.Store j x y) = refl
  effect_same (effect.Write text arguments) = ap (filled Plain text) (arguments_same arguments)

  bytes_same : (actions : List Action) → action_bytes m r actions ≡ action_bytes m other actions
  bytes_same [] = refl
  bytes_same (a ∷ actions) =
      ap (λ b. (if b then effect_bytes m r a.effect else []) ++ action_bytes m r actions) (on_same a.conditions)
      ∙ ap (λ z. (if is_on other a.conditions then z else []) ++ action_bytes m r actions) (effect_same a.effect)
      ∙ ap (λ l. (if is_on other a.conditions then effect_bytes m other a.effect else []) ++ l) (bytes_same actions)

-- ---- the net

module _ (modules : List Module) (top : Module) where
  pub same_refl : (h : Valuation) → IsSameIn modules top [] h h
  same_refl h = record { registers = λ path m x s at i. refl; words = λ path m j k s at l. refl }

  pub same_trans : (h g k : Valuation) → IsSameIn modules top [] h g → IsSameIn modules top [] g k → IsSameIn modules top [] h k
  same_trans h g k a b = record {
    registers = λ path m x s at i. a.registers path m x s at i ∙ b.registers path m x s at i;
    words = λ path m j i s at l. a.words path m j i s at l ∙ b.words path m j i s at l;
  }

  pub same_sym : (h g : Valuation) → IsSameIn modules top [] h g → IsSameIn modules top [] g h
  same_sym h g a = record {
    registers = λ path m x s at i. sym (a.registers path m x s at i);
    words = λ path m j i s at l. sym (a.words path m j i s at l);
  }

  module _ (h g : Valuation) (same : IsSameIn modules top [] h g) where
    register_at : (path : Path) (m : Module) (x : ℕ) (s : Signal) → IsAt modules top path m x s → IsRegister s.source → (h path).signal x ≡ (g path).signal x
    register_at path m x s at i =
        let There : Path → Type 0 = λ q. IsAt modules top q m x s → (h q).signal x ≡ (g q).signal x in
        subst There (append-nil path) (λ there. same.registers path m x s there i) at

    word_at : (path : Path) (m : Module) (j k : ℕ) (s : Memory) → HasMemory modules top path m j s → k < length s.initial → (h path).word j k ≡ (g path).word j k
    word_at path m j k s at l =
        let There : Path → Type 0 = λ q. HasMemory modules top q m j s → (h q).word j k ≡ (g q).word j k in
        subst There (append-nil path) (λ there. same.words path m j k s there l) at

    module _ (c : Choice) (through : Valuation) (settled : IsSettled modules top g c through) where
      -- the numbers that are settled, with the words of h
      abbrev pub moved : Valuation
      moved path = with_words (through path) (h path).word

      words_are : (path : Path) (m : Module) → module_at modules top path ≡ Some m → AreSame m (through path) (h path).word
      words_are path m stands j k s e l = settled.words path j k ∙ sym (word_at path m j k s (record { stands = stands; listed = e }) l)

      input_moved : (path : Path) (x : ℕ) (s : Signal) → input_number modules top c through path x s ≡ input_number modules top c moved path x s
      input_moved [] x s = refl
      input_moved (i ∷ outer) x s = refl

      number_moved : (path : Path) (m : Module) (x : ℕ) (s : Signal) → IsAt modules top path m x s → (from : Source) → s.source ≡ from
          → number modules top g c through path m x s from ≡ number modules top h c moved path m x s from
      number_moved path m x s at source.Input e = input_moved path x s
      number_moved path m x s at (source.Register n) e = sym (register_at path m x s at (subst IsRegister (sym e) tt))
      number_moved path m x s at (source.Assigned right) e = value_same m (through path) (h path).word (words_are path m at.stands) right
      number_moved path m x s at (source.Port i port) e = refl

      pub settled_moved : IsSettled modules top h c moved
      settled_moved = record {
        signals = λ path m x s at. settled.signals path m x s at ∙ number_moved path m x s at s.source refl;
        within = settled.within;
        words = λ path j k. refl;
      }

      next_register : (path : Path) (x : ℕ) (o : Option Module) → (next_at modules top o (moved path)).signal x ≡ (next_at modules top o (through path)).signal x
      next_register path x None = refl
      next_register path x (Some m) = sym (register_same m (through path) (h path).word m.actions x ((through path).signal x))

      next_word : (path : Path) (m : Module) (j k : ℕ) (s : Memory) → HasMemory modules top path m j s → k < length s.initial
          → (next_at modules top (Some m) (moved path)).word j k ≡ (next_at modules top (Some m) (through path)).word j k
      next_word path m j k s at l =
          sym (word_same m (through path) (h path).word m.actions j k ((h path).word j k))
          ∙ ap (word_after (through path) m.actions j k) (sym (words_are path m at.stands j k s at.listed l))

      next_moved : IsSameIn modules top [] (next_state modules top moved) (next_state modules top through)
      next_moved = record {
        registers = λ path m x s at i. next_register (path ++ []) x (module_at modules top (path ++ []));
        words = λ path m j k s at l.
            subst (λ o. (next_at modules top o (moved (path ++ []))).word j k ≡ (next_at modules top o (through (path ++ []))).word j k) (sym at.stands)
            (next_word (path ++ []) m j k s at l);
      }

      written_there : (path : Path) (o : Option Module) → written_at modules top moved path o ≡ written_at modules top through path o
      written_there path None = refl
      written_there path (Some m) = sym (bytes_same m (through path) (h path).word m.actions)

      written_moved : (out : List ℕ) → IsWritten modules top through out → IsWritten modules top moved out
      written_moved out is = record {
        each = λ path.
            ⊎_elim (λ e. inl (written_there path (module_at modules top path) ∙ e)) (λ e. inr (written_there path (module_at modules top path) ∙ e)) (is.each path);
        one = ⊎_elim (λ e. inl e) (λ p. inr (p.0, written_there p.0 (module_at modules top p.0) ∙ p.1)) is.one;
      }

    -- a cycle from a state is one from a state that is the same
    pub cycle_moved : (c : Choice) (k : Valuation) (out : List ℕ) → Cycle modules top g c k out → Cycle modules top h c k out
    cycle_moved c k out cycle = record {
      through = moved c cycle.through cycle.settled;
      settled = settled_moved c cycle.through cycle.settled;
      next = same_trans (next_state modules top (moved c cycle.through cycle.settled)) (next_state modules top cycle.through) k (next_moved c cycle.through cycle.settled) cycle.next;
      written = written_moved c cycle.through cycle.settled out cycle.written;
    }

    -- what is shown in a state is shown in one that is the same
    pub shows_moved : (c : Choice) (b : ℕ) → ShowsDone modules top g c b → ShowsDone modules top h c b
    shows_moved c b shows = record {
      place = shows.place;
      signal = shows.signal;
      is = shows.is;
      out = shows.out;
      bit = shows.bit;
      through = moved c shows.through shows.settled;
      settled = settled_moved c shows.through shows.settled;
      number = shows.number;
    }

  -- what ends in a state ends in one that is the same
  pub runs_to_same : (choices : List Choice) (h g k : Valuation) (out : List ℕ) → Runs modules top h choices g out → IsSameIn modules top [] g k → Runs modules top h choices k out
  runs_to_same [] h g k out runs same = (same_trans h g k runs.0 same, runs.1)
  runs_to_same (c ∷ choices) h g k out runs same =
      (runs.0, runs.1, runs.2, runs.3, runs_to_same choices runs.0 g k runs.2 runs.4 same, runs.5)

  -- and one cycle more
  pub runs_on : (choices : List Choice) (h g k : Valuation) (c : Choice) (out more : List ℕ) → Runs modules top h choices g out → Cycle modules top g c k more
      → Runs modules top h (choices ++ c ∷ []) k (out ++ more)
  runs_on [] h g k c out more runs cycle =
      (k, more, [], cycle_moved h g runs.0 c k more cycle, (same_refl k, refl), ap (λ l. l ++ more) runs.1 ∙ sym (append-nil more))
  runs_on (d ∷ choices) h g k c out more runs cycle = (
    runs.0,
    runs.1,
    runs.2 ++ more,
    runs.3,
    runs_on choices runs.0 g k c runs.2 more runs.4 cycle,
    ap (λ l. l ++ more) runs.5 ∙ append_assoc runs.1 runs.2 more,
  )

  -- what begins in a state begins in one that is the same
  pub runs_from_same : (choices : List Choice) (h g k : Valuation) (out : List ℕ) → IsSameIn modules top [] h g → Runs modules top g choices k out → Runs modules top h choices k out
  runs_from_same [] h g k out same runs = (same_trans h g k same runs.0, runs.1)
  runs_from_same (c ∷ choices) h g k out same runs = (runs.0, runs.1, runs.2, cycle_moved h g same c runs.0 runs.1 runs.3, runs.4, runs.5)
