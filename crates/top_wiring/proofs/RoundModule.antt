-- The module top_rr is laid out soundly.
use Rattle.std.proofs.Common.{◌≡◌, ℕ, zero, suc, ◌+◌, ◌-◌, ◌*◌, ◌^◌, ◌<◌, Bool, true, false, nat_eq, nat_lt, if◌then◌else◌, List, [], ◌∷◌}
use Rattle.std.proofs.Common.{◌++◌, length, get_or, map, replicate, Some, refl, sym, ap, ◌∙◌, subst, inl, inr, arith, add-zero, zero-add, length-append, lit<}
use Rattle.std.specs.Prelude.{slice_get, codes, decimal, filter, not, option_map, ◌&&◌, ◌==◌}
use Rattle.std.proofs.lemmas.Bool.Decides.{nat_tests}
use Rattle.std.proofs.lemmas.Fmt.{decimal_digit}
use Rattle.std.proofs.lemmas.Nat.{pow_pos}
use Rattle.std.proofs.lemmas.List.{length-replicate}
use Rattle.std.proofs.lemmas.Option.{same_Some, none-some}
use Rattle.std.proofs.lemmas.Bool.{and_parts, and_from}
use Rattle.lists.proofs.Places.{get_back, get_mapped}
use Rattle.verilog_tree.specs.Scope.{is_clk}
use Rattle.netlist.specs.declared.netlist.Value.TheVariants.{Constant, Concatenation}
use Rattle.netlist.specs.declared.netlist.Source.TheVariants as source
use Rattle.netlist.specs.declared.netlist.Signal.{Signal}
use Rattle.netlist.specs.declared.netlist.Memory.{Memory}
use Rattle.netlist.specs.declared.netlist.Instance.{Instance}
use Rattle.netlist.specs.declared.netlist.Module.{Module}
use Rattle.netlist.specs.NetlistOf.{is_output_port}
use Rattle.netlist.specs.Laid.{EachAt, AreApart, AreSignals, kind_of, is_input_port, is_inner, input_signals, output_signals, first_output}
use Rattle.netlist.specs.Laid.{memory_names, instance_names, declared_names, IsDriven, IsLaidSignal, IsLaidAction, IsLaidInstance, IsLaidModule, source_at}
use Rattle.netlist.specs.Sound.{width, width_read, has_width, width_of_register, source_fits}
use Rattle.netlist.specs.Sound.{IsSoundSignal, is_clk_at, input_fits, action_fits, IsSoundInstance, HasClock, IsSoundModule}
use Rattle.verilog_meaning.specs.Names.{numbered}
use Rattle.circuit.specs.Rows.{spread}
use Rattle.circuit.proofs.Growth.{length-spread}
use Rattle.top_parts.specs.declared.layout.Layout.{Layout}
use Rattle.top_wiring.specs.Top.{input, preference, output, done_place, all_wires, IsTop}
use Rattle.top_wiring.specs.Round.{inner, round_signals, top_instance, count, IsRound}
use Rattle.top_wiring.specs.Sound.{AreSound}
use Rattle.top_wiring.proofs.Lists.{no_places, get_either, copies_back}
use Rattle.top_wiring.proofs.TopPlaces as standing
use Rattle.top_wiring.proofs.Soundness as soundness

-- ---- lists that are written out

abbrev EachFrom : {A : Type 0} → (ℕ → A → Type 0) → ℕ → List A → Type 0
EachFrom P k [] = Unit {0}
EachFrom P k (x ∷ xs) = P k x × EachFrom P (suc k) xs

each_later : {A : Type 0} (P : ℕ → A → Type 0) (k : ℕ) (xs : List A) → EachFrom P k xs → (j : ℕ) (x : A) → slice_get xs j ≡ Some x → P (k + j) x
each_later P k [] h j x q = absurd (none-some x q)
each_later P k (y ∷ xs) h zero x q = subst (λ (i : ℕ). P i x) (sym (add-zero k)) (subst (P k) (same_Some y x q) h.0)
each_later P k (y ∷ xs) h (suc j) x q = let e : suc k + j ≡ k + suc j = omega arith in subst (λ (i : ℕ). P i x) e (each_later P (suc k) xs h.1 j x q)

each_at : {A : Type 0} (P : ℕ → A → Type 0) (xs : List A) → EachFrom P 0 xs → EachAt xs P
each_at P xs h = λ k x q. subst (λ (i : ℕ). P i x) (zero-add k) (each_later P 0 xs h k x q)

-- ---- names that their first three letters tell apart

abbrev key : List ℕ → ℕ
key x = get_or x 0 0 * 65536 + get_or x 1 0 * 256 + get_or x 2 0

abbrev differs : ℕ → List ℕ → Bool
differs k [] = true
differs k (l ∷ ls) = not (nat_eq k l) && differs k ls

abbrev all_differ : List ℕ → Bool
all_differ [] = true
all_differ (k ∷ ks) = differs k ks && all_differ ks

not_same : (k : ℕ) → not (nat_eq k k) ≡ true → ⊥
not_same k e = let z : nat_eq k k ≡ true = grind (arith, nat_tests) in let y : false ≡ true = ap not (sym z) ∙ e in cc

differs_at : (k : ℕ) (ks : List ℕ) (j : ℕ) → differs k ks ≡ true → slice_get ks j ≡ Some k → ⊥
differs_at k [] j h e = none-some k e
differs_at k (l ∷ ks) zero h e = not_same k (ap (λ z. not (nat_eq k z)) (sym (same_Some l k e)) ∙ (and_parts (not (nat_eq k l)) (differs k ks) h).0)
differs_at k (l ∷ ks) (suc j) h e = differs_at k ks j (and_parts (not (nat_eq k l)) (differs k ks) h).1 e

numbers_apart : (ks : List ℕ) → all_differ ks ≡ true → (i j k : ℕ) → slice_get ks i ≡ Some k → slice_get ks j ≡ Some k → i ≡ j
numbers_apart [] h i j k a b = absurd (none-some k a)
numbers_apart (l ∷ ks) h zero zero k a b = refl
numbers_apart (l ∷ ks) h zero (suc j) k a b = absurd (differs_at l ks j (and_parts (differs l ks) (all_differ ks) h).0 (b ∙ ap (λ z. Some z) (sym (same_Some l k a))))
numbers_apart (l ∷ ks) h (suc i) zero k a b = absurd (differs_at l ks i (and_parts (differs l ks) (all_differ ks) h).0 (a ∙ ap (λ z. Some z) (sym (same_Some l k b))))
numbers_apart (l ∷ ks) h (suc i) (suc j) k a b = ap suc (numbers_apart ks (and_parts (differs l ks) (all_differ ks) h).1 i j k a b)

apart_by_keys : (names : List (List ℕ)) → all_differ (map key names) ≡ true → AreApart names
apart_by_keys names h i j x a b = numbers_apart (map key names) h i j (key x) (get_mapped key names i x a) (get_mapped key names j x b)

-- the names of top_rr, where its wires have these numbers
abbrev wire_names : List (List ℕ) → List (List ℕ)
wire_names numbers = map (λ a. codes "w" ++ 95 ∷ a) numbers

abbrev names_by : List (List ℕ) → List (List ℕ)
names_by numbers = codes "clk" ∷ numbered (codes "counter") 1 ∷ wire_names numbers ++ codes "done" ∷ numbered (codes "dut") 0 ∷ []

abbrev wire_numbers : List (List ℕ)
wire_numbers = decimal 2 ∷ decimal 3 ∷ decimal 4 ∷ decimal 5 ∷ decimal 6 ∷ decimal 7 ∷ []

abbrev digits : List (List ℕ)
digits = (50 ∷ []) ∷ (51 ∷ []) ∷ (52 ∷ []) ∷ (53 ∷ []) ∷ (54 ∷ []) ∷ (55 ∷ []) ∷ []

numbers_are : wire_numbers ≡ digits
numbers_are =
    ap (λ z. z ∷ decimal 3 ∷ decimal 4 ∷ decimal 5 ∷ decimal 6 ∷ decimal 7 ∷ []) (decimal_digit 2 (lit< tt))
    ∙ ap (λ z. (50 ∷ []) ∷ z ∷ decimal 4 ∷ decimal 5 ∷ decimal 6 ∷ decimal 7 ∷ []) (decimal_digit 3 (lit< tt))
    ∙ ap (λ z. (50 ∷ []) ∷ (51 ∷ []) ∷ z ∷ decimal 5 ∷ decimal 6 ∷ decimal 7 ∷ []) (decimal_digit 4 (lit< tt))
    ∙ ap (λ z. (50 ∷ []) ∷ (51 ∷ []) ∷ (52 ∷ []) ∷ z ∷ decimal 6 ∷ decimal 7 ∷ []) (decimal_digit 5 (lit< tt))
    ∙ ap (λ z. (50 ∷ []) ∷ (51 ∷ []) ∷ (52 ∷ []) ∷ (53 ∷ []) ∷ z ∷ decimal 7 ∷ []) (decimal_digit 6 (lit< tt))
    ∙ ap (λ z. (50 ∷ []) ∷ (51 ∷ []) ∷ (52 ∷ []) ∷ (53 ∷ []) ∷ (54 ∷ []) ∷ z ∷ []) (decimal_digit 7 (lit< tt))

names_differ : all_differ (map key (names_by wire_numbers)) ≡ true
names_differ = ap (λ z. all_differ (map key (names_by z))) numbers_are

module _ (layout : Layout) (modules : List Module) (sound : AreSound layout modules) (top : Module) (is : IsTop modules layout top) (r : Module)
    (round : IsRound (length layout.threads) (length modules) (length top.signals - 1) (length layout.cores) r) where
  abbrev T : ℕ
  T = length layout.threads

  abbrev K : ℕ
  K = length layout.cores

  abbrev shown : ℕ
  shown = length top.signals - 1

  abbrev before : List Module
  before = modules ++ top ∷ []

  abbrev dut : Instance
  dut = top_instance (length modules) K

  -- ---- names

  names_are : declared_names r ≡ names_by wire_numbers
  names_are =
      ap (λ l. map (λ (s : Signal). s.name) l ++ memory_names r ++ instance_names r) round.signals
      ∙ ap (λ l. map (λ (s : Signal). s.name) (round_signals T shown) ++ map (λ (x : Memory). x.name) l ++ instance_names r) round.memories
      ∙ ap (λ l. map (λ (s : Signal). s.name) (round_signals T shown) ++ [] ++ map (λ (n : Instance). n.name) l) round.instances

  names : AreApart (declared_names r)
  names = subst AreApart (sym names_are) (apart_by_keys (names_by wire_numbers) names_differ)

  -- ---- places

  stands : (x : ℕ) (s : Signal) → slice_get (round_signals T shown) x ≡ Some s → slice_get r.signals x ≡ Some s
  stands x s e = ap (λ l. slice_get l x) round.signals ∙ e

  nine : length r.signals ≡ 9
  nine = ap length round.signals

  dut_stands : slice_get r.instances 0 ≡ Some dut
  dut_stands = ap (λ l. slice_get l 0) round.instances

  top_stands : slice_get before (length modules) ≡ Some top
  top_stands = ap (slice_get before) (sym (add-zero (length modules))) ∙ get_back modules (top ∷ []) 0 top refl

  one_output : length (output_signals top) ≡ 1
  one_output = ap length (soundness.top_outputs layout modules sound top is)

  all_inputs : length (input_signals top) ≡ 2 + K
  all_inputs =
      let a = ap length (soundness.top_inputs layout modules sound top is) in
      let b = length-append (input (codes "clk") 1 ∷ input (codes "en") T ∷ []) (spread preference 0 K) in
      let c = length-spread preference 0 K in
      omega arith

  shown_is : shown ≡ first_output top + 0
  shown_is = let e = one_output in omega arith

  places_of : (xs : List ℕ) → EachFrom (λ k x. x < 9) 0 xs → AreSignals r xs
  places_of xs h k x e = let l = each_at (λ k x. x < 9) xs h k x e in let z = nine in omega arith

  driven : IsDriven before r 5 0 shown
  driven = record { instance = dut; of = top; output = 0; stands = dut_stands; earlier = top_stands; port_is = shown_is; tied = refl }

  signals_laid : EachFrom (IsLaidSignal before r) 0 (round_signals T shown)
  signals_laid = (
    record { low = omega arith; high = omega arith; drives = refl },
    (
      record { low = omega arith; high = omega arith; drives = refl },
      (
        record { low = omega arith; high = omega arith; drives = (no_places _, no_places _) },
        (
          record { low = omega arith; high = omega arith; drives = (places_of (1 ∷ 2 ∷ []) (lit< tt, (lit< tt, tt)), no_places _) },
          (
            record { low = sound.small.some; high = sound.small.few_threads; drives = (no_places _, no_places _) },
            (
              record { low = omega arith; high = omega arith; drives = driven },
              (
                record { low = omega arith; high = omega arith; drives = (no_places _, no_places _) },
                (
                  record { low = omega arith; high = omega arith; drives = (places_of (6 ∷ 1 ∷ []) (lit< tt, (lit< tt, tt)), no_places _) },
                  (
                    record { low = omega arith; high = omega arith; drives = (places_of (5 ∷ []) (lit< tt, tt), no_places _) },
                    tt,
                  ),
                ),
              ),
            ),
          ),
        ),
      ),
    ),
  )

  input_inside : AreSignals r dut.inputs
  input_inside k x e = elim (get_either (0 ∷ 4 ∷ []) (replicate K 7) k x e) [
    | inl g ↦ let l = each_at (λ k x. x < 9) (0 ∷ 4 ∷ []) (lit< tt, (lit< tt, tt)) k x g in let z = nine in omega arith
    | inr g ↦ let b = (copies_back K g.at 7 x g.found).1 in let z = nine in omega arith
  ]

  dut_many : (k : ℕ) → length (0 ∷ 4 ∷ [] ++ replicate {A = ℕ} k 7) ≡ 2 + k
  dut_many k =
      let a = length-append {A = ℕ} (0 ∷ 4 ∷ []) (replicate k 7) in
      let b : length (replicate {A = ℕ} k 7) ≡ k = length-replicate {A = ℕ} k 7 in
      omega arith

  dut_laid : IsLaidInstance before r 0 dut
  dut_laid = record {
    of = top;
    earlier = top_stands;
    inputs = dut_many K ∙ sym all_inputs;
    outputs = sym one_output;
    input_places = input_inside;
    drives = each_at (λ j x. source_at r x ≡ Some (source.Port 0 (first_output top + j))) (5 ∷ [])
        ((ap (option_map (λ (s : Signal). s.source)) (stands 5 (inner (codes "w") 5 1 (source.Port 0 shown)) refl) ∙ ap (λ z. Some (source.Port 0 z)) shown_is), tt);
  }

  count_laid : IsLaidAction r count
  count_laid = record { conditions = no_places _; signals = places_of (1 ∷ 3 ∷ []) (lit< tt, (lit< tt, tt)); memories = no_places _ }

  abbrev IsOrdered : List Signal → Type 0
  IsOrdered l = l ≡ filter (λ (s : Signal). is_input_port (kind_of s)) l ++ filter (λ (s : Signal). is_inner (kind_of s)) l ++ filter (λ (s : Signal). is_output_port (kind_of s)) l

  pub round_laid : IsLaidModule before r
  round_laid = record {
    names = names;
    order = subst IsOrdered (sym round.signals) refl;
    signals = subst (λ l. EachAt l (IsLaidSignal before r)) (sym round.signals) (each_at (IsLaidSignal before r) (round_signals T shown) signals_laid);
    memories = λ j c e. absurd (none-some c (ap (λ l. slice_get l j) (sym round.memories) ∙ e));
    actions = subst (λ l. EachAt l (λ k. IsLaidAction r)) (sym round.actions) (each_at (λ k. IsLaidAction r) (count ∷ []) (count_laid, tt));
    instances = subst (λ l. EachAt l (IsLaidInstance before r)) (sym round.instances) (each_at (IsLaidInstance before r) (dut ∷ []) (dut_laid, tt));
  }

  -- ---- sound

  width_is : (x v : ℕ) (s : Signal) → slice_get (round_signals T shown) x ≡ Some s → is_clk s.name ≡ false → s.width ≡ v → width r x ≡ v
  width_is x v s e c q = ap (width_read r) (stands x s e) ∙ ap (λ b. if b then 0 else s.width) c ∙ q

  fits_width : (x v : ℕ) (s : Signal) → slice_get (round_signals T shown) x ≡ Some s → is_clk s.name ≡ false → s.width ≡ v → 0 < v → has_width r x v ≡ true
  fits_width x v s e c q l =
      ap (λ z. nat_lt 0 z && z == v) (width_is x v s e c q) ∙ and_from (nat_lt 0 v) (v == v) (grind (arith, nat_tests)) (grind (arith, nat_tests))

  counter_fits : has_width r 1 4 ≡ true
  counter_fits = fits_width 1 4 (inner (codes "counter") 1 4 (source.Register 0)) refl refl refl (lit< tt)

  one_fits : has_width r 2 4 ≡ true
  one_fits = fits_width 2 4 (inner (codes "w") 2 4 (source.Assigned (Constant 1))) refl refl refl (lit< tt)

  next_fits : has_width r 3 4 ≡ true
  next_fits = fits_width 3 4 _ refl refl refl (lit< tt)

  -- two zeros before the counter of 4 bits are 6 bits
  joined_fits : source_fits r (source.Assigned (Concatenation (6 ∷ 1 ∷ []))) 6 ≡ true
  joined_fits =
      ap (λ z. (nat_lt 0 z && (nat_lt 0 (width r 1) && true)) && z + (width r 1 + 0) == 6) (width_is 6 2 (inner (codes "w") 6 2 (source.Assigned (Constant 0))) refl refl refl)
      ∙ ap (λ z. (nat_lt 0 2 && (nat_lt 0 z && true)) && 2 + (z + 0) == 6) (width_is 1 4 (inner (codes "counter") 1 4 (source.Register 0)) refl refl refl)

  wide_fits : has_width r 7 6 ≡ true
  wide_fits = fits_width 7 6 (inner (codes "w") 7 6 (source.Assigned (Concatenation (6 ∷ 1 ∷ [])))) refl refl refl (lit< tt)

  mask_fits : nat_lt (2 ^ T - 1) (2 ^ T) ≡ true
  mask_fits = below (2 ^ T) (pow_pos T)
    where
      below : (n : ℕ) → 0 < n → nat_lt (n - 1) n ≡ true
      below n l = let z : n - 1 < n = omega arith in grind (arith, nat_tests)

  no_clk : {X : Type 0} → false ≡ true → X
  no_clk e = absurd (let z : false ≡ true = e in cc)

  signals_sound : EachFrom (IsSoundSignal r) 0 (round_signals T shown)
  signals_sound = (
    record { fits = refl; set = tt; clock = λ e. (refl, refl) },
    (
      record { fits = refl; set = (0, count, 3, ap (λ l. slice_get l 0) round.actions, refl); clock = λ e. no_clk e },
      (
        record { fits = refl; set = tt; clock = λ e. no_clk e },
        (
          record { fits = ap (λ z. z && has_width r 2 4) counter_fits ∙ one_fits; set = tt; clock = λ e. no_clk e },
          (
            record { fits = mask_fits; set = tt; clock = λ e. no_clk e },
            (
              record { fits = refl; set = tt; clock = λ e. no_clk e },
              (
                record { fits = refl; set = tt; clock = λ e. no_clk e },
                (
                  record { fits = joined_fits; set = tt; clock = λ e. no_clk e },
                  (
                    record { fits = fits_width 5 1 (inner (codes "w") 5 1 (source.Port 0 shown)) refl refl refl (lit< tt); set = tt; clock = λ e. no_clk e },
                    tt,
                  ),
                ),
              ),
            ),
          ),
        ),
      ),
    ),
  )

  clocked : HasClock r r
  clocked = (0, input (codes "clk") 1, stands 0 (input (codes "clk") 1) refl, refl)

  input_right : (k x : ℕ) (p : Signal) → slice_get dut.inputs k ≡ Some x → slice_get top.signals k ≡ Some p → input_fits r p x ≡ true
  input_right k x p e g = elim (get_either (0 ∷ 4 ∷ []) (replicate K 7) k x e) [
    | inl f ↦ by_head k x f g
    | inr f ↦
        let b = copies_back K f.at 7 x f.found in
        let port : preference f.at ≡ p = same_Some (preference f.at) p (sym (standing.preference_stands modules layout top is f.at b.0) ∙ ap (slice_get top.signals) (sym f.is) ∙ g) in
        subst (λ z. input_fits r z x ≡ true) port (subst (λ z. has_width r z 6 ≡ true) (sym b.1) wide_fits)
  ]
    where
      by_head : (k x : ℕ) → slice_get (0 ∷ 4 ∷ []) k ≡ Some x → slice_get top.signals k ≡ Some p → input_fits r p x ≡ true
      by_head zero x f g =
          let port : input (codes "clk") 1 ≡ p = same_Some _ p (sym (standing.clock_stands modules layout top is) ∙ g) in
          subst (λ z. input_fits r z x ≡ true) port (subst (λ z. is_clk_at r (slice_get r.signals z) ≡ true) (same_Some 0 x f) (ap (is_clk_at r) (stands 0 (input (codes "clk") 1) refl)))
      by_head (suc zero) x f g =
          let port : input (codes "en") T ≡ p = same_Some _ p (sym (standing.mask_stands modules layout top is) ∙ g) in
          subst (λ z. input_fits r z x ≡ true) port
          (subst (λ z. has_width r z T ≡ true) (same_Some 4 x f)
          (fits_width 4 T (inner (codes "w") 4 T (source.Assigned (Constant (2 ^ T - 1)))) refl refl refl (let z = sound.small.some in omega arith)))
      by_head (suc (suc k)) x f g = absurd (none-some x f)

  dut_sound : IsSoundInstance r before 0 dut
  dut_sound = record {
    clock = refl;
    inputs = λ of there k x e p g.
        let same : top ≡ of = same_Some top of (sym top_stands ∙ there) in
        input_right k x p e (ap (λ (z : Module). slice_get z.signals k) same ∙ g);
    outputs = λ of there k x e p g.
        let same : top ≡ of = same_Some top of (sym top_stands ∙ there) in
        output_right k x p e (ap (λ (z : Module). slice_get z.signals (first_output z + k)) same ∙ g);
  }
    where
      last_stands : (p : Signal) → slice_get top.signals (first_output top + 0) ≡ Some p → p.width ≡ 1
      last_stands p g =
          let place : first_output top + 0 ≡ 2 + K + length (all_wires modules layout) = let a = standing.length-signals modules layout top is in let b = one_output in omega arith in
          let here : slice_get top.signals (2 + K + length (all_wires modules layout)) ≡ Some (output (done_place modules layout)) = standing.output_stands modules layout top is in
          ap (λ (z : Signal). z.width) (same_Some p (output (done_place modules layout)) (sym g ∙ ap (slice_get top.signals) place ∙ here))

      output_right : (k x : ℕ) (p : Signal) → slice_get (5 ∷ []) k ≡ Some x → slice_get top.signals (first_output top + k) ≡ Some p → width r x ≡ p.width
      output_right zero x p e g =
          subst (λ z. width r z ≡ p.width) (same_Some 5 x e) (ap (width_read r) (stands 5 (inner (codes "w") 5 1 (source.Port 0 shown)) refl) ∙ sym (last_stands p g))
      output_right (suc k) x p e g = absurd (none-some x e)

  count_fits : action_fits r count ≡ true
  count_fits = ap (λ z. has_width r 3 z) (ap (width_of_register r) (stands 1 (inner (codes "counter") 1 4 (source.Register 0)) refl)) ∙ next_fits

  pub round_sound : IsSoundModule r before
  round_sound = record {
    name = ap is_clk round.named;
    port = (0, input (codes "clk") 1, stands 0 (input (codes "clk") 1) refl, inl refl);
    signals = subst (λ l. EachAt l (IsSoundSignal r)) (sym round.signals) (each_at (IsSoundSignal r) (round_signals T shown) signals_sound);
    memories = λ j c e. absurd (none-some c (ap (λ l. slice_get l j) (sym round.memories) ∙ e));
    actions = subst (λ l. EachAt l (λ k a. action_fits r a ≡ true)) (sym round.actions) (each_at (λ k a. action_fits r a ≡ true) (count ∷ []) (count_fits, tt));
    instances = subst (λ l. EachAt l (IsSoundInstance r before)) (sym round.instances) (each_at (IsSoundInstance r before) (dut ∷ []) (dut_sound, tt));
    actions_clocked = λ k a e. clocked;
    instances_clocked = λ i x of e there c. clocked;
  }
