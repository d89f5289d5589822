-- A module whose signals are graded and stand at their places is sound.
use Rattle.std.proofs.Common.{◌≡◌, ◌≢◌, ℕ, zero, suc, ◌+◌, ◌-◌, ◌<◌, ◌^◌, Bool, true, false, nat_eq, nat_lt, if◌then◌else◌, List, [], ◌∷◌, ◌++◌, length, map, slice_get, Some}
use Rattle.std.proofs.Common.{refl, sym, ap, subst, ◌∙◌, arith, inl, ⊎_elim, zero-add, ◌==◌}
use Rattle.std.specs.Prelude.{codes}
use Rattle.std.specs.Str.{bytes_eq}
use Rattle.std.proofs.lemmas.List.{append-nil}
use Rattle.std.proofs.lemmas.Option.{slice_get_within}
use Rattle.std.proofs.lemmas.Bool.{and_from, lt-ltb, eq-eqb, cases_eq, cond-true}
use Rattle.std.proofs.Math.Dec.{eqb-suc-zero}
use Rattle.lists.proofs.Places.{get_nothing}
use Rattle.verilog_tree.specs.Scope.{is_clk}
use Rattle.verilog_tree.specs.Rules.{all_right}
use Rattle.netlist.specs.declared.netlist.Source.{Source}
use Rattle.netlist.specs.declared.netlist.Source.TheVariants.{Input, Register, Assigned, Port}
use Rattle.netlist.specs.declared.netlist.Signal.{Signal}
use Rattle.netlist.specs.declared.netlist.Memory.{Memory}
use Rattle.netlist.specs.declared.netlist.Instance.{Instance}
use Rattle.netlist.specs.declared.netlist.Effect.{Effect}
use Rattle.netlist.specs.declared.netlist.Effect.TheVariants as effect
use Rattle.netlist.specs.declared.netlist.Action.{Action}
use Rattle.netlist.specs.declared.netlist.Module.{Module}
use Rattle.netlist.specs.NetlistOf.{Name}
use Rattle.netlist.specs.Laid.{AreApart, AreSignals, AreMemories, signal_names, memory_names, instance_names, declared_names, effect_signals, memories_stored, IsSource}
use Rattle.leaf_machine.specs.Cycles.{IsRegister}
use Rattle.netlist.specs.Sound.{width, width_read, is_read, has_width, width_of_memory, memory_width, register_width}
use Rattle.netlist.specs.Sound.{width_of_register, width_set, source_fits, effect_fits, IsSet}
use Rattle.leaf_machine.specs.Rows.{EachOf}
use Rattle.leaf_machine.specs.Modules.{Has}
use Rattle.module_sound.specs.Grades.{IsOperand, IsGradedSource, IsGradedSignal, AreGrades, SetsRight, ActsRight}
use Rattle.module_sound.specs.Names.{place_of, last_number}
use Rattle.module_sound.specs.Kinds.{IsKindAt, IsPlaced}
use Rattle.module_sound.specs.Sounds.{BeginsWithClock, AreRightMemories, IsSoundAlone, PlacedIsSound}
use Rattle.module_sound.proofs.SignalOrder.{in_order, input_count, output_count}
use Rattle.module_sound.proofs.FittingSources.{value_signals, value_memories, value_right}

each_at : {X : Type 0} (P : X → Type 0) (xs : List X) → EachOf P xs → (k : ℕ) (x : X) → slice_get xs k ≡ Some x → P x
each_at P [] e k x listed = absurd cc
each_at P (y ∷ xs) e zero x listed = let same : y ≡ x = cc in subst P same e.0
each_at P (y ∷ xs) e (suc k) x listed = each_at P xs e.1 k x listed

named_at : (ss : List Signal) (i : ℕ) (x : List ℕ) → slice_get (map (λ (s : Signal). s.name) ss) i ≡ Some x → (s : Signal) × (slice_get ss i ≡ Some s) × (s.name ≡ x)
named_at [] i x e = absurd cc
named_at (s ∷ ss) zero x e = let same : s.name ≡ x = cc in (s, refl, same)
named_at (s ∷ ss) (suc i) x e = named_at ss i x e

-- initial constants that fit
constants_right : (w : ℕ) (ns : List ℕ) → EachOf (λ n. n < 2 ^ w) ns → all_right (λ n. nat_lt n (2 ^ w)) ns ≡ true
constants_right w [] e = refl
constants_right w (n ∷ ns) e = and_from (nat_lt n (2 ^ w)) (all_right (λ k. nat_lt k (2 ^ w)) ns) (lt-ltb n (2 ^ w) e.0) (constants_right w ns e.1)

-- ---- names of two lists

pub memory_at_name : (ms : List Memory) (i : ℕ) (x : Name) → slice_get (map (λ (c : Memory). c.name) ms) i ≡ Some x → (c : Memory) × (slice_get ms i ≡ Some c) × (c.name ≡ x)
memory_at_name [] i x e = absurd cc
memory_at_name (c ∷ ms) zero x e = let same : c.name ≡ x = cc in (c, refl, same)
memory_at_name (c ∷ ms) (suc i) x e = memory_at_name ms i x e

-- in the first list, or at a place of the second one
data IsIn (a b : List Name) (i : ℕ) (x : Name) : Type 0 where
  First : (at : slice_get a i ≡ Some x) → IsIn a b i x
  Second : (k : ℕ) (is : i ≡ length a + k) (at : slice_get b k ≡ Some x) → IsIn a b i x

in_one : (a b : List Name) (i : ℕ) (x : Name) → slice_get (a ++ b) i ≡ Some x → IsIn a b i x
in_one [] b i x e = Second i (omega arith) e
in_one (y ∷ a) b zero x e = First e
in_one (y ∷ a) b (suc i) x e = more (in_one a b i x e)
  where
    more : IsIn a b i x → IsIn (y ∷ a) b (suc i) x
    more (First at) = First at
    more (Second k is at) = Second k (omega arith) at

apart_both : (a b : List Name) → AreApart a → AreApart b → ((i j : ℕ) (x : Name) → slice_get a i ≡ Some x → slice_get b j ≡ Some x → ⊥) → AreApart (a ++ b)
apart_both a b first second other i j x e f = by (in_one a b i x e) (in_one a b j x f)
  where
    by : IsIn a b i x → IsIn a b j x → i ≡ j
    by (First at) (First there) = first i j x at there
    by (First at) (Second k is there) = absurd (other i k x at there)
    by (Second k is at) (First there) = absurd (other j k x there at)
    by (Second k is at) (Second l so there) = let same : k ≡ l = second k l x at there in omega arith

by_name : (n inputs : ℕ) (name : List ℕ) → is_clk name ≡ true → place_of n inputs name ≡ Some 0
by_name n inputs name e = cond-true (is_clk name) (Some 0) (if bytes_eq name (codes "en") then Some 1
    else (if bytes_eq name (codes "need") then Some (n - 2) else (if bytes_eq name (codes "done") then Some (n - 1)
    else (if bytes_eq name (codes "beat") then Some (inputs + 2) else last_number name)))) e

module _ (m : Module) (inputs first : ℕ) (grades : List ℕ) (are : AreGrades m inputs (length m.signals) grades) (acts : EachOf (ActsRight m) m.actions) (instances : m.instances ≡ [])
    (memories : AreRightMemories m) (placed : IsPlaced m inputs first) (begins : BeginsWithClock m) where
  -- ---- names

  not_clock : (x : ℕ) (s : Signal) → slice_get m.signals x ≡ Some s → x ≢ 0 → is_clk s.name ≡ false
  not_clock x s listed ne = by_test (is_clk s.name) refl
    where
      by_test : (b : Bool) → is_clk s.name ≡ b → is_clk s.name ≡ false
      by_test false e = e
      by_test true e =
          absurd (let told = (placed.each x s listed).named in let zero_is = by_name (length m.signals) inputs s.name e in let same : 0 ≡ x = cc in ne (sym same))

  clock_is : (x : ℕ) (s : Signal) → slice_get m.signals x ≡ Some s → is_clk s.name ≡ nat_eq x 0
  clock_is zero s listed = let same : begins.signal ≡ s = (let e = begins.listed in cc) in subst (λ (z : Signal). is_clk z.name ≡ true) same begins.named
  clock_is (suc x) s listed = not_clock (suc x) s listed (λ e. absurd cc) ∙ sym (eqb-suc-zero x)

  signals_apart : AreApart (signal_names m)
  signals_apart i j x e f =
      let a = named_at m.signals i x e in
      let b = named_at m.signals j x f in
      let told = (placed.each i a.0 a.1).named in
      let other = (placed.each j b.0 b.1).named in
      let one : place_of (length m.signals) inputs x ≡ Some i = ap (place_of (length m.signals) inputs) (sym a.2) ∙ told in
      let two : place_of (length m.signals) inputs x ≡ Some j = ap (place_of (length m.signals) inputs) (sym b.2) ∙ other in
      cc

  names_differ : (i j : ℕ) (x : Name) → slice_get (signal_names m) i ≡ Some x → slice_get (memory_names m) j ≡ Some x → ⊥
  names_differ i j x e f =
      let s = named_at m.signals i x e in
      let c = memory_at_name m.memories j x f in
      (memories.each j c.0 c.1).other i s.0 s.1 (s.2 ∙ sym c.2)

  names_apart : AreApart (declared_names m)
  names_apart =
      let no_instance : instance_names m ≡ [] = ap (λ (l : List Instance). map (λ (x : Instance). x.name) l) instances in
      let all : declared_names m ≡ signal_names m ++ memory_names m =
      ap (λ l. signal_names m ++ memory_names m ++ l) no_instance ∙ append-nil (signal_names m ++ memory_names m) in
      subst (λ (l : List Name). AreApart l) (sym all) (apart_both (signal_names m) (memory_names m) signals_apart memories.apart names_differ)

  -- ---- what signals read

  graded : (x : ℕ) (s : Signal) → slice_get m.signals x ≡ Some s → (g : ℕ) × (slice_get grades x ≡ Some g) × IsGradedSignal m grades x inputs g s
  graded x s listed = are.each x s (slice_get_within m.signals x s listed) listed

  wide_at : (y w : ℕ) → Has m y w → 0 < y → (width m y ≡ w) × (0 < w) × (y < length m.signals) × Has m y w
  wide_at y w h after =
      let plain = not_clock y h.signal h.listed (λ e. absurd (omega arith)) in
      let low = (graded y h.signal h.listed).2.low in
      let wide = h.wide in (
        ap (width_read m) h.listed ∙ ap (λ (b : Bool). if b then 0 else h.signal.width) plain ∙ wide,
        omega arith,
        slice_get_within m.signals y h.signal h.listed,
        h,
      )

  reads : (x g y w : ℕ) → IsOperand m grades x g y w → (width m y ≡ w) × (0 < w) × (y < length m.signals) × Has m y w
  reads x g y w o = wide_at y w o.has o.after

  -- ---- signals are laid

  laid_source : (before : List Module) (x w g : ℕ) (out : Bool) (d : Source) → IsKindAt m inputs first x out d → IsGradedSource m grades x inputs w g d → IsSource before m x out d
  laid_source before x w g out Input k t = k.1
  laid_source before x w g out (Register n) k t = k.2
  laid_source before x w g out (Assigned v) k t = (value_signals m (IsOperand m grades x g) (reads x g) w v t, value_memories m (IsOperand m grades x g) (reads x g) w v t)
  laid_source before x w g out (Port i p) k t = absurd k

  -- ---- signals are sound

  sound_source : (x w g : ℕ) (out : Bool) (d : Source) → 0 < w → IsKindAt m inputs first x out d → IsGradedSource m grades x inputs w g d → source_fits m d w ≡ true
  sound_source x w g out Input some k t = refl
  sound_source x w g out (Register n) some k t = lt-ltb n (2 ^ w) t
  sound_source x w g out (Assigned v) some k t = value_right m (IsOperand m grades x g) (reads x g) w v some k.3 t
  sound_source x w g out (Port i p) some k t = absurd k

  set_source : (x : ℕ) (out : Bool) (d : Source) → IsKindAt m inputs first x out d → IsSet m x d
  set_source x out Input k = tt
  set_source x out (Register n) k = let s = k.3 in (x - inputs, s.action, s.is.0, s.listed, s.is.1)
  set_source x out (Assigned v) k = tt
  set_source x out (Port i p) k = tt

  -- ---- statements

  signals_at : (cs : List ℕ) → EachOf (λ x. Has m x 1) cs → AreSignals m cs
  signals_at [] a k x e = absurd cc
  signals_at (c ∷ cs) a zero x e = let same : c ≡ x = cc in subst (λ (n : ℕ). n < length m.signals) same (slice_get_within m.signals c a.0.signal a.0.listed)
  signals_at (c ∷ cs) a (suc k) x e = signals_at cs a.1 k x e

  read_width : (c w : ℕ) → Has m c w → 0 < c → is_read m c ≡ true
  read_width c w h after = let r = wide_at c w h after in lt-ltb 0 (width m c) (subst (λ (n : ℕ). 0 < n) (sym r.0) r.1)

  reads_width : (c w : ℕ) → Has m c w → 0 < c → has_width m c w ≡ true
  reads_width c w h after =
      and_from (is_read m c) (width m c == w) (read_width c w h after) (eq-eqb (width m c) w (wide_at c w h after).0)

  bits_right : (cs : List ℕ) → EachOf (λ x. Has m x 1) cs → EachOf (λ x. 0 < x) cs → all_right (λ c. has_width m c 1) cs ≡ true
  bits_right [] a b = refl
  bits_right (c ∷ cs) a b = and_from (has_width m c 1) (all_right (λ x. has_width m x 1) cs) (reads_width c 1 a.0 b.0) (bits_right cs a.1 b.1)

  register_is : (d : Source) (w : ℕ) → IsRegister d → width_set m w d ≡ w
  register_is Input w is = absurd is
  register_is (Register n) w is = refl
  register_is (Assigned v) w is = absurd is
  register_is (Port i p) w is = absurd is

  two : (x y : ℕ) → x < length m.signals → y < length m.signals → AreSignals m (x ∷ y ∷ [])
  two x y a b zero z e = let same : x ≡ z = cc in subst (λ (n : ℕ). n < length m.signals) same a
  two x y a b (suc zero) z e = let same : y ≡ z = cc in subst (λ (n : ℕ). n < length m.signals) same b
  two x y a b (suc (suc k)) z e = absurd cc

  set_right : (e : Effect) → SetsRight m e → AreSignals m (effect_signals e) × AreMemories m (memories_stored e) × (effect_fits m e ≡ true)
  set_right (effect.Set x y) t =
      let f = t.fits in
      let r = f.1 in
      let wide : register_width m x ≡ f.0 = ap (width_of_register m) r.listed ∙ register_is r.signal.source r.signal.width r.is ∙ r.wide in (
        two x y (slice_get_within m.signals x r.signal r.listed) (slice_get_within m.signals y f.2.signal f.2.listed),
        (λ k j e. absurd cc),
        subst (λ (n : ℕ). has_width m y n ≡ true) (sym wide) (reads_width y f.0 f.2 t.unclocked.0),
      )
  set_right (effect.Store j x y) t =
      let f = t.fits in
      let wide : memory_width m j ≡ f.0.width = ap (width_of_memory m) f.1 in (
        two x y (slice_get_within m.signals x f.3.1.signal f.3.1.listed) (slice_get_within m.signals y f.2.signal f.2.listed),
        one j (slice_get_within m.memories j f.0 f.1),
        and_from (is_read m x) (has_width m y (memory_width m j)) (read_width x f.3.0 f.3.1 t.unclocked.0)
            (subst (λ (n : ℕ). has_width m y n ≡ true) (sym wide) (reads_width y f.0.width f.2 t.unclocked.1.0)),
      )
    where
      one : (j : ℕ) → j < length m.memories → AreMemories m (j ∷ [])
      one j less zero i e = let same : j ≡ i = cc in subst (λ (n : ℕ). n < length m.memories) same less
      one j less (suc k) i e = absurd cc
  set_right (effect.Write text values) t = absurd (let s = t.silent in cc)

  -- ---- the module

  each_kind : (k : ℕ) (s : Signal) → slice_get m.signals k ≡ Some s → IsKindAt m inputs first (0 + k) s.is_output s.source
  each_kind k s listed = subst (λ (n : ℕ). IsKindAt m inputs first n s.is_output s.source) (sym (zero-add k)) (placed.each k s listed).kind

  act_at : (k : ℕ) (a : Action) → slice_get m.actions k ≡ Some a → ActsRight m a
  act_at k a listed = each_at (ActsRight m) m.actions acts k a listed

  clock_alone : (x : ℕ) (s : Signal) → slice_get m.signals x ≡ Some s → is_clk s.name ≡ true → (s.source ≡ Input) × (s.width ≡ 1)
  clock_alone x s listed is =
      ⊎_elim
      (λ (same : x ≡ 0).
      let one : begins.signal ≡ s = (let e = begins.listed in let f = ap (slice_get m.signals) same in cc) in
      subst (λ (z : Signal). (z.source ≡ Input) × (z.width ≡ 1)) one (begins.input, begins.wide))
      (λ (ne : x ≢ 0). absurd (let off = not_clock x s listed ne in let clash : true ≡ false = sym is ∙ off in cc))
      (cases_eq x 0)

  pub sound_alone : IsSoundAlone m inputs first
  sound_alone = record {
    laid = λ before. record {
      names = names_apart;
      order = in_order m inputs first placed.order 0 m.signals each_kind;
      signals = λ x s listed.
          let g = graded x s listed in
          record { low = g.2.low; high = g.2.high; drives = laid_source before x s.width g.0 s.is_output s.source (placed.each x s listed).kind g.2.source };
      memories = λ k x listed. (memories.each k x listed).laid;
      actions = λ k a listed.
          let t = act_at k a listed in
          let e = set_right a.effect t.sets in
          record { conditions = signals_at a.conditions t.bits; signals = e.0; memories = e.1 };
      instances = λ k x listed. absurd (get_nothing m.instances k x instances listed);
    };
    sound = λ named before. record {
      name = named;
      port = (0, begins.signal, begins.listed, inl begins.input);
      signals = λ x s listed.
          let g = graded x s listed in
          let low = g.2.low in
          record {
            fits = sound_source x s.width g.0 s.is_output s.source low (placed.each x s listed).kind g.2.source;
            set = set_source x s.is_output s.source (placed.each x s listed).kind;
            clock = clock_alone x s listed;
          };
      memories = λ k x listed. let c = memories.each k x listed in record { fits = constants_right x.width x.initial c.begins; clock = c.unclocked };
      actions = λ k a listed.
          let t = act_at k a listed in
          and_from (all_right (λ c. has_width m c 1) a.conditions) (effect_fits m a.effect) (bits_right a.conditions t.bits t.unclocked) (set_right a.effect t.sets).2;
      instances = λ k x listed. absurd (get_nothing m.instances k x instances listed);
      actions_clocked = λ k a listed. (0, begins.signal, begins.listed, begins.named);
      instances_clocked = λ i n of listed. absurd (get_nothing m.instances i n instances listed);
    };
    input_count = (let count = input_count m inputs first placed.order 0 m.signals (omega arith) (let a = placed.order in let b = placed.within in omega arith) each_kind in omega arith);
    output_count = (let count = output_count m inputs first placed.order 0 m.signals (omega arith) (let b = placed.within in omega arith) each_kind in omega arith);
    clock = clock_is;
  }

pub placed_is_sound : PlacedIsSound
placed_is_sound = λ m inputs first grades are acts instances memories placed begins. sound_alone m inputs first grades are acts instances memories placed begins
