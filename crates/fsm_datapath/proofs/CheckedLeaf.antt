-- A checked module is a leaf.
use Rattle.std.proofs.Common.{◌≡◌, ℕ, zero, suc, ◌+◌, ◌-◌, ◌<◌, ◌≤◌, Bool, true, false, nat_eq, nat_le, nat_lt, if◌then◌else◌, List, [], ◌∷◌, ◌++◌, length, map, take, slice_get, slice_index}
use Rattle.std.specs.Prelude.{codes}
use Rattle.std.proofs.Common.{Some, min, refl, sym, ap, subst, ◌∙◌, arith, ⊎_elim, ◌≢◌, length-append}
use Rattle.std.proofs.lemmas.Bool.{cases_lt, cases_eq, le-ltb, lt-ltb, ltb-false, ltb-true, ne_eqb, eqb-false, eqb-true, lt-leb}
use Rattle.std.proofs.lemmas.Option.{get_or_from_slice_get, slice_get_within}
use Rattle.netlist.specs.declared.netlist.Source.{Source}
use Rattle.netlist.specs.declared.netlist.Source.TheVariants.{Input, Register, Assigned, Port}
use Rattle.netlist.specs.declared.netlist.Signal.{Signal}
use Rattle.netlist.specs.declared.netlist.Effect.{Effect}
use Rattle.netlist.specs.declared.netlist.Effect.TheVariants as effect
use Rattle.netlist.specs.declared.netlist.Action.{Action}
use Rattle.netlist.specs.declared.netlist.Memory.{Memory}
use Rattle.netlist.specs.declared.netlist.Module.{Module}
use Rattle.netlist.specs.Sound.{is_write}
use Rattle.verilog_meaning.specs.Names.{numbered}
use Rattle.verilog_meaning.specs.Readings.{Reading, is_on, effect_bytes, action_bytes}
use Rattle.circuit.specs.Rows.{EachOf}
use Rattle.circuit.specs.Modules.{HasInput, FitsAction, FitsMemory, Reads, IsSoundSource, IsSound, IsLeaf}
use Rattle.circuit.proofs.Tables.{fits_among}
use Rattle.hls_ints.specs.Types.{width_of}
use Rattle.leaf_machine.specs.Settled.{IsUnclocked}
use Rattle.leaf_machine.specs.Ports.{CorePort, asks_of, ask_place, told_of, told_place, thread_outputs}
use Rattle.thread_layout.specs.Early.{spread_out}
use Rattle.leaf_machine.specs.Leaves.{Heard, Clock, Enable, Grant, Told, IsHeard, HasHeard, IsClockless, IsEarly, AnswersAreLate, IsSlotBit}
use Rattle.module_sound.specs.Grades.{IsOperand, IsGradedSource, AreGrades, ActsRight, IsPort, IsSlotPort}
use Rattle.block_ir.specs.declared.code.ThreadCode.{ThreadCode}
use Rattle.block_ir.specs.declared.plan.Planned.{Planned}
use Rattle.std.proofs.lemmas.List.{length-map}
use Rattle.std.proofs.Math.Nat.{min-eq_right}
use Rattle.lists.proofs.Places.{get_there}
use Rattle.thread_slots.specs.Services.{services, news_widths}
use Rattle.thread_layout.proofs.Cores.{services_count}
use Rattle.fsm_datapath.proofs.ToldByCores.{told_is, place_within, told_by, told_all}
use Rattle.thread_slots.specs.declared.shape.Shape.{Shape}
use Rattle.thread_layout.specs.Modules.{IsModule}
use Rattle.thread_promise.specs.Globals.{bank_total}
use Rattle.thread_layout.specs.Thread.{cores_of, inputs_of, bank_port, act_port, core_ports, first_output, port_at, need_at, done_at, IsServed}
use Rattle.thread_layout.specs.Leaf.{told_from, input_at, leaf_of}
use Rattle.fsm_datapath.specs.SoundLeaf.{parts_of, tells_of, IsChecked, IsLeafOf}
use Rattle.fsm_datapath.proofs.ArrayMemories.{memory_found}
use Rattle.module_sound.proofs.SoundModule.{placed_is_sound}
use Rattle.operator_wires.proofs.PutSignals.{listed}
use Rattle.thread_layout.proofs.Opened.{wired}
use Rattle.thread_layout.proofs.Placed.{from_inputs, inputs_long, bank_count}

-- ---- lists

each_map : {X : Type 0} (P Q : X → Type 0) (xs : List X) → ((x : X) → P x → Q x) → EachOf P xs → EachOf Q xs
each_map P Q [] h e = tt
each_map P Q (x ∷ xs) h e = (h x e.0, each_map P Q xs h e.1)

either_same : (t : Bool) (x : List ℕ) → (if t then x else x) ≡ x
either_same true x = refl
either_same false x = refl

quiet_effect : (m : Module) (r : Reading) (e : Effect) → is_write e ≡ false → effect_bytes m r e ≡ []
quiet_effect m r (effect.Set x y) is = refl
quiet_effect m r (effect.Store j x y) is = refl
quiet_effect m r (effect.Write text arguments) is = absurd cc

writes_nothing : (m : Module) (r : Reading) (acts : List Action) → EachOf (ActsRight m) acts → action_bytes m r acts ≡ []
writes_nothing m r [] e = refl
writes_nothing m r (a ∷ acts) e =
    ap (λ l. (if is_on r a.conditions then l else []) ++ action_bytes m r acts) (quiet_effect m r a.effect e.0.sets.silent)
    ∙ ap (λ l. l ++ action_bytes m r acts) (either_same (is_on r a.conditions) [])
    ∙ writes_nothing m r acts e.1

le_more : (n a b : ℕ) → a ≤ b → nat_le n a ≡ true → nat_le n b ≡ true
le_more n a b le e = grind arith

-- ---- a graded module

module _ (m : Module) (inputs : ℕ) (grades : List ℕ) (are : AreGrades m inputs (length m.signals) grades) (acts : EachOf (ActsRight m) m.actions) (alone : m.instances ≡ [])
    (first : (x : ℕ) → x < inputs → HasInput m x) (begun : EachOf FitsMemory m.memories) where
  -- a signal of at least this grade
  abbrev grade_of : ℕ → ℕ
  grade_of x = slice_index grades x

  abbrev late_from : ℕ → ℕ → Bool
  late_from n x = nat_le n (grade_of x)

  acts_fit : EachOf (FitsAction m) m.actions
  acts_fit = each_map (ActsRight m) (FitsAction m) m.actions (λ a t. (t.bits, t.sets.fits)) acts

  -- each signal is sound, whatever is late, where what is late stays so
  sound : (late : ℕ → Bool) → ((x y g h : ℕ) → 0 < y → slice_get grades x ≡ Some g → slice_get grades y ≡ Some h → h ≤ g → late y ≡ true → late x ≡ true) → (x : ℕ) (s : Signal)
      → slice_get m.signals x ≡ Some s → IsSound m inputs late x s
  sound late stays x s listed =
      let f = are.each x s (slice_get_within m.signals x s listed) listed in
      by_source s.source f.0 f.1 f.2.source
    where
      by_source : (source : Source) (g : ℕ) → slice_get grades x ≡ Some g → IsGradedSource m grades x inputs s.width g source → IsSoundSource m inputs late x s.width source
      by_source Input g e t = t.0
      by_source (Register n) g e t = t
      by_source (Assigned v) g e t =
          fits_among (IsOperand m grades x g) (Reads m late x) (λ j. slice_get m.memories j) s.width v
          (λ y u among o. record { has = o.has; before = o.before; in_time = λ l. stays x y g o.own o.after e o.listed o.most l }) t
      by_source (Port i p) g e t = t

  leaf_by : (late : ℕ → Bool) → ((x y g h : ℕ) → 0 < y → slice_get grades x ≡ Some g → slice_get grades y ≡ Some h → h ≤ g → late y ≡ true → late x ≡ true) → IsLeaf m inputs late
  leaf_by late stays = record { alone = alone; first = first; sound = sound late stays; acts = acts_fit; begins = begun }

  index_is : (x g : ℕ) → slice_get grades x ≡ Some g → grade_of x ≡ g
  index_is x g e = get_or_from_slice_get grades x g 0 e

  pub graded_leaf : (n : ℕ) → IsLeaf m inputs (late_from n)
  graded_leaf n =
      leaf_by (late_from n)
      (λ x y g h after e f le late.
      ap (nat_le n) (index_is x g e) ∙ le_more n h g le (ap (nat_le n) (sym (index_is y h f)) ∙ late))

  pub clockless : IsClockless m inputs
  clockless = record {
    signals = leaf_by (λ x. nat_eq x 0) (λ x y g h after e f le late. absurd (let zero_is : y ≡ 0 = eqb-true y 0 late in omega arith));
    acts = each_map (ActsRight m) IsUnclocked m.actions (λ a t. (t.unclocked, t.sets.unclocked)) acts;
  }

  -- an input's grade
  input_grade : (x : ℕ) → x < inputs → grade_of x ≡ min x 2
  input_grade x less =
      let i = first x less in
      let f = are.each x i.signal (slice_get_within m.signals x i.signal i.listed) i.listed in
      index_is x f.0 f.1 ∙ (subst (λ (s : Source). IsGradedSource m grades x inputs i.signal.width f.0 s) i.is f.2.source).1

  pub late_input : (n x : ℕ) → x < inputs → nat_le n (min x 2) ≡ true → late_from n x ≡ true
  late_input n x less e = ap (nat_le n) (input_grade x less) ∙ e

  pub early_port : (most place : ℕ) (t : IsPort m grades most place) → IsEarly m (late_from (suc most)) place t.wide
  early_port most place t = record {
    has = t.has;
    after = t.after;
    early = ap (nat_le (suc most)) (index_is place t.own t.listed) ∙ lt-leb (suc most) t.own (let below = t.below in omega arith);
  }

  pub early_slot : (place : ℕ) → IsSlotPort m grades place → late_from 2 place ≡ false
  early_slot place t = ap (nat_le 2) (index_is place 0 t.listed)

  pub slot_port : (place : ℕ) → IsSlotPort m grades place → IsEarly m (late_from 1) place 1
  slot_port place t = record { has = t.has; after = t.after; early = ap (nat_le 1) (index_is place 0 t.listed) }

-- ---- the module of a thread

-- a part of an ask has its place among those of all cores
part_place : (ports : List CorePort) (k j : ℕ) → j < parts_of ports k → ask_place ports k + j < length (asks_of ports)
part_place [] k j part = absurd (omega arith)
part_place (p ∷ ports) zero j part =
    let all : length (asks_of (p ∷ ports)) ≡ length p.asks + length (asks_of ports) = length-append p.asks (asks_of ports) in
    let none : ask_place (p ∷ ports) zero ≡ 0 = refl in
    omega arith
part_place (p ∷ ports) (suc k) j part =
    let rest = part_place ports k j part in
    let all : length (asks_of (p ∷ ports)) ≡ length p.asks + length (asks_of ports) = length-append p.asks (asks_of ports) in
    let next : ask_place (p ∷ ports) (suc k) ≡ length p.asks + ask_place ports k = length-append p.asks (asks_of (take k ports)) in
    omega arith

module _ (shape : Shape) (m : Module) (counted : length (spread_out shape.spreads (map width_of shape.globals)) ≡ bank_total shape.spreads) where
  abbrev ports : List CorePort
  ports = core_ports shape

  abbrev inputs : ℕ
  inputs = inputs_of shape

  abbrev parts : ℕ → ℕ
  parts = parts_of ports

  abbrev told : ℕ → ℕ
  told = tells_of ports

  pub ports_many : length ports ≡ cores_of shape
  ports_many =
      length-append (map bank_port (spread_out shape.spreads (map width_of shape.globals))) (map (act_port shape.served) (services shape.served))
      ∙ ap (λ n. n + length (map (act_port shape.served) (services shape.served))) (length-map (spread_out shape.spreads (map width_of shape.globals)) bank_port)
      ∙ ap (λ n. length (spread_out shape.spreads (map width_of shape.globals)) + n) (length-map (services shape.served) (act_port shape.served))
      ∙ (let one = counted in let two = services_count shape.served in
      let all : length (spread_out shape.spreads (map width_of shape.globals)) + length (services shape.served) ≡ cores_of shape = omega arith in all)

  pub told_many : inputs ≡ 2 + length ports + length (told_of ports)
  told_many =
      let all : length (told_of ports) ≡ length (spread_out shape.spreads (map width_of shape.globals)) + length (news_widths shape.served) =
      ap length (told_all (spread_out shape.spreads (map width_of shape.globals)) shape.served)
      ∙ length-append (spread_out shape.spreads (map width_of shape.globals)) (news_widths shape.served) in
      let one = counted in
      let two = ports_many in
      omega arith

  abbrev Heard_at : ℕ → Heard → Type 0
  Heard_at x h = IsHeard m inputs (leaf_of shape m) (cores_of shape) parts told x h

  abbrev behind_grants : ℕ → Heard
  behind_grants x = if nat_lt x (2 + length ports) then Grant (x - 2) else told_from 0 ports (x - (2 + length ports))

  -- an input is what its place says
  heard_ported : (x : ℕ) → x < inputs → Heard_at x (input_at ports x)
  heard_ported x less = first (nat_eq x 0) refl
    where
      third : (c : Bool) → nat_lt x (2 + length ports) ≡ c → x ≢ 0 → x ≢ 1 → Heard_at x (if c then Grant (x - 2) else told_from 0 ports (x - (2 + length ports)))
      third true e zero_not one_not =
          let below = ltb-true x (2 + length ports) e in
          let many = ports_many in
          let core : x - 2 < length ports = omega arith in
          (omega arith, lt-ltb (x - 2) (length ports) core, (let z : x ≡ 2 + (x - 2) = omega arith in z))
      third false e zero_not one_not =
          let past = ltb-false x (2 + length ports) e in
          let many = ports_many in
          let all = told_many in
          let own = told_by ports 0 (x - (2 + length ports)) (omega arith) in
          let within = own.within in
          let at = own.at in
          let plain : 0 + own.core ≡ own.core = omega arith in
          subst (Heard_at x) (sym (own.is ∙ ap (λ k. Told k own.part) plain))
          (omega arith, lt-ltb own.core (length ports) within, own.tells, (let z : x ≡ 2 + length ports + (told_place ports own.core + own.part) = omega arith in z))

      second : (c : Bool) → nat_eq x 1 ≡ c → x ≢ 0 → Heard_at x (if c then Enable else behind_grants x)
      second true e zero_not = eqb-true x 1 e
      second false e zero_not = third (nat_lt x (2 + length ports)) refl zero_not (eqb-false x 1 e)

      first : (c : Bool) → nat_eq x 0 ≡ c → Heard_at x (if c then Clock else (if nat_eq x 1 then Enable else behind_grants x))
      first true e = eqb-true x 0 e
      first false e = second (nat_eq x 1) refl (eqb-false x 0 e)

  past_enable : (x : ℕ) → 2 ≤ x → input_at ports x ≡ behind_grants x
  past_enable x le =
      ap (λ (c : Bool). if c then Clock else (if nat_eq x 1 then Enable else behind_grants x)) (ne_eqb x 0 (λ e. absurd (omega arith)))
      ∙ ap (λ (c : Bool). if c then Enable else behind_grants x) (ne_eqb x 1 (λ e. absurd (omega arith)))

  grant_heard : (k : ℕ) → k < cores_of shape → HasHeard m inputs (leaf_of shape m) (cores_of shape) parts told (2 + k) (Grant k)
  grant_heard k less =
      let many = ports_many in
      record {
        input = omega arith;
        is =
            past_enable (2 + k) (omega arith)
            ∙ ap (λ (c : Bool). if c then Grant (2 + k - 2) else told_from 0 ports (2 + k - (2 + length ports))) (lt-ltb (2 + k) (2 + length ports) (omega arith))
            ∙ ap Grant (let z : 2 + k - 2 ≡ k = omega arith in z);
      }

  told_heard : (k j : ℕ) → j < told k → HasHeard m inputs (leaf_of shape m) (cores_of shape) parts told (2 + length ports + (told_place ports k + j)) (Told k j)
  told_heard k j part =
      let all = told_many in
      let own = place_within ports k j part in
      let two = own.1 in
      let x : ℕ = 2 + length ports + (told_place ports k + j) in
      record {
        input = omega arith;
        is =
            past_enable x (omega arith)
            ∙ ap (λ (c : Bool). if c then Grant (x - 2) else told_from 0 ports (x - (2 + length ports))) (le-ltb x (2 + length ports) (omega arith))
            ∙ ap (told_from 0 ports) (let z : x - (2 + length ports) ≡ told_place ports k + j = omega arith in z) ∙ told_is ports 0 k j part
            ∙ ap (λ n. Told n j) (let z : 0 + k ≡ k = omega arith in z);
      }

module _ (shape : Shape) (code : ThreadCode) (plan : Planned) (m : Module) (t : IsModule shape code plan m) (served : IsServed shape code plan)
    (checked : IsChecked shape m) where
  abbrev all_banks : ℕ
  all_banks = bank_total shape.spreads

  abbrev count : ℕ
  count = inputs_of shape

  abbrev first : ℕ
  first = first_output shape m

  words_counted : length (spread_out shape.spreads (map width_of shape.globals)) ≡ all_banks
  words_counted = bank_count shape code plan m t served

  firsts : (x : ℕ) → x < count → HasInput m x
  firsts x less =
      let found = get_there t.laid.with_inputs x (subst (λ n. x < n) (sym (inputs_long shape code plan m t served)) less) in
      let own = (wired shape code plan m t served).inputs x found.0 (omega arith) found.1 in
      record { signal = found.0; listed = listed t.laid.with_inputs m.signals x found.0 (from_inputs shape code plan m t served) found.1; is = own.drives }

  abbrev late : ℕ → ℕ → Bool
  late = late_from m count checked.grades checked.are checked.ports.acts t.alone firsts checked.begun

  late_at : (n x : ℕ) → 2 ≤ x → x < count → nat_le n 2 ≡ true → late n x ≡ true
  late_at n x le less e =
      late_input m count checked.grades checked.are checked.ports.acts t.alone firsts checked.begun n x less (ap (nat_le n) (min-eq_right le) ∙ e)

  answers : (n : ℕ) → nat_le n 2 ≡ true → AnswersAreLate m count (leaf_of shape m) (cores_of shape) (parts_of (core_ports shape)) (tells_of (core_ports shape)) (late n)
  answers n e = record {
    leaf = graded_leaf m count checked.grades checked.are checked.ports.acts t.alone firsts checked.begun n;
    grants = λ k less uses. late_at n (2 + k) (omega arith) (omega arith) e;
    tells = λ k j less uses part.
        let place = (place_within (core_ports shape) k j part).1 in
        let all = told_many shape m words_counted in
        late_at n (2 + length (core_ports shape) + (told_place (core_ports shape) k + j)) (omega arith) (omega arith) e;
  }

  slot_bit : (place : ℕ) → IsSlotPort m checked.grades place → IsSlotBit m count (leaf_of shape m) (cores_of shape) (parts_of (core_ports shape))
      (tells_of (core_ports shape)) place
  slot_bit place s = record {
    late = late 1;
    answered = answers 1 refl;
    enable = late_input m count checked.grades checked.are checked.ports.acts t.alone firsts checked.begun 1 1 (omega arith) refl;
    bit = slot_port m count checked.grades checked.are checked.ports.acts t.alone firsts checked.begun place s;
  }

  abbrev asked : ℕ
  asked = length (asks_of (core_ports shape))

  early_output : (x : ℕ) → x < length (thread_outputs (core_ports shape)) → late 2 (first + x) ≡ false
  early_output x less =
      let long : length (thread_outputs (core_ports shape)) ≡ asked + 2 = length-append (asks_of (core_ports shape)) (1 ∷ 1 ∷ []) in
      ⊎_elim
      (λ (low : x < asked).
      (early_port m count checked.grades checked.are checked.ports.acts t.alone firsts checked.begun 1 (first + x) (checked.ports.asks x low)).early)
      (λ (high : asked ≤ x).
      ⊎_elim
      (λ (same : x ≡ asked).
      ap (λ n. late 2 (first + n)) same
      ∙ early_slot m count checked.grades checked.are checked.ports.acts t.alone firsts checked.begun (need_at shape m) checked.ports.need)
      (λ (ne : x ≢ asked).
      let last : x ≡ asked + 1 = omega arith in
      ap (λ n. late 2 (first + n)) last
      ∙ early_slot m count checked.grades checked.are checked.ports.acts t.alone firsts checked.begun (done_at shape m) checked.ports.done)
      (cases_eq x asked))
      (cases_lt x asked)

  array_named : (j : ℕ) (c : Memory) → slice_get m.memories j ≡ Some c → c.name ≡ numbered (codes "array") j
  array_named j c listed =
      let f = memory_found 0 j code.arrays c (ap (λ (l : List Memory). slice_get l j) (sym t.memories) ∙ listed) in
      let z : 0 + j ≡ j = omega arith in
      ap (λ (y : Memory). y.name) f.2 ∙ ap (numbered (codes "array")) z

  pub leaf_is : IsLeafOf shape m
  leaf_is = record {
    thread = record {
      ported = record {
        all = heard_ported shape m words_counted;
        enable = record { input = omega arith; is = refl };
        grants = λ k less uses. grant_heard shape m words_counted k less;
        tells = λ k j less uses part. told_heard shape m words_counted k j part;
      };
      clockless = clockless m count checked.grades checked.are checked.ports.acts t.alone firsts checked.begun;
      late = late 2;
      answered = answers 2 refl;
      asks = λ k j less uses part.
          let port = checked.ports.asks (ask_place (core_ports shape) k + j) (part_place (core_ports shape) k j part) in
          (port.wide, early_port m count checked.grades checked.are checked.ports.acts t.alone firsts checked.begun 1 (port_at shape m k j) port);
      need = slot_bit (need_at shape m) checked.ports.need;
      silent = λ r. writes_nothing m r m.actions checked.ports.acts;
    };
    done = slot_bit (done_at shape m) checked.ports.done;
    alone = placed_is_sound m count first checked.grades checked.are checked.ports.acts t.alone checked.memories checked.ports.placed checked.ports.begins;
    acts = checked.ports.acts;
    placed = checked.ports.placed;
    arrays = array_named;
    early = early_output;
  }
