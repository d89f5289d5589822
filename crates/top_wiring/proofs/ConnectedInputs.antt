-- What each input of an instance is connected to: a signal of its width, and from which stage.
use Rattle.std.proofs.Common.{◌≡◌, ℕ, zero, suc, ◌+◌, ◌*◌, ◌/◌, ◌%◌, ◌<◌, ◌≤◌, ◌⊎◌, Bool, true, false, nat_eq, nat_lt, if◌then◌else◌, List}
use Rattle.std.proofs.Common.{[], ◌∷◌, ◌++◌, length, take, replicate, Option, Some, None, refl, sym, ap, ◌∙◌, subst, inl, inr, arith, length-append}
use Rattle.std.specs.Prelude.{slice_get, slice_index, codes}
use Rattle.std.specs.List.{flat_map}
use Rattle.std.proofs.lemmas.Bool.Decides.{nat_tests}
use Rattle.std.proofs.lemmas.List.{length-replicate}
use Rattle.std.proofs.lemmas.Option.{same_Some, none-some, slice_get_within}
use Rattle.std.proofs.Math.Nat.{div-lt_iff_lt-mul, mod-lt, mul-add}
use Rattle.std.proofs.lemmas.Nat.{div-add-mod'}
use Rattle.lists.proofs.Places.{get_front, get_there, copies_there}
use Rattle.verilog_tree.specs.Scope.{is_clk}
use Rattle.netlist.specs.declared.netlist.Source.{Source}
use Rattle.netlist.specs.declared.netlist.Source.TheVariants as source
use Rattle.netlist.specs.declared.netlist.Signal.{Signal}
use Rattle.netlist.specs.declared.netlist.Module.{Module}
use Rattle.top_parts.specs.declared.layout.Group.{Group}
use Rattle.top_parts.specs.declared.layout.Core.{Core}
use Rattle.top_parts.specs.declared.layout.Layout.{Layout}
use Rattle.top_parts.specs.declared.wires.Wire.TheVariants.{Whole, Bit, Port}
use Rattle.top_parts.specs.Parts.{group_widths, ask_widths, told_widths, core_outputs, thread_part, core_part, arbiter_part}
use Rattle.top_parts.specs.Wires.{first_port, wire_signal}
use Rattle.top_wiring.specs.Top.{input, preference, starts, thread_inputs, core_inputs, arbiter_inputs, IsTop}
use Rattle.top_wiring.specs.Ports as ports
use Rattle.top_wiring.proofs.Lists.{get_behind, get_each_copied, get_flat_map, copies_back, get_either, flat_map_back}
use Rattle.top_wiring.proofs.TopPlaces as standing
use Rattle.top_wiring.proofs.InputLists as inputs

-- element i of the widths of a core's outputs: whether it offers, and what it tells
pub offer_width : (n : ℕ) (c : Core) (i : ℕ) → i < n → slice_get (core_outputs n c) i ≡ Some 1
offer_width n c i l = get_front (replicate n 1) (flat_map (λ (w : ℕ). replicate n w) c.told) i 1 (copies_there n 1 i l)

pub tell_width : (n : ℕ) (c : Core) (j i w : ℕ) → slice_get c.told j ≡ Some w → i < n → slice_get (core_outputs n c) (n + (j * n + i)) ≡ Some w
tell_width n c j i w e l = get_behind n (replicate n 1) (flat_map (λ (w : ℕ). replicate n w) c.told) (j * n + i) w (length-replicate n 1) (get_each_copied n c.told j i w e l)

-- the width of number j of group g of core k
pub ask_width : (all : List Core) (k g j : ℕ) (c : Core) (group : Group) → slice_get all k ≡ Some c → slice_get c.groups g ≡ Some group → j < group.count
    → slice_get (ask_widths all) (length (ask_widths (take k all)) + (length (group_widths (take g c.groups)) + j)) ≡ Some group.width
ask_width all k g j c group e h l =
    get_flat_map (λ (c : Core). group_widths c.groups) all k (length (group_widths (take g c.groups)) + j) c group.width e
    (get_flat_map (λ (g : Group). replicate g.count g.width) c.groups g j group group.width h (copies_there group.count group.width j l))

module _ (modules : List Module) (layout : Layout) (top : Module) (is : IsTop modules layout top) where
  abbrev T : ℕ
  T = length layout.threads

  abbrev K : ℕ
  K = length layout.cores

  abbrev S : List ℕ
  S = starts modules layout

  -- ---- stages: 2 and 8 for threads, 4 and 8 for cores, 6 for arbiters; wires stand between

  abbrev pub by_part : ℕ → ℕ → ℕ → ℕ → ℕ
  by_part j a b c = if nat_lt j T then a else (if nat_lt j (T + K) then b else c)

  abbrev pub early_stage : ℕ → ℕ
  early_stage j = by_part j 2 4 6

  abbrev pub late_stage : ℕ → ℕ
  late_stage j = by_part j 8 8 6

  abbrev pub source_stage : Source → ℕ
  source_stage source.Input = 0
  source_stage (source.Register x) = 0
  source_stage (source.Assigned a) = 1
  source_stage (source.Port j q) = by_part j 3 5 7

  abbrev pub signal_stage : Option Signal → ℕ
  signal_stage None = 0
  signal_stage (Some s) = if s.is_output then 9 else source_stage s.source

  abbrev pub wire_stage : ℕ → ℕ
  wire_stage y = signal_stage (slice_get top.signals y)

  pub of_thread_part : (j a b c : ℕ) → j < T → by_part j a b c ≡ a
  of_thread_part j a b c l = let t : nat_lt j T ≡ true = grind (arith, nat_tests) in ap (λ x. if x then a else (if nat_lt j (T + K) then b else c)) t

  pub of_core_part : (k a b c : ℕ) → k < K → by_part (T + k) a b c ≡ b
  of_core_part k a b c l =
      let t : nat_lt (T + k) T ≡ false = let g : T ≤ T + k = omega arith in grind (arith, nat_tests) in
      let u : nat_lt (T + k) (T + K) ≡ true = let g : T + k < T + K = omega arith in grind (arith, nat_tests) in
      ap (λ x. if x then a else (if nat_lt (T + k) (T + K) then b else c)) t ∙ ap (λ x. if x then b else c) u

  pub of_arbiter_part : (k a b c : ℕ) → by_part (T + K + k) a b c ≡ c
  of_arbiter_part k a b c =
      let t : nat_lt (T + K + k) T ≡ false = let g : T ≤ T + K + k = omega arith in grind (arith, nat_tests) in
      let u : nat_lt (T + K + k) (T + K) ≡ false = let g : T + K ≤ T + K + k = omega arith in grind (arith, nat_tests) in
      ap (λ x. if x then a else (if nat_lt (T + K + k) (T + K) then b else c)) t ∙ ap (λ x. if x then b else c) u

  -- the stage of a wire that an instance drives
  pub stage_is : (x j v q : ℕ) → slice_get top.signals x ≡ Some (wire_signal x (Port v j q)) → wire_stage x ≡ by_part j 3 5 7
  stage_is x j v q e = ap signal_stage e

  -- input x of an instance with these inputs is connected to a signal that is v bits wide: one of an early stage, or
  -- the input is a late one; input 0 alone is connected to the clock
  pub record Joins (inputs : List ℕ) (low : ℕ) (Late : ℕ → Type 0) (x v : ℕ) : Type 0 where
    pub place : ℕ
    pub connects : slice_get inputs x ≡ Some place
    pub signal : Signal
    pub stands : slice_get top.signals place ≡ Some signal
    pub wide : signal.width ≡ v
    pub clock : is_clk signal.name ≡ nat_eq x 0
    pub from : (wire_stage place ≤ low) ⊎ ((wire_stage place ≤ 7) × Late x)

  -- ---- of thread i

  abbrev pub LateOfThread : ℕ → Type 0
  LateOfThread x = ((k : ℕ) × (k < K) × (x ≡ 2 + k)) ⊎ ((y : ℕ) × (y < ports.told layout) × (x ≡ 2 + K + y))

  module _ (i number : ℕ) (a : slice_get layout.threads i ≡ Some number) where
    abbrev own : List ℕ
    own = thread_inputs S T K layout.cores i

    abbrev ThreadJoins : ℕ → ℕ → Type 0
    ThreadJoins = Joins (thread_inputs S T K layout.cores i) 1 LateOfThread

    thread_in : i < T
    thread_in = slice_get_within layout.threads i number a

    thread_head : (x v : ℕ) → slice_get (1 ∷ 1 ∷ []) x ≡ Some v → ThreadJoins x v
    thread_head zero v h =
        let stands = standing.clock_stands modules layout top is in
        record {
          place = 0;
          connects = refl;
          signal = input (codes "clk") 1;
          stands = stands;
          wide = same_Some 1 v h;
          clock = refl;
          from = inl (let s : wire_stage 0 ≡ 0 = ap signal_stage stands in omega arith);
        }
    thread_head (suc zero) v h =
        let stands = standing.enable_stands modules layout top is i thread_in in
        let s : wire_stage (2 + K + i) ≡ 1 = ap signal_stage stands ∙ enable_stage (nat_eq T 1) in
        record {
          place = 2 + K + i;
          connects = refl;
          signal = wire_signal (2 + K + i) (standing.enable_wire T i);
          stands = stands;
          wide = enable_width (nat_eq T 1) ∙ same_Some 1 v h;
          clock = refl;
          from = inl (omega arith);
        }
      where
        enable_stage : (b : Bool) → signal_stage (Some (wire_signal (2 + K + i) (if b then Whole else Bit i))) ≡ 1
        enable_stage true = refl
        enable_stage false = refl

        enable_width : (b : Bool) → (wire_signal (2 + K + i) (if b then Whole else Bit i)).width ≡ 1
        enable_width true = refl
        enable_width false = refl
    thread_head (suc (suc x)) v h = absurd (none-some v h)

    thread_grant : (k : ℕ) → k < K → ThreadJoins (2 + k) 1
    thread_grant k l =
        let place = slice_index S (T + K + k) + i in
        let q = first_port modules (arbiter_part T layout.arbiter k) + i in
        let stands = standing.port_stands modules layout top is (T + K + k) i 1 (arbiter_part T layout.arbiter k) (standing.arbiter_part_at layout k l) (copies_there T 1 i thread_in) in
        let s = stage_is place (T + K + k) 1 q stands in
        let u = of_arbiter_part k 3 5 7 in
        record {
          place = place;
          connects = inputs.grant_input S T K layout.cores i k l;
          signal = wire_signal place (Port 1 (T + K + k) q);
          stands = stands;
          wide = refl;
          clock = (let z : nat_eq (2 + k) 0 ≡ false = grind (arith, nat_tests) in sym z);
          from = inr (omega arith, inl (k, l, refl));
        }

    thread_told : (k j v : ℕ) (c : Core) → slice_get layout.cores k ≡ Some c → slice_get c.told j ≡ Some v → ports.told_before layout k + j < ports.told layout
        → ThreadJoins (2 + K + (ports.told_before layout k + j)) v
    thread_told k j v c e g l =
        let b = slice_get_within layout.cores k c e in
        let r = T + (j * T + i) in
        let place = slice_index S (T + k) + r in
        let q = first_port modules (core_part T c) + r in
        let stands = standing.port_stands modules layout top is (T + k) r v (core_part T c) (standing.core_part_at layout k c e) (tell_width T c j i v g thread_in) in
        let s = stage_is place (T + k) v q stands in
        let u = of_core_part k 3 5 7 b in
        record {
          place = place;
          connects = inputs.told_input S T K layout.cores i k j c e (slice_get_within c.told j v g);
          signal = wire_signal place (Port v (T + k) q);
          stands = stands;
          wide = refl;
          clock = (let z : nat_eq (2 + K + (ports.told_before layout k + j)) 0 ≡ false = grind (arith, nat_tests) in sym z);
          from = inr (omega arith, inr (ports.told_before layout k + j, l, refl));
        }

    pub thread_joins : (x v : ℕ) → slice_get (ports.thread_inputs layout) x ≡ Some v → Joins (thread_inputs S T K layout.cores i) 1 LateOfThread x v
    thread_joins x v h = elim (get_either (1 ∷ 1 ∷ [] ++ replicate K 1) (told_widths layout.cores) x v h) [
      | inl g ↦ elim (get_either (1 ∷ 1 ∷ []) (replicate K 1) x v g) [
        | inl f ↦ thread_head x v f
        | inr f ↦
            let b = copies_back K f.at 1 v f.found in
            let is : 2 + f.at ≡ x = sym f.is in
            subst (λ z. ThreadJoins x z) (sym b.1) (subst (λ z. ThreadJoins z 1) is (thread_grant f.at b.0))
      ]
      | inr g ↦
          let b = flat_map_back (λ (c : Core). c.told) layout.cores g.at v g.found in
          let place : g.at ≡ ports.told_before layout b.number + b.rest = b.place in
          let inside : g.at < ports.told layout = slice_get_within (told_widths layout.cores) g.at v g.found in
          let few : ports.told_before layout b.number + b.rest < ports.told layout = omega arith in
          let a = length-append {A = ℕ} (1 ∷ 1 ∷ []) (replicate K 1) in
          let d : length (replicate {A = ℕ} K 1) ≡ K = length-replicate {A = ℕ} K 1 in
          let e : x ≡ length (1 ∷ 1 ∷ [] ++ replicate {A = ℕ} K 1) + g.at = g.is in
          let is : 2 + K + (ports.told_before layout b.number + b.rest) ≡ x = omega arith in
          subst (λ z. ThreadJoins z v) is (thread_told b.number b.rest v b.item b.listed b.found few)
    ]

  -- ---- of core k

  abbrev pub LateOfCore : Core → ℕ → Type 0
  LateOfCore c x = (i : ℕ) × (i < T) × (x ≡ 1 + (T * length (group_widths c.groups) + i))

  module _ (k : ℕ) (c : Core) (a : slice_get layout.cores k ≡ Some c) where
    abbrev CoreJoins : ℕ → ℕ → Type 0
    CoreJoins = Joins (core_inputs S T K (ports.asked_before layout k) k c.groups) 3 (LateOfCore c)

    core_in : k < K
    core_in = slice_get_within layout.cores k c a

    core_clock : (x v : ℕ) → slice_get (1 ∷ []) x ≡ Some v → CoreJoins x v
    core_clock zero v h =
        let stands = standing.clock_stands modules layout top is in
        record {
          place = 0;
          connects = refl;
          signal = input (codes "clk") 1;
          stands = stands;
          wide = same_Some 1 v h;
          clock = refl;
          from = inl (let s : wire_stage 0 ≡ 0 = ap signal_stage stands in omega arith);
        }
    core_clock (suc x) v h = absurd (none-some v h)

    core_ask : (g j i : ℕ) (group : Group) → slice_get c.groups g ≡ Some group → j < group.count → i < T
        → CoreJoins (1 + (T * length (group_widths (take g c.groups)) + (i * group.count + j))) group.width
    core_ask g j i group h d l =
        let t = get_there layout.threads i l in
        let at = length (group_widths (take g c.groups)) in
        let asks = ask_widths layout.cores in
        let behind = ports.asked_before layout k + (at + j) in
        let place = slice_index S i + behind in
        let same : slice_index S i + (ports.asked_before layout k + at) + j ≡ place = omega arith in
        let q = first_port modules (thread_part asks t.0) + behind in
        let x = 1 + (T * at + (i * group.count + j)) in
        let stands = standing.port_stands modules layout top is i behind group.width (thread_part asks t.0) (standing.thread_part_at layout i t.0 t.1)
        (get_front asks (replicate 2 1) behind group.width (ask_width layout.cores k g j c group a h d)) in
        let s = stage_is place i group.width q stands in
        let u = of_thread_part i 3 5 7 l in
        record {
          place = place;
          connects = inputs.ask_input S T K (ports.asked_before layout k) c.groups k g j i group h d l ∙ ap (λ z. Some z) same;
          signal = wire_signal place (Port group.width i q);
          stands = stands;
          wide = refl;
          clock = above x (omega arith);
          from = inl (omega arith);
        }
      where
        above : (x : ℕ) → 0 < x → false ≡ nat_eq x 0
        above x l = let z : nat_eq x 0 ≡ false = grind (arith, nat_tests) in sym z

    core_granted : (i : ℕ) → i < T → CoreJoins (1 + (T * length (group_widths c.groups) + i)) 1
    core_granted i l =
        let place = slice_index S (T + K + k) + i in
        let q = first_port modules (arbiter_part T layout.arbiter k) + i in
        let x = 1 + (T * length (group_widths c.groups) + i) in
        let stands = standing.port_stands modules layout top is (T + K + k) i 1 (arbiter_part T layout.arbiter k) (standing.arbiter_part_at layout k core_in) (copies_there T 1 i l) in
        let s = stage_is place (T + K + k) 1 q stands in
        let u = of_arbiter_part k 3 5 7 in
        record {
          place = place;
          connects = inputs.granting_input S T K (ports.asked_before layout k) c.groups k i l;
          signal = wire_signal place (Port 1 (T + K + k) q);
          stands = stands;
          wide = refl;
          clock = above x (omega arith);
          from = inr (omega arith, (i, l, refl));
        }
      where
        above : (x : ℕ) → 0 < x → false ≡ nat_eq x 0
        above x l = let z : nat_eq x 0 ≡ false = grind (arith, nat_tests) in sym z

    pub length-asks : (gs : List Group) → length (flat_map (λ (g : Group). replicate (T * g.count) g.width) gs) ≡ T * length (group_widths gs)
    length-asks [] = omega arith
    length-asks (g ∷ gs) =
        let r = length-asks gs in
        let b = length-append (replicate (T * g.count) g.width) (flat_map (λ (g : Group). replicate (T * g.count) g.width) gs) in
        let d = length-replicate (T * g.count) g.width in
        let e = length-append (replicate g.count g.width) (group_widths gs) in
        let f = length-replicate g.count g.width in
        let q : length (replicate g.count g.width ++ group_widths gs) ≡ g.count + length (group_widths gs) = omega arith in
        let s = mul-add T g.count (length (group_widths gs)) in
        let z : T * length (replicate g.count g.width ++ group_widths gs) ≡ T * (g.count + length (group_widths gs)) = ap (λ x. T * x) q in
        omega arith

    positive : (x count : ℕ) → x < T * count → 0 < count
    positive x zero l = absurd (omega arith)
    positive x (suc count) l = omega arith

    core_asked : (y v : ℕ) → slice_get (flat_map (λ (g : Group). replicate (T * g.count) g.width) c.groups) y ≡ Some v → CoreJoins (1 + y) v
    core_asked y v h =
        let b = flat_map_back (λ (g : Group). replicate (T * g.count) g.width) c.groups y v h in
        let d = copies_back (T * b.item.count) b.rest b.item.width v b.found in
        let count = b.item.count in
        let some : 0 < count = positive b.rest count d.0 in
        let i = b.rest / count in
        let j = b.rest % count in
        let split : i * count + j ≡ b.rest = div-add-mod' b.rest count in
        let low : j < count = mod-lt b.rest some in
        let few : i < T = (div-lt_iff_lt-mul {k = count} {x = b.rest} {y = T} some).1 d.0 in
        let at = length-asks (take b.number c.groups) in
        let place = b.place in
        let is : 1 + (T * length (group_widths (take b.number c.groups)) + (i * count + j)) ≡ 1 + y = omega arith in
        subst (λ z. CoreJoins (1 + y) z) (sym d.1) (subst (λ z. CoreJoins z b.item.width) is (core_ask b.number j i b.item b.listed low few))

    pub core_joins : (x v : ℕ) → slice_get (ports.core_inputs layout c) x ≡ Some v
        → Joins (core_inputs S T K (ports.asked_before layout k) k c.groups) 3 (LateOfCore c) x v
    core_joins x v h =
        let all : List ℕ = flat_map (λ (g : Group). replicate (T * g.count) g.width) c.groups in
        elim (get_either (1 ∷ [] ++ all) (replicate T 1) x v h) [
          | inl g ↦ elim (get_either (1 ∷ []) all x v g) [
            | inl f ↦ core_clock x v f
            | inr f ↦ let is : 1 + f.at ≡ x = sym f.is in subst (λ z. CoreJoins z v) is (core_asked f.at v f.found)
          ]
          | inr g ↦
              let b = copies_back T g.at 1 v g.found in
              let d = length-append {A = ℕ} (1 ∷ []) all in
              let e = length-asks c.groups in
              let f = g.is in
              let is : 1 + (T * length (group_widths c.groups) + g.at) ≡ x = omega arith in
              subst (λ z. CoreJoins x z) (sym b.1) (subst (λ z. CoreJoins z 1) is (core_granted g.at b.0))
        ]

  -- ---- of arbiter k

  abbrev pub Never : ℕ → Type 0
  Never x = ⊥

  module _ (k : ℕ) (l : k < K) where
    abbrev ArbiterJoins : ℕ → ℕ → Type 0
    ArbiterJoins = Joins (arbiter_inputs S T K k) 5 Never

    arbiter_head : (x v : ℕ) → slice_get (1 ∷ 6 ∷ []) x ≡ Some v → ArbiterJoins x v
    arbiter_head zero v h =
        let stands = standing.clock_stands modules layout top is in
        record {
          place = 0;
          connects = refl;
          signal = input (codes "clk") 1;
          stands = stands;
          wide = same_Some 1 v h;
          clock = refl;
          from = inl (let s : wire_stage 0 ≡ 0 = ap signal_stage stands in omega arith);
        }
    arbiter_head (suc zero) v h =
        let stands = standing.preference_stands modules layout top is k l in
        record {
          place = 2 + k;
          connects = refl;
          signal = preference k;
          stands = stands;
          wide = same_Some 6 v h;
          clock = refl;
          from = inl (let s : wire_stage (2 + k) ≡ 0 = ap signal_stage stands in omega arith);
        }
    arbiter_head (suc (suc x)) v h = absurd (none-some v h)

    arbiter_offer : (i : ℕ) → i < T → ArbiterJoins (2 + i) 1
    arbiter_offer i b =
        let c = get_there layout.cores k l in
        let place = slice_index S (T + k) + i in
        let q = first_port modules (core_part T c.0) + i in
        let stands = standing.port_stands modules layout top is (T + k) i 1 (core_part T c.0) (standing.core_part_at layout k c.0 c.1) (offer_width T c.0 i b) in
        let s = stage_is place (T + k) 1 q stands in
        let u = of_core_part k 3 5 7 l in
        record {
          place = place;
          connects = inputs.offer_input S T K k i b;
          signal = wire_signal place (Port 1 (T + k) q);
          stands = stands;
          wide = refl;
          clock = (let z : nat_eq (2 + i) 0 ≡ false = grind (arith, nat_tests) in sym z);
          from = inl (omega arith);
        }

    pub arbiter_joins : (x v : ℕ) → slice_get (ports.arbiter_inputs layout) x ≡ Some v → Joins (arbiter_inputs S T K k) 5 Never x v
    arbiter_joins x v h = elim (get_either (1 ∷ 6 ∷ []) (replicate T 1) x v h) [
      | inl g ↦ arbiter_head x v g
      | inr g ↦
          let b = copies_back T g.at 1 v g.found in
          let is : 2 + g.at ≡ x = sym g.is in
          subst (λ z. ArbiterJoins x z) (sym b.1) (subst (λ z. ArbiterJoins z 1) is (arbiter_offer g.at b.0))
    ]
