-- The module top is laid out soundly.
use Rattle.std.proofs.Common.{◌≡◌, ◌≢◌, ℕ, zero, suc, ◌+◌, ◌-◌, ◌*◌, ◌<◌, ◌≤◌, Bool, true, false, nat_eq, nat_lt, if◌then◌else◌}
use Rattle.std.proofs.Common.{List, [], ◌∷◌, ◌++◌, length, get_or, replicate, Some, refl, sym, ap, ◌∙◌, subst, inl, inr, arith, length-append}
use Rattle.std.specs.Prelude.{slice_get, slice_index, codes, filter, option_map, ◌&&◌, ◌==◌, nat_le}
use Rattle.std.specs.List.{flat_map}
use Rattle.std.proofs.lemmas.Bool.Decides.{nat_tests}
use Rattle.std.proofs.lemmas.Slice.Eq.{bytes_eq-Decides}
use Rattle.std.proofs.lemmas.List.{length-replicate, append-nil}
use Rattle.std.proofs.lemmas.List.Elements.{filter-append}
use Rattle.std.proofs.lemmas.Option.{same_Some, none-some, slice_get_within}
use Rattle.std.proofs.lemmas.Bool.{and_from}
use Rattle.lists.proofs.Places.{get_there}
use Rattle.verilog_tree.specs.Scope.{is_clk}
use Rattle.netlist.specs.declared.netlist.Value.TheVariants.{Select}
use Rattle.netlist.specs.declared.netlist.Source.TheVariants as source
use Rattle.netlist.specs.declared.netlist.Signal.{Signal}
use Rattle.netlist.specs.declared.netlist.Instance.{Instance}
use Rattle.netlist.specs.declared.netlist.Module.{Module}
use Rattle.netlist.specs.NetlistOf.{is_output_port}
use Rattle.netlist.specs.Laid.{AreSignals, kind_of, is_input_port, is_inner, input_signals, inner_signals, output_signals, first_output, IsDriven, IsLaidSignal, IsLaidInstance, IsLaidModule}
use Rattle.netlist.specs.Sound.{width, width_read, has_width, source_fits, IsSoundSignal, is_clk_at, input_fits, IsSoundInstance, IsSoundModule}
use Rattle.circuit.specs.Rows.{spread}
use Rattle.circuit.proofs.Growth.{length-spread}
use Rattle.top_parts.specs.declared.layout.Group.{Group}
use Rattle.top_parts.specs.declared.layout.Core.{Core}
use Rattle.top_parts.specs.declared.layout.Layout.{Layout}
use Rattle.top_parts.specs.declared.parts.Part.{Part}
use Rattle.top_parts.specs.declared.wires.Wire.{Wire}
use Rattle.top_parts.specs.declared.wires.Wire.TheVariants.{Whole, Bit, Port}
use Rattle.top_parts.specs.Parts.{each_from, group_widths, ask_widths, told_widths, thread_outputs, core_outputs, thread_part, core_part, arbiter_part, parts, output_count}
use Rattle.top_parts.specs.Wires.{ports_from, first_port, wire_signal}
use Rattle.top_wiring.specs.Top.{input, preference, output, run, starts, all_wires, done_place, thread_inputs, core_inputs, arbiter_inputs, outputs_at, thread_instance, IsTop}
use Rattle.top_wiring.specs.Ports as ports
use Rattle.circuit.specs.Interfaces.{HasInterface}
use Rattle.top_wiring.specs.Sound.{AreSound}
use Rattle.top_wiring.proofs.Lists.{no_places, get_either, each_back, spread_back, get_spread}
use Rattle.top_wiring.proofs.InstanceKinds as kinds
use Rattle.top_wiring.proofs.InstanceKinds.Kind.{of_thread, of_core, of_arbiter}
use Rattle.top_wiring.proofs.SignalKinds as signals
use Rattle.top_wiring.proofs.SignalKinds.SignalKind.{clock, mask, chosen, wire, done}
use Rattle.top_wiring.proofs.SignalKinds.WireKind.{whole, bit, port}
use Rattle.top_wiring.proofs.TopPlaces as standing
use Rattle.top_wiring.proofs.InputLists as inputs
use Rattle.top_wiring.proofs.ConnectedInputs as joining
use Rattle.top_wiring.proofs.ApartNames.{names_apart}

-- ---- filters

filtered : {A : Type 0} (p : A → Bool) (b : Bool) (x : A) (xs : List A) → p x ≡ b → filter p (x ∷ xs) ≡ (if b then x ∷ filter p xs else filter p xs)
filtered p b x xs e = ap (λ z. if z then x ∷ filter p xs else filter p xs) e

pub all_kept : {A : Type 0} (p : A → Bool) (xs : List A) → ((k : ℕ) (x : A) → slice_get xs k ≡ Some x → p x ≡ true) → filter p xs ≡ xs
all_kept p [] h = refl
all_kept p (x ∷ xs) h = filtered p true x xs (h 0 x refl) ∙ ap (λ l. x ∷ l) (all_kept p xs (λ k y e. h (suc k) y e))

pub none_kept : {A : Type 0} (p : A → Bool) (xs : List A) → ((k : ℕ) (x : A) → slice_get xs k ≡ Some x → p x ≡ false) → filter p xs ≡ []
none_kept p [] h = refl
none_kept p (x ∷ xs) h = filtered p false x xs (h 0 x refl) ∙ none_kept p xs (λ k y e. h (suc k) y e)

-- a name that does not begin as clk
no_clock : (name : List ℕ) (a : ℕ) → get_or name 0 0 ≡ a → a ≢ 99 → is_clk name ≡ false
no_clock name a e h = by_test (is_clk name) refl
  where
    by_test : (b : Bool) → is_clk name ≡ b → b ≡ false
    by_test false q = refl
    by_test true q = absurd (let z : name ≡ codes "clk" = grind (arith, bytes_eq-Decides) in h (sym e ∙ ap (λ y. get_or y 0 0) z))

module _ (layout : Layout) (modules : List Module) (sound : AreSound layout modules) (top : Module) (is : IsTop modules layout top) where
  abbrev T : ℕ
  T = length layout.threads

  abbrev K : ℕ
  K = length layout.cores

  abbrev S : List ℕ
  S = starts modules layout

  some_threads : 1 ≤ T
  some_threads = sound.small.some

  few_threads : T ≤ 64
  few_threads = sound.small.few_threads

  abbrev Threads : ℕ → Module → Type 0
  Threads = λ i m. HasInterface m (ports.thread_inputs layout) (thread_outputs (ask_widths layout.cores))

  abbrev Cores : ℕ → Core → Module → Type 0
  Cores = λ k c m. HasInterface m (ports.core_inputs layout c) (core_outputs (ports.threads layout) c)

  abbrev Arbiters : ℕ → Module → Type 0
  Arbiters = λ k m. HasInterface m (ports.arbiter_inputs layout) (ports.arbiter_outputs layout)

  kind_at : (j : ℕ) (x : Instance) → slice_get top.instances j ≡ Some x → kinds.Kind layout modules Threads Cores Arbiters j x
  kind_at j x e = kinds.kind_of layout modules Threads Cores Arbiters sound.each top is j x e

  -- ---- what is known of instance j, whatever its kind

  record IsInstance (j : ℕ) (x : Instance) : Type 0 where
    of : Module
    there : slice_get modules x.of ≡ Some of
    ins : List ℕ
    outs : List ℕ
    interface : HasInterface of ins outs
    part : Part
    listed : slice_get (parts layout) j ≡ Some part
    part_of : part.of ≡ x.of
    part_outs : part.outputs ≡ outs
    as_many : length x.inputs ≡ length ins
    outputs : x.outputs ≡ outputs_at S (parts layout) j
    joins : (y v : ℕ) → slice_get ins y ≡ Some v
        → (place : ℕ) × (s : Signal) × (slice_get x.inputs y ≡ Some place) × (slice_get top.signals place ≡ Some s) × (s.width ≡ v) × (is_clk s.name ≡ nat_eq y 0)
    clock : is_clk x.name ≡ false

  joined : (ins : List ℕ) (low : ℕ) (Late : ℕ → Type 0) (y v : ℕ) → joining.Joins modules layout top is ins low Late y v
      → (place : ℕ) × (s : Signal) × (slice_get ins y ≡ Some place) × (slice_get top.signals place ≡ Some s) × (s.width ≡ v) × (is_clk s.name ≡ nat_eq y 0)
  joined ins low Late y v h = (h.place, h.signal, h.connects, h.stands, h.wide, h.clock)

  instance_is : (j : ℕ) (x : Instance) → kinds.Kind layout modules Threads Cores Arbiters j x → IsInstance j x
  instance_is j x (of_thread number m a q b leaf) =
      let own = thread_instance S T K (parts layout) layout.cores j number in
      let e : x.inputs ≡ thread_inputs S T K layout.cores j = ap (λ (z : Instance). z.inputs) q in
      record {
        of = m;
        there = ap (λ (z : Instance). slice_get modules z.of) q ∙ b;
        ins = ports.thread_inputs layout;
        outs = thread_outputs (ask_widths layout.cores);
        interface = leaf;
        part = thread_part (ask_widths layout.cores) number;
        listed = standing.thread_part_at layout j number a;
        part_of = ap (λ (z : Instance). z.of) (sym q);
        part_outs = refl;
        as_many = ap length e ∙ inputs.thread_many S T K layout.cores j ∙ sym (widths_many (told_widths layout.cores));
        outputs = ap (λ (z : Instance). z.outputs) q;
        joins = λ y v h. subst (λ l. (place : ℕ) × (s : Signal) × (slice_get l y ≡ Some place) × (slice_get top.signals place ≡ Some s) × (s.width ≡ v) × (is_clk s.name ≡ nat_eq y 0)) (sym e)
            (joined (thread_inputs S T K layout.cores j) 1 (joining.LateOfThread modules layout top is) y v (joining.thread_joins modules layout top is j number a y v h));
        clock = ap (λ (z : Instance). is_clk z.name) q;
      }
    where
      widths_many : (told : List ℕ) → length (1 ∷ 1 ∷ [] ++ replicate K 1 ++ told) ≡ 2 + K + length told
      widths_many told =
          let c = length-append {A = ℕ} (1 ∷ 1 ∷ [] ++ replicate K 1) told in
          let d = length-append {A = ℕ} (1 ∷ 1 ∷ []) (replicate K 1) in
          let e : length (replicate {A = ℕ} K 1) ≡ K = length-replicate {A = ℕ} K 1 in
          omega arith
  instance_is j x (of_core k c m p a q b leaf) =
      let asked = ports.asked_before layout k in
      let e : x.inputs ≡ core_inputs S T K asked k c.groups = ap (λ (z : Instance). z.inputs) q in
      let l = slice_get_within layout.cores k c a in
      record {
        of = m;
        there = ap (λ (z : Instance). slice_get modules z.of) q ∙ b;
        ins = ports.core_inputs layout c;
        outs = core_outputs T c;
        interface = leaf;
        part = core_part T c;
        listed = ap (slice_get (parts layout)) p ∙ standing.core_part_at layout k c a;
        part_of = ap (λ (z : Instance). z.of) (sym q);
        part_outs = refl;
        as_many = ap length e ∙ inputs.core_many S T K asked c.groups k ∙ sym core_widths;
        outputs = ap (λ (z : Instance). z.outputs) q ∙ ap (outputs_at S (parts layout)) (sym p);
        joins = λ y v h. subst (λ l. (place : ℕ) × (s : Signal) × (slice_get l y ≡ Some place) × (slice_get top.signals place ≡ Some s) × (s.width ≡ v) × (is_clk s.name ≡ nat_eq y 0)) (sym e)
            (joined (core_inputs S T K asked k c.groups) 3 (joining.LateOfCore modules layout top is c) y v (joining.core_joins modules layout top is k c a y v h));
        clock = ap (λ (z : Instance). is_clk z.name) q ∙ no_clock c.name 117 (sound.core_names k c a) (λ z. omega arith);
      }
    where
      core_widths : length (ports.core_inputs layout c) ≡ 1 + T * length (group_widths c.groups) + T
      core_widths =
          let all : List ℕ = flat_map (λ (g : Group). replicate (T * g.count) g.width) c.groups in
          let d = length-append {A = ℕ} (1 ∷ [] ++ all) (replicate T 1) in
          let e = length-append {A = ℕ} (1 ∷ []) all in
          let f = joining.length-asks modules layout top is k c a c.groups in
          let g : length (replicate {A = ℕ} T 1) ≡ T = length-replicate {A = ℕ} T 1 in
          omega arith
  instance_is j x (of_arbiter k m p l q b leaf) =
      let e : x.inputs ≡ arbiter_inputs S T K k = ap (λ (z : Instance). z.inputs) q in
      record {
        of = m;
        there = ap (λ (z : Instance). slice_get modules z.of) q ∙ b;
        ins = ports.arbiter_inputs layout;
        outs = ports.arbiter_outputs layout;
        interface = leaf;
        part = arbiter_part T layout.arbiter k;
        listed = ap (slice_get (parts layout)) p ∙ standing.arbiter_part_at layout k l;
        part_of = ap (λ (z : Instance). z.of) (sym q);
        part_outs = refl;
        as_many = ap length e ∙ inputs.arbiter_many S T K k ∙ sym arbiter_widths;
        outputs = ap (λ (z : Instance). z.outputs) q ∙ ap (outputs_at S (parts layout)) (sym p);
        joins = λ y v h. subst (λ l. (place : ℕ) × (s : Signal) × (slice_get l y ≡ Some place) × (slice_get top.signals place ≡ Some s) × (s.width ≡ v) × (is_clk s.name ≡ nat_eq y 0)) (sym e)
            (joined (arbiter_inputs S T K k) 5 (joining.Never modules layout top is) y v (joining.arbiter_joins modules layout top is k l y v h));
        clock = ap (λ (z : Instance). is_clk z.name) q;
      }
    where
      arbiter_widths : length (ports.arbiter_inputs layout) ≡ 2 + T
      arbiter_widths =
          let d = length-append {A = ℕ} (1 ∷ 6 ∷ []) (replicate T 1) in
          let e : length (replicate {A = ℕ} T 1) ≡ T = length-replicate {A = ℕ} T 1 in
          omega arith

  known : (j : ℕ) (x : Instance) → slice_get top.instances j ≡ Some x → IsInstance j x
  known j x e = instance_is j x (kind_at j x e)

  -- where the outputs of its module begin
  first_same : (j : ℕ) (x : Instance) (h : IsInstance j x) → first_port modules h.part ≡ first_output h.of
  first_same j x h =
      ap (λ o. ports_from o (length h.part.outputs)) (ap (slice_get modules) h.part_of ∙ h.there)
      ∙ ap (λ k. length h.of.signals - k) (ap length h.part_outs ∙ sym h.interface.output_count)

  outputs_are : (j : ℕ) (x : Instance) (h : IsInstance j x) → x.outputs ≡ run (slice_index S j) (length h.outs)
  outputs_are j x h = h.outputs ∙ ap (run (slice_index S j)) (ap output_count h.listed ∙ ap length h.part_outs)

  -- ---- the signals

  part_instance : (j : ℕ) (p : Part) → slice_get (parts layout) j ≡ Some p → (x : Instance) × (slice_get top.instances j ≡ Some x) × IsInstance j x
  part_instance j p e =
      let x = get_there top.instances j (let a = slice_get_within (parts layout) j p e in let b = standing.as_many modules layout top is in omega arith) in
      (x.0, x.1, known j x.0 x.1)

  driven : (place j r v : ℕ) (p : Part) → slice_get (parts layout) j ≡ Some p → slice_get p.outputs r ≡ Some v → place ≡ slice_index S j + r
      → IsDriven modules top place j (first_port modules p + r) × ((1 ≤ v) × (v ≤ 64))
  driven place j r v p e g at =
      let i = part_instance j p e in
      let h = i.2 in
      let same : p ≡ h.part = same_Some p h.part (sym e ∙ h.listed) in
      let there : slice_get h.outs r ≡ Some v = ap (λ l. slice_get l r) (sym (ap (λ (z : Part). z.outputs) same ∙ h.part_outs)) ∙ g in
      let inside = slice_get_within h.outs r v there in
      let has = h.interface.ports.outputs_are r v there in
      let laid = (sound.laid i.0.of h.of h.there).signals (length h.of.signals - length h.outs + r) has.signal has.listed in
      let wide = has.wide in
      let low = laid.low in
      let high = laid.high in (
        record {
          instance = i.0;
          of = h.of;
          output = r;
          stands = i.1;
          earlier = h.there;
          port_is = ap (λ (z : Part). first_port modules z + r) same ∙ ap (λ z. z + r) (first_same j i.0 h);
          tied = ap (λ l. slice_get l r) (outputs_are j i.0 h) ∙ get_spread (λ z. slice_index S j + z) (length h.outs) r inside ∙ ap (λ z. Some z) (sym at);
        },
        ((omega arith), (omega arith)),
      )

  one_place : (a : ℕ) → a < length top.signals → AreSignals top (a ∷ [])
  one_place a l zero x e = subst (λ z. z < length top.signals) (same_Some a x e) l
  one_place a l (suc k) x e = absurd (none-some x e)

  long : length top.signals ≡ 2 + K + length (all_wires modules layout) + 1
  long = standing.length-signals modules layout top is

  wire_laid : (x y : ℕ) (v : Wire) → x ≡ 2 + K + y → signals.WireKind modules layout y v → IsLaidSignal modules top x (wire_signal x v)
  wire_laid x y v e (whole one first q) =
      subst (λ z. IsLaidSignal modules top x (wire_signal x z)) (sym q)
      (record { low = omega arith; high = omega arith; drives = (one_place 1 (let z = long in omega arith), no_places _) })
  wire_laid x y v e (bit many l q) =
      subst (λ z. IsLaidSignal modules top x (wire_signal x z)) (sym q)
      (record { low = omega arith; high = omega arith; drives = (one_place 1 (let z = long in omega arith), no_places _) })
  wire_laid x y v e (port j p r u f g q h) =
      let d = driven x j r u p f g (e ∙ h) in
      subst (λ z. IsLaidSignal modules top x (wire_signal x z)) (sym q) (record { low = d.1.0; high = d.1.1; drives = d.0 })

  done_below : done_place modules layout < length top.signals
  done_below =
      let t = get_there layout.threads 0 (let z = some_threads in omega arith) in
      slice_get_within top.signals (done_place modules layout) _ (standing.done_stands modules layout top is t.0 t.1)

  signal_laid : (x : ℕ) (s : Signal) → signals.SignalKind modules layout x s → IsLaidSignal modules top x s
  signal_laid x s (clock e q) = subst (IsLaidSignal modules top x) (sym q) (record { low = omega arith; high = omega arith; drives = refl })
  signal_laid x s (mask e q) =
      subst (IsLaidSignal modules top x) (sym q) (record { low = (let z = some_threads in omega arith); high = (let z = few_threads in omega arith); drives = refl })
  signal_laid x s (chosen k l e q) = subst (IsLaidSignal modules top x) (sym q) (record { low = omega arith; high = omega arith; drives = refl })
  signal_laid x s (wire y v f e q) = subst (IsLaidSignal modules top x) (sym q) (wire_laid x y v e (signals.wire_kind modules layout top is y v f))
  signal_laid x s (done e q) =
      subst (IsLaidSignal modules top x) (sym q) (record { low = omega arith; high = omega arith; drives = (one_place (done_place modules layout) done_below, no_places _) })

  -- ---- the order

  abbrev heads : List Signal
  heads = input (codes "clk") 1 ∷ input (codes "en") T ∷ []

  abbrev ins : List Signal
  ins = heads ++ spread preference 0 K

  abbrev inners : List Signal
  inners = each_from wire_signal (2 + K) (all_wires modules layout)

  abbrev outs : List Signal
  outs = output (done_place modules layout) ∷ []

  abbrev IsIn : Signal → Bool
  IsIn s = is_input_port (kind_of s)

  abbrev IsInner : Signal → Bool
  IsInner s = is_inner (kind_of s)

  abbrev IsOut : Signal → Bool
  IsOut s = is_output_port (kind_of s)

  -- inputs, wires and the output pass or not
  head_passes : (p : Signal → Bool) (b : Bool) → ((name : List ℕ) (v : ℕ) → p (input name v) ≡ b) → (k : ℕ) (s : Signal) → slice_get heads k ≡ Some s → p s ≡ b
  head_passes p b h zero s e = ap p (sym (same_Some (input (codes "clk") 1) s e)) ∙ h (codes "clk") 1
  head_passes p b h (suc zero) s e = ap p (sym (same_Some (input (codes "en") T) s e)) ∙ h (codes "en") T
  head_passes p b h (suc (suc k)) s e = absurd (none-some s e)

  ins_pass : (p : Signal → Bool) (b : Bool) → ((name : List ℕ) (v : ℕ) → p (input name v) ≡ b) → (k : ℕ) (s : Signal) → slice_get ins k ≡ Some s → p s ≡ b
  ins_pass p b h k s e = elim (get_either heads (spread preference 0 K) k s e) [
    | inl g ↦ head_passes p b h k s g
    | inr g ↦ let m = spread_back preference 0 K g.at s g.found in ap p m.1 ∙ h (preference (0 + g.at)).name 6
  ]

  inners_pass : (p : Signal → Bool) (b : Bool) → ((place : ℕ) (v : Wire) → p (wire_signal place v) ≡ b) → (k : ℕ) (s : Signal) → slice_get inners k ≡ Some s → p s ≡ b
  inners_pass p b h k s e = let m = each_back wire_signal (2 + K) (all_wires modules layout) k s e in ap p m.2 ∙ h (2 + K + k) m.0

  outs_pass : (p : Signal → Bool) (b : Bool) → p (output (done_place modules layout)) ≡ b → (k : ℕ) (s : Signal) → slice_get outs k ≡ Some s → p s ≡ b
  outs_pass p b h zero s e = ap p (sym (same_Some (output (done_place modules layout)) s e)) ∙ h
  outs_pass p b h (suc k) s e = absurd (none-some s e)

  in_wire : (place : ℕ) (v : Wire) → IsIn (wire_signal place v) ≡ false
  in_wire place Whole = refl
  in_wire place (Bit i) = refl
  in_wire place (Port v j q) = refl

  inner_wire : (place : ℕ) (v : Wire) → IsInner (wire_signal place v) ≡ true
  inner_wire place Whole = refl
  inner_wire place (Bit i) = refl
  inner_wire place (Port v j q) = refl

  out_wire : (place : ℕ) (v : Wire) → IsOut (wire_signal place v) ≡ false
  out_wire place Whole = refl
  out_wire place (Bit i) = refl
  out_wire place (Port v j q) = refl

  three : (p : Signal → Bool) → filter p top.signals ≡ filter p ins ++ filter p inners ++ filter p outs
  three p = ap (filter p) is.signals ∙ filter-append p (ins ++ inners) outs ∙ ap (λ l. l ++ filter p outs) (filter-append p ins inners)

  inputs_are : input_signals top ≡ ins
  inputs_are =
      three IsIn
      ∙ ap (λ l. l ++ filter IsIn inners ++ filter IsIn outs) (all_kept IsIn ins (ins_pass IsIn true (λ name v. refl)))
      ∙ ap (λ l. ins ++ l ++ filter IsIn outs) (none_kept IsIn inners (inners_pass IsIn false in_wire))
      ∙ ap (λ l. ins ++ [] ++ l) (none_kept IsIn outs (outs_pass IsIn false refl))
      ∙ append-nil (ins ++ []) ∙ append-nil ins

  inners_are : inner_signals top ≡ inners
  inners_are =
      three IsInner
      ∙ ap (λ l. l ++ filter IsInner inners ++ filter IsInner outs) (none_kept IsInner ins (ins_pass IsInner false (λ name v. refl)))
      ∙ ap (λ l. l ++ filter IsInner outs) (all_kept IsInner inners (inners_pass IsInner true inner_wire))
      ∙ ap (λ l. inners ++ l) (none_kept IsInner outs (outs_pass IsInner false refl))
      ∙ append-nil inners

  outs_are : output_signals top ≡ outs
  outs_are =
      three IsOut
      ∙ ap (λ l. l ++ filter IsOut inners ++ filter IsOut outs) (none_kept IsOut ins (ins_pass IsOut false (λ name v. refl)))
      ∙ ap (λ l. l ++ filter IsOut outs) (none_kept IsOut inners (inners_pass IsOut false out_wire))

  order : top.signals ≡ input_signals top ++ inner_signals top ++ output_signals top
  order =
      is.signals ∙ ap (λ l. l ++ inners ++ outs) (sym inputs_are) ∙ ap (λ l. input_signals top ++ l ++ outs) (sym inners_are) ∙ ap (λ l. input_signals top ++ inner_signals top ++ l) (sym outs_are)

  -- ---- the instances

  input_inside : (j : ℕ) (x : Instance) (h : IsInstance j x) → AreSignals top x.inputs
  input_inside j x h k place e =
      let v = get_there h.ins k (let a = slice_get_within x.inputs k place e in let b = h.as_many in omega arith) in
      let m = h.joins k v.0 v.1 in
      let same : m.0 ≡ place = same_Some m.0 place (sym m.2 ∙ e) in
      subst (λ z. z < length top.signals) same (slice_get_within top.signals m.0 m.1 m.3)

  output_drives : (j : ℕ) (x : Instance) (h : IsInstance j x) (k place : ℕ) → slice_get x.outputs k ≡ Some place
      → (v : ℕ) × (slice_get h.outs k ≡ Some v) × (slice_get top.signals place ≡ Some (wire_signal place (Port v j (first_output h.of + k))))
  output_drives j x h k place e =
      let m = spread_back (λ z. slice_index S j + z) 0 (length h.outs) k place (ap (λ l. slice_get l k) (sym (outputs_are j x h)) ∙ e) in
      let v = get_there h.outs k m.0 in
      let at : slice_index S j + k ≡ place = let z = m.1 in omega arith in
      let stands = standing.port_stands modules layout top is j k v.0 h.part h.listed (ap (λ l. slice_get l k) h.part_outs ∙ v.1) in (
        v.0,
        v.1,
        subst (λ z. slice_get top.signals z ≡ Some (wire_signal z (Port v.0 j (first_output h.of + k)))) at
            (stands ∙ ap (λ z. Some (wire_signal (slice_index S j + k) (Port v.0 j (z + k)))) (first_same j x h)),
      )

  instance_laid : (j : ℕ) (x : Instance) (h : IsInstance j x) → IsLaidInstance modules top j x
  instance_laid j x h = record {
    of = h.of;
    earlier = h.there;
    inputs = h.as_many ∙ sym h.interface.input_count;
    outputs = ap length (outputs_are j x h) ∙ length-spread (λ z. slice_index S j + z) 0 (length h.outs) ∙ sym h.interface.output_count;
    input_places = input_inside j x h;
    drives = λ k place e. ap (λ o. option_map (λ (s : Signal). s.source) o) (output_drives j x h k place e).2;
  }

  pub top_laid : IsLaidModule modules top
  top_laid = record {
    names = names_apart layout modules sound top is;
    order = order;
    signals = λ x s e. signal_laid x s (signals.signal_kind modules layout top is x s e);
    memories = λ j c e. absurd (none-some c (ap (λ l. slice_get l j) (sym is.memories) ∙ e));
    actions = λ k a e. absurd (none-some a (ap (λ l. slice_get l k) (sym is.actions) ∙ e));
    instances = λ j x e. instance_laid j x (known j x e);
  }

  -- ---- sound

  width_is : (x v : ℕ) (s : Signal) → slice_get top.signals x ≡ Some s → is_clk s.name ≡ false → s.width ≡ v → width top x ≡ v
  width_is x v s e c q = ap (width_read top) e ∙ ap (λ b. if b then 0 else s.width) c ∙ q

  fits_width : (x v : ℕ) → width top x ≡ v → 0 < v → has_width top x v ≡ true
  fits_width x v e l = ap (λ z. nat_lt 0 z && z == v) e ∙ (let z : (nat_lt 0 v && v == v) ≡ true = and_from (nat_lt 0 v) (v == v) (grind (arith, nat_tests)) (grind (arith, nat_tests)) in z)

  mask_width : width top 1 ≡ T
  mask_width = width_is 1 T (input (codes "en") T) (standing.mask_stands modules layout top is) refl refl

  bit_fits : (i v : ℕ) → v ≡ T → i < T → T ≢ 1 → source_fits top (source.Assigned (Select 1 i i)) 1 ≡ true
  bit_fits i v e l many = ap (λ z. nat_le i i && (nat_lt i z && (nat_lt 1 z && 1 == i - i + 1))) mask_width ∙ last
    where
      four : (a b c d : Bool) → a ≡ true → b ≡ true → c ≡ true → d ≡ true → (a && (b && (c && d))) ≡ true
      four a b c d p q r t = ap (λ z. z && (b && (c && d))) p ∙ ap (λ z. z && (c && d)) q ∙ ap (λ z. z && d) r ∙ t

      last : (nat_le i i && (nat_lt i T && (nat_lt 1 T && 1 == i - i + 1))) ≡ true
      last =
          let zero-is : i - i + 1 ≡ 1 = omega arith in
          let more : 1 < T = let z = some_threads in omega (arith, many) in
          four (nat_le i i) (nat_lt i T) (nat_lt 1 T) (1 == i - i + 1) (grind (arith, nat_tests)) (grind (arith, nat_tests)) (grind (arith, nat_tests)) (ap (λ z. 1 == z) zero-is)

  wire_sound : (x y : ℕ) (v : Wire) → signals.WireKind modules layout y v → IsSoundSignal top x (wire_signal x v)
  wire_sound x y v (whole one first q) =
      subst (λ z. IsSoundSignal top x (wire_signal x z)) (sym q)
      (record { fits = fits_width 1 1 (mask_width ∙ one) (omega arith); set = tt; clock = λ e. absurd (let z : false ≡ true = e in cc) })
  wire_sound x y v (bit many l q) =
      subst (λ z. IsSoundSignal top x (wire_signal x z)) (sym q)
      (record { fits = bit_fits y T refl l many; set = tt; clock = λ e. absurd (let z : false ≡ true = e in cc) })
  wire_sound x y v (port j p r u f g q h) =
      subst (λ z. IsSoundSignal top x (wire_signal x z)) (sym q)
      (record { fits = refl; set = tt; clock = λ e. absurd (let z : false ≡ true = e in cc) })

  done_fits : has_width top (done_place modules layout) 1 ≡ true
  done_fits =
      let t = get_there layout.threads 0 (let z = some_threads in omega arith) in
      fits_width (done_place modules layout) 1
      (width_is (done_place modules layout) 1 _ (standing.done_stands modules layout top is t.0 t.1) refl refl) (omega arith)

  signal_sound : (x : ℕ) (s : Signal) → signals.SignalKind modules layout x s → IsSoundSignal top x s
  signal_sound x s (clock e q) = subst (IsSoundSignal top x) (sym q) (record { fits = refl; set = tt; clock = λ e. (refl, refl) })
  signal_sound x s (mask e q) = subst (IsSoundSignal top x) (sym q) (record { fits = refl; set = tt; clock = λ e. absurd (let z : false ≡ true = e in cc) })
  signal_sound x s (chosen k l e q) = subst (IsSoundSignal top x) (sym q) (record { fits = refl; set = tt; clock = λ e. absurd (let z : false ≡ true = e in cc) })
  signal_sound x s (wire y v f e q) = subst (IsSoundSignal top x) (sym q) (wire_sound x y v (signals.wire_kind modules layout top is y v f))
  signal_sound x s (done e q) = subst (IsSoundSignal top x) (sym q) (record { fits = done_fits; set = tt; clock = λ e. absurd (let z : false ≡ true = e in cc) })

  -- input k of an instance has the width of its port, and the clock is at the clock
  input_right : (j : ℕ) (x : Instance) (h : IsInstance j x) (k place : ℕ) (p : Signal) → slice_get x.inputs k ≡ Some place → slice_get h.of.signals k ≡ Some p → input_fits top p place ≡ true
  input_right j x h k place p e g =
      let v = get_there h.ins k (let a = slice_get_within x.inputs k place e in let b = h.as_many in omega arith) in
      let m = h.joins k v.0 v.1 in
      let same : m.0 ≡ place = same_Some m.0 place (sym m.2 ∙ e) in
      let stands : slice_get top.signals place ≡ Some m.1 = ap (slice_get top.signals) (sym same) ∙ m.3 in
      let has = h.interface.ports.inputs_are k v.0 v.1 in
      let own : has.signal ≡ p = same_Some has.signal p (sym has.listed ∙ g) in
      let wide : m.1.width ≡ p.width = m.4 ∙ sym has.wide ∙ ap (λ (z : Signal). z.width) own in
      let some = ((sound.laid x.of h.of h.there).signals k p g).low in
      by_clock (nat_eq k 0) place p m.1 stands (h.interface.clock k p g) m.5 wide some
    where
      by_clock : (b : Bool) (place : ℕ) (p s : Signal) → slice_get top.signals place ≡ Some s → is_clk p.name ≡ b → is_clk s.name ≡ b → s.width ≡ p.width → 1 ≤ p.width → input_fits top p place ≡ true
      by_clock true place p s stands c d wide some = ap (λ b. if b then is_clk_at top (slice_get top.signals place) else has_width top place p.width) c ∙ ap (is_clk_at top) stands ∙ d
      by_clock false place p s stands c d wide some =
          ap (λ b. if b then is_clk_at top (slice_get top.signals place) else has_width top place p.width) c ∙ fits_width place p.width (width_is place p.width s stands d wide) (omega arith)

  instance_sound : (j : ℕ) (x : Instance) (h : IsInstance j x) → IsSoundInstance top modules j x
  instance_sound j x h = record {
    clock = h.clock;
    inputs = λ of there k place e p g.
        let same : h.of ≡ of = same_Some h.of of (sym h.there ∙ there) in
        input_right j x h k place p e (ap (λ (z : Module). slice_get z.signals k) same ∙ g);
    outputs = λ of there k place e p g.
        let same : h.of ≡ of = same_Some h.of of (sym h.there ∙ there) in
        let d = output_drives j x h k place e in
        let has = h.interface.ports.outputs_are k d.0 d.1 in
        let first : length h.of.signals - length h.outs ≡ first_output h.of = ap (λ z. length h.of.signals - z) (sym h.interface.output_count) in
        let own : has.signal ≡ p = same_Some has.signal p
        (sym has.listed ∙ ap (λ z. slice_get h.of.signals (z + k)) first ∙ ap (λ (z : Module). slice_get z.signals (first_output z + k)) same ∙ g) in
        width_is place p.width (wire_signal place (Port d.0 j (first_output h.of + k))) d.2 refl (sym has.wide ∙ ap (λ (z : Signal). z.width) own);
  }

  pub top_sound : IsSoundModule top modules
  top_sound = record {
    name = ap is_clk is.named;
    port = (0, input (codes "clk") 1, standing.clock_stands modules layout top is, inl refl);
    signals = λ x s e. signal_sound x s (signals.signal_kind modules layout top is x s e);
    memories = λ j c e. absurd (none-some c (ap (λ l. slice_get l j) (sym is.memories) ∙ e));
    actions = λ k a e. absurd (none-some a (ap (λ l. slice_get l k) (sym is.actions) ∙ e));
    instances = λ j x e. instance_sound j x (known j x e);
    actions_clocked = λ k a e. absurd (none-some a (ap (λ l. slice_get l k) (sym is.actions) ∙ e));
    instances_clocked = λ i x of e there clocked. (0, input (codes "clk") 1, standing.clock_stands modules layout top is, refl);
  }

  -- what Rounding needs of top: its inputs and its output
  pub top_inputs : input_signals top ≡ ins
  top_inputs = inputs_are

  pub top_outputs : output_signals top ≡ outs
  top_outputs = outs_are

  -- the module of an instance, for what is said of printing
  pub instance_of_part : (j : ℕ) (p : Part) → slice_get (parts layout) j ≡ Some p → (x : Instance) × (slice_get top.instances j ≡ Some x) × (x.of ≡ p.of)
  instance_of_part j p e =
      let i = part_instance j p e in
      let same : p ≡ i.2.part = same_Some p i.2.part (sym e ∙ i.2.listed) in
      (i.0, i.1, sym i.2.part_of ∙ ap (λ (z : Part). z.of) (sym same))

  pub part_of_instance : (j : ℕ) (x : Instance) → slice_get top.instances j ≡ Some x → (p : Part) × (slice_get (parts layout) j ≡ Some p) × (p.of ≡ x.of)
  part_of_instance j x e = let h = known j x e in (h.part, h.listed, h.part_of)
