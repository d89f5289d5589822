-- The net of the layout is a net of threads, cores and arbiters.
use Rattle.std.proofs.Common.{◌≡◌, ℕ, ◌+◌, ◌-◌, ◌*◌, ◌<◌, Bool, true, false, nat_eq, if◌then◌else◌, List, [], ◌∷◌, ◌++◌, length, take, replicate, Some, refl, sym, ap, ◌∙◌, subst, inl, inr, arith}
use Rattle.std.specs.Prelude.{slice_get, slice_index, codes, option_and_then}
use Rattle.std.proofs.lemmas.Bool.Decides.{nat_tests}
use Rattle.std.proofs.lemmas.Option.{slice_get_within}
use Rattle.lists.proofs.Places.{get_front, get_there, copies_there}
use Rattle.netlist.specs.declared.netlist.Value.TheVariants.{Copy, Select}
use Rattle.netlist.specs.declared.netlist.Source.{Source}
use Rattle.netlist.specs.declared.netlist.Source.TheVariants as source
use Rattle.netlist.specs.declared.netlist.Signal.{Signal}
use Rattle.netlist.specs.declared.netlist.Instance.{Instance}
use Rattle.netlist.specs.declared.netlist.Module.{Module}
use Rattle.netlist.specs.declared.netlist.Netlist.{Netlist}
use Rattle.verilog_meaning.specs.Cycles.{module_at}
use Rattle.circuit.specs.Machines.{CoreMachine, IsCore, ThreadMachine, IsThread}
use Rattle.circuit.specs.Arbitration.{Arbitrates}
use Rattle.circuit.specs.Wiring.{NetPlaces, IsFed, IsNet, Stands, IsEnabledBy, IsAskedBy, IsInstanceOf}
use Rattle.top_parts.specs.declared.layout.Group.{Group}
use Rattle.top_parts.specs.declared.layout.Core.{Core}
use Rattle.top_parts.specs.declared.layout.Layout.{Layout}
use Rattle.top_parts.specs.declared.parts.Part.{Part}
use Rattle.top_parts.specs.declared.wires.Wire.TheVariants.{Whole, Bit, Port}
use Rattle.top_parts.specs.Parts.{group_widths, ask_widths, thread_outputs, core_outputs, thread_part, core_part, arbiter_part, parts}
use Rattle.top_parts.specs.Wires.{ports_from, first_port, wire_signal}
use Rattle.top_wiring.specs.Top.{input, preference, thread_instance, core_instance, arbiter_instance, starts}
use Rattle.circuit.specs.Interfaces.{first_of}
use Rattle.top_wiring.specs.Ports.{asked_before, told_before, arbiter_outputs}
use Rattle.top_wiring.specs.Machine.{IsThreadAt, IsCoreAt, IsArbiterAt, KeepPromises}
use Rattle.top_wiring.specs.Wired.{IsWired}
use Rattle.top_wiring.proofs.Lists.{copies_back, flat_map_back}
use Rattle.top_wiring.proofs.InstanceKinds.{Kind, kind_of}
use Rattle.top_wiring.proofs.InstanceKinds.Kind.{of_thread, of_core, of_arbiter}
use Rattle.top_wiring.proofs.TopPlaces as standing
use Rattle.top_wiring.proofs.InputLists as inputs
use Rattle.top_wiring.proofs.ConnectedInputs.{offer_width, tell_width, ask_width}

module _ (layout : Layout) (modules : List Module) (n : Netlist) (w : IsWired modules layout n) where
  abbrev T : ℕ
  T = length layout.threads

  abbrev K : ℕ
  K = length layout.cores

  abbrev S : List ℕ
  S = starts modules layout

  -- the modules given stand in the net
  pub given_there : (number : ℕ) (m : Module) → slice_get modules number ≡ Some m → slice_get n.modules number ≡ Some m
  given_there number m e =
      ap (λ l. slice_get l number) w.are
      ∙ get_front (modules ++ w.top ∷ []) (w.round ∷ []) number m (get_front modules (w.top ∷ []) number m e)

  pub module_there : (j : ℕ) (x : Instance) (m : Module) → slice_get w.top.instances j ≡ Some x → slice_get modules x.of ≡ Some m → module_at n.modules w.top (j ∷ []) ≡ Some m
  module_there j x m e h = ap (option_and_then (λ (y : Instance). slice_get n.modules y.of)) e ∙ given_there x.of m h

  pub first_is : (p : Part) (m : Module) (outputs : List ℕ) → slice_get modules p.of ≡ Some m → p.outputs ≡ outputs → first_port modules p ≡ first_of m outputs
  first_is p m outputs e h = ap (λ o. ports_from o (length p.outputs)) e ∙ ap (λ l. length m.signals - length l) h

  module _ (M : ℕ → ThreadMachine) (C : ℕ → CoreMachine) (p : NetPlaces T K M C) (keep : KeepPromises layout M C p modules) where
    -- input x of instance j, where it is connected to a place
    fed_at : (j x : ℕ) (i : Instance) (place : ℕ) (s : Signal) (drives : Source) → slice_get w.top.instances j ≡ Some i → slice_get i.inputs x ≡ Some place
        → slice_get w.top.signals place ≡ Some s → s.source ≡ drives → IsFed T K M C w.top j x drives
    fed_at j x i place s drives a b c d = record { instance = i; listed = a; place = place; connects = b; signal = s; stands = c; drives = d }

    -- the same at equal places
    fed_same : (j j' x x' : ℕ) (a b : Source) → j' ≡ j → x' ≡ x → a ≡ b → IsFed T K M C w.top j x a → IsFed T K M C w.top j' x' b
    fed_same j j' x x' a b e f g h =
        subst (λ z. IsFed T K M C w.top z x' b) (sym e) (subst (λ z. IsFed T K M C w.top j z b) (sym f) (subst (λ z. IsFed T K M C w.top j x z) g h))

    thread_of : (i : ℕ) → i < T → (number : ℕ) × (slice_get layout.threads i ≡ Some number)
    thread_of i l = get_there layout.threads i l

    core_of : (k : ℕ) → k < K → (c : Core) × (slice_get layout.cores k ≡ Some c)
    core_of k l = get_there layout.cores k l

    -- ---- the instances

    thread_module : (i : ℕ) (l : i < T) → Stands T K M C p n.modules w.top i (IsThread (M i) (p.thread i) K (λ k. (C k).parts) (λ k. (C k).told))
    thread_module i l =
        let t = thread_of i l in
        let m = keep.each.thread i t.0 t.1 in
        (m.0, module_there i (thread_instance S T K (parts layout) layout.cores i t.0) m.0 (standing.thread_stands modules layout w.top w.is_top i t.0 t.1) m.1, m.2.is)

    core_module : (k : ℕ) (l : k < K) → Stands T K M C p n.modules w.top (T + k) (IsCore (C k) (p.core k) T)
    core_module k l =
        let t = core_of k l in
        let m = keep.each.core k t.0 t.1 in
        (m.0, module_there (T + k) (core_instance S T K (parts layout) (asked_before layout k) k t.0) m.0 (standing.core_stands modules layout w.top w.is_top k t.0 t.1) m.1, m.2.is)

    arbiter_module : (k : ℕ) (l : k < K) → Stands T K M C p n.modules w.top (T + K + k) (Arbitrates T (p.arbiter k))
    arbiter_module k l =
        let m = keep.each.arbiter k l in
        (m.0, module_there (T + K + k) (arbiter_instance S T K (parts layout) layout.arbiter k) m.0 (standing.arbiter_stands modules layout w.top w.is_top k l) m.1, m.2.is)

    -- ---- the ports of instances

    offer_source : (k i : ℕ) (c : Core) (m : Module) → slice_get layout.cores k ≡ Some c → slice_get modules c.module ≡ Some m → i < T
        → slice_get w.top.signals (slice_index S (T + k) + i) ≡ Some (wire_signal (slice_index S (T + k) + i) (Port 1 (T + k) (first_of m (core_outputs T c) + i)))
    offer_source k i c m e h l =
        standing.port_stands modules layout w.top w.is_top (T + k) i 1 (core_part T c) (standing.core_part_at layout k c e) (offer_width T c i l)
        ∙ ap (λ z. Some (wire_signal (slice_index S (T + k) + i) (Port 1 (T + k) (z + i)))) (first_is (core_part T c) m (core_outputs T c) h refl)

    tell_source : (k j i v : ℕ) (c : Core) (m : Module) → slice_get layout.cores k ≡ Some c → slice_get modules c.module ≡ Some m → slice_get c.told j ≡ Some v → i < T
        → slice_get w.top.signals (slice_index S (T + k) + (T + (j * T + i)))
        ≡ Some (wire_signal (slice_index S (T + k) + (T + (j * T + i))) (Port v (T + k) (first_of m (core_outputs T c) + (T + (j * T + i)))))
    tell_source k j i v c m e h f l =
        standing.port_stands modules layout w.top w.is_top (T + k) (T + (j * T + i)) v (core_part T c) (standing.core_part_at layout k c e) (tell_width T c j i v f l)
        ∙ ap (λ z. Some (wire_signal (slice_index S (T + k) + (T + (j * T + i))) (Port v (T + k) (z + (T + (j * T + i)))))) (first_is (core_part T c) m (core_outputs T c) h refl)

    grant_source : (k i : ℕ) (m : Module) → k < K → slice_get modules layout.arbiter ≡ Some m → i < T
        → slice_get w.top.signals (slice_index S (T + K + k) + i)
        ≡ Some (wire_signal (slice_index S (T + K + k) + i) (Port 1 (T + K + k) (first_of m (arbiter_outputs layout) + i)))
    grant_source k i m b h l =
        standing.port_stands modules layout w.top w.is_top (T + K + k) i 1 (arbiter_part T layout.arbiter k) (standing.arbiter_part_at layout k b) (copies_there T 1 i l)
        ∙ ap (λ z. Some (wire_signal (slice_index S (T + K + k) + i) (Port 1 (T + K + k) (z + i)))) (first_is (arbiter_part T layout.arbiter k) m (arbiter_outputs layout) h refl)

    ask_source : (i number x v : ℕ) (m : Module) → slice_get layout.threads i ≡ Some number → slice_get modules number ≡ Some m → slice_get (ask_widths layout.cores) x ≡ Some v
        → slice_get w.top.signals (slice_index S i + x)
        ≡ Some (wire_signal (slice_index S i + x) (Port v i (first_of m (thread_outputs (ask_widths layout.cores)) + x)))
    ask_source i number x v m e h f =
        let asks = ask_widths layout.cores in
        standing.port_stands modules layout w.top w.is_top i x v (thread_part asks number) (standing.thread_part_at layout i number e)
        (get_front asks (replicate 2 1) x v f)
        ∙ ap (λ z. Some (wire_signal (slice_index S i + x) (Port v i (z + x)))) (first_is (thread_part asks number) m (thread_outputs asks) h refl)

    -- ---- the wires

    enabled_one : (i number : ℕ) (b : Bool) → i < T → slice_get layout.threads i ≡ Some number → nat_eq T 1 ≡ b
        → slice_get w.top.signals (2 + K + i) ≡ Some (wire_signal (2 + K + i) (if b then Whole else Bit i)) → IsEnabledBy T K M C p n.modules w.top 1 i
    enabled_one i number true l e q s =
        let one : T ≡ 1 = grind (arith, nat_tests) in
        let m = keep.each.thread i number e in
        inr (
          (let z : i ≡ 0 = omega arith in z),
          record { signal = input (codes "en") T; listed = standing.mask_stands modules layout w.top w.is_top; wide = one },
          fed_same i (p.thread_at i) 1 (p.thread i).enable (source.Assigned (Copy 1)) (source.Assigned (Copy 1)) (keep.thread_at i l) m.2.enable refl
              (fed_at i 1 (thread_instance S T K (parts layout) layout.cores i number) (2 + K + i) (wire_signal (2 + K + i) Whole) (source.Assigned (Copy 1))
              (standing.thread_stands modules layout w.top w.is_top i number e) refl s refl),
        )
    enabled_one i number false l e q s =
        let m = keep.each.thread i number e in
        inl (
        fed_same i (p.thread_at i) 1 (p.thread i).enable (source.Assigned (Select 1 i i)) (source.Assigned (Select 1 i i)) (keep.thread_at i l) m.2.enable refl
        (fed_at i 1 (thread_instance S T K (parts layout) layout.cores i number) (2 + K + i) (wire_signal (2 + K + i) (Bit i)) (source.Assigned (Select 1 i i))
        (standing.thread_stands modules layout w.top w.is_top i number e) refl s refl)
        )

    enabled : (i : ℕ) → i < T → IsEnabledBy T K M C p n.modules w.top 1 i
    enabled i l = let t = thread_of i l in enabled_one i t.0 (nat_eq T 1) l t.1 refl (standing.enable_stands modules layout w.top w.is_top i l)

    granted : (i k : ℕ) → i < T → k < K → IsFed T K M C w.top (p.thread_at i) ((p.thread i).grant k) (source.Port (p.arbiter_at k) ((p.arbiter k).grant i))
    granted i k l b =
        let t = thread_of i l in
        let m = keep.each.thread i t.0 t.1 in
        let a = keep.each.arbiter k b in
        let place = slice_index S (T + K + k) + i in
        let port : source.Port (T + K + k) (first_of a.0 (arbiter_outputs layout) + i) ≡ source.Port (p.arbiter_at k) ((p.arbiter k).grant i) =
        ap (λ z. source.Port z (first_of a.0 (arbiter_outputs layout) + i)) (sym (keep.arbiter_at k b)) ∙ ap (λ z. source.Port (p.arbiter_at k) z) (sym (a.2.grant i l)) in
        fed_same i (p.thread_at i) (2 + k) ((p.thread i).grant k) (source.Port (T + K + k) (first_of a.0 (arbiter_outputs layout) + i))
        (source.Port (p.arbiter_at k) ((p.arbiter k).grant i)) (keep.thread_at i l) (m.2.grant k b) port
        (fed_at i (2 + k) (thread_instance S T K (parts layout) layout.cores i t.0) place (wire_signal place (Port 1 (T + K + k) (first_of a.0 (arbiter_outputs layout) + i)))
        (source.Port (T + K + k) (first_of a.0 (arbiter_outputs layout) + i))
        (standing.thread_stands modules layout w.top w.is_top i t.0 t.1) (inputs.grant_input S T K layout.cores i k b) (grant_source k i a.0 b a.1 l) refl)

    told : (i k j : ℕ) → i < T → k < K → j < (C k).told → IsFed T K M C w.top (p.thread_at i) ((p.thread i).told k j) (source.Port (p.core_at k) ((p.core k).tell j i))
    told i k j l b d =
        let t = thread_of i l in
        let m = keep.each.thread i t.0 t.1 in
        let c = core_of k b in
        let x = keep.each.core k c.0 c.1 in
        let few : j < length c.0.told = let e = x.2.told in omega arith in
        let v = get_there c.0.told j few in
        let place = slice_index S (T + k) + (T + (j * T + i)) in
        let q = first_of x.0 (core_outputs T c.0) + (T + (j * T + i)) in
        let port : source.Port (T + k) q ≡ source.Port (p.core_at k) ((p.core k).tell j i) =
        ap (λ z. source.Port z q) (sym (keep.core_at k b)) ∙ ap (λ z. source.Port (p.core_at k) z) (sym (x.2.tell j i few l)) in
        fed_same i (p.thread_at i) (2 + K + (told_before layout k + j)) ((p.thread i).told k j) (source.Port (T + k) q) (source.Port (p.core_at k) ((p.core k).tell j i))
        (keep.thread_at i l) (m.2.told k j b d) port
        (fed_at i (2 + K + (told_before layout k + j)) (thread_instance S T K (parts layout) layout.cores i t.0) place (wire_signal place (Port v.0 (T + k) q)) (source.Port (T + k) q)
        (standing.thread_stands modules layout w.top w.is_top i t.0 t.1) (inputs.told_input S T K layout.cores i k j c.0 c.1 few) (tell_source k j i v.0 c.0 x.0 c.1 x.1 v.1 l) refl)

    asked_at : (k i g j : ℕ) (c : Core) (group : Group) → k < K → i < T → slice_get layout.cores k ≡ Some c → slice_get c.groups g ≡ Some group → j < group.count
        → length (group_widths (take g c.groups)) + j < (C k).parts
        → IsFed T K M C w.top (p.core_at k) ((p.core k).ask (length (group_widths (take g c.groups)) + j) i)
        (source.Port (p.thread_at i) ((p.thread i).ask k (length (group_widths (take g c.groups)) + j)))
    asked_at k i g j c group b l e h d few =
        let t = thread_of i l in
        let m = keep.each.thread i t.0 t.1 in
        let x = keep.each.core k c e in
        let at = length (group_widths (take g c.groups)) in
        let outputs = thread_outputs (ask_widths layout.cores) in
        let behind = asked_before layout k + (at + j) in
        let place = slice_index S i + behind in
        let same : slice_index S i + (asked_before layout k + at) + j ≡ place = omega arith in
        let q = first_of m.0 outputs + behind in
        let port : source.Port i q ≡ source.Port (p.thread_at i) ((p.thread i).ask k (at + j)) =
        ap (λ z. source.Port z q) (sym (keep.thread_at i l)) ∙ ap (λ z. source.Port (p.thread_at i) z) (sym (m.2.ask k (at + j) b few)) in
        let input = 1 + (T * at + (i * group.count + j)) in
        fed_same (T + k) (p.core_at k) input ((p.core k).ask (at + j) i) (source.Port i q) (source.Port (p.thread_at i) ((p.thread i).ask k (at + j)))
        (keep.core_at k b) (x.2.ask g j i group h d l) port
        (fed_at (T + k) input (core_instance S T K (parts layout) (asked_before layout k) k c) place (wire_signal place (Port group.width i q)) (source.Port i q)
        (standing.core_stands modules layout w.top w.is_top k c e)
        (inputs.ask_input S T K (asked_before layout k) c.groups k g j i group h d l ∙ ap (λ z. Some z) same)
        (ask_source i t.0 behind group.width m.0 t.1 m.1 (ask_width layout.cores k g j c group e h d)) refl)

    asks : (k i j : ℕ) → k < K → i < T → j < (C k).parts → IsAskedBy T K M C p n.modules w.top k i j
    asks k i j b l few =
        let t = thread_of i l in
        let m = keep.each.thread i t.0 t.1 in
        let c = core_of k b in
        let x = keep.each.core k c.0 c.1 in
        let there : j < length (group_widths c.0.groups) = let e = x.2.parts in omega arith in
        let v = get_there (group_widths c.0.groups) j there in
        let f = flat_map_back (λ (g : Group). replicate g.count g.width) c.0.groups j v.0 v.1 in
        let part : f.rest < f.item.count = (copies_back f.item.count f.rest f.item.width v.0 f.found).0 in
        let at = length (group_widths (take f.number c.0.groups)) + f.rest in
        let few' : at < (C k).parts = let e = f.place in omega arith in
        inl (
          m.2.uses k b,
          subst (λ z. IsFed T K M C w.top (p.core_at k) ((p.core k).ask z i) (source.Port (p.thread_at i) ((p.thread i).ask k z))) (sym f.place)
              (asked_at k i f.number f.rest c.0 f.item b l c.1 f.listed part few'),
        )

    granting : (k i : ℕ) → k < K → i < T → IsFed T K M C w.top (p.core_at k) ((p.core k).grant i) (source.Port (p.arbiter_at k) ((p.arbiter k).grant i))
    granting k i b l =
        let c = core_of k b in
        let x = keep.each.core k c.0 c.1 in
        let a = keep.each.arbiter k b in
        let place = slice_index S (T + K + k) + i in
        let q = first_of a.0 (arbiter_outputs layout) + i in
        let port : source.Port (T + K + k) q ≡ source.Port (p.arbiter_at k) ((p.arbiter k).grant i) =
        ap (λ z. source.Port z q) (sym (keep.arbiter_at k b)) ∙ ap (λ z. source.Port (p.arbiter_at k) z) (sym (a.2.grant i l)) in
        let input = 1 + (T * length (group_widths c.0.groups) + i) in
        fed_same (T + k) (p.core_at k) input ((p.core k).grant i) (source.Port (T + K + k) q) (source.Port (p.arbiter_at k) ((p.arbiter k).grant i))
        (keep.core_at k b) (x.2.grant i l) port
        (fed_at (T + k) input (core_instance S T K (parts layout) (asked_before layout k) k c.0) place (wire_signal place (Port 1 (T + K + k) q)) (source.Port (T + K + k) q)
        (standing.core_stands modules layout w.top w.is_top k c.0 c.1)
        (inputs.granting_input S T K (asked_before layout k) c.0.groups k i l) (grant_source k i a.0 b a.1 l) refl)

    offers : (k i : ℕ) → k < K → i < T → IsFed T K M C w.top (p.arbiter_at k) ((p.arbiter k).ask i) (source.Port (p.core_at k) ((p.core k).offer i))
    offers k i b l =
        let c = core_of k b in
        let x = keep.each.core k c.0 c.1 in
        let a = keep.each.arbiter k b in
        let place = slice_index S (T + k) + i in
        let q = first_of x.0 (core_outputs T c.0) + i in
        let port : source.Port (T + k) q ≡ source.Port (p.core_at k) ((p.core k).offer i) =
        ap (λ z. source.Port z q) (sym (keep.core_at k b)) ∙ ap (λ z. source.Port (p.core_at k) z) (sym (x.2.offer i l)) in
        fed_same (T + K + k) (p.arbiter_at k) (2 + i) ((p.arbiter k).ask i) (source.Port (T + k) q) (source.Port (p.core_at k) ((p.core k).offer i))
        (keep.arbiter_at k b) (a.2.ask i l) port
        (fed_at (T + K + k) (2 + i) (arbiter_instance S T K (parts layout) layout.arbiter k) place (wire_signal place (Port 1 (T + k) q)) (source.Port (T + k) q)
        (standing.arbiter_stands modules layout w.top w.is_top k b) (inputs.offer_input S T K k i l) (offer_source k i c.0 x.0 c.1 x.1 l) refl)

    prefers : (k : ℕ) → k < K → (x : Instance) × (slice_get w.top.instances (p.arbiter_at k) ≡ Some x) × (slice_get x.inputs (p.arbiter k).preferred ≡ Some (2 + k))
    prefers k b =
        let a = keep.each.arbiter k b in
        let x = arbiter_instance S T K (parts layout) layout.arbiter k in (
          x,
          subst (λ z. slice_get w.top.instances z ≡ Some x) (sym (keep.arbiter_at k b)) (standing.arbiter_stands modules layout w.top w.is_top k b),
          ap (slice_get x.inputs) a.2.preferred,
        )

    -- each instance is one of these
    kind_is : (j : ℕ) (x : Instance) → Kind layout modules (λ i m. IsThreadAt layout (M i) (p.thread i) C m) (λ k c m. IsCoreAt layout (C k) (p.core k) c m)
        (λ k m. IsArbiterAt layout (p.arbiter k) m) j x → IsInstanceOf T K M C p n.modules w.top j
    kind_is j x (of_thread number m e i h q) = let l = slice_get_within layout.threads j number e in inl (j, l, sym (keep.thread_at j l))
    kind_is j x (of_core k c m e f i h q) = let l = slice_get_within layout.cores k c f in inr (inl (k, l, e ∙ sym (keep.core_at k l)))
    kind_is j x (of_arbiter k m e l i h q) = inr (inr (k, l, e ∙ sym (keep.arbiter_at k l)))

    pub is_net : IsNet T K M C p n.modules w.top
    is_net = record {
      threads_stand = λ i l. subst (λ j. Stands T K M C p n.modules w.top j (IsThread (M i) (p.thread i) K (λ k. (C k).parts) (λ k. (C k).told))) (sym (keep.thread_at i l)) (thread_module i l);
      cores_stand = λ k l. subst (λ j. Stands T K M C p n.modules w.top j (IsCore (C k) (p.core k) T)) (sym (keep.core_at k l)) (core_module k l);
      arbiters_stand = λ k l. subst (λ j. Stands T K M C p n.modules w.top j (Arbitrates T (p.arbiter k))) (sym (keep.arbiter_at k l)) (arbiter_module k l);
      mask_at = 1;
      mask = record { signal = input (codes "en") T; stands = standing.mask_stands modules layout w.top w.is_top; input = refl; named = refl };
      enables = enabled;
      grants = λ i k l b u. granted i k l b;
      tells = λ i k j l b u d. told i k j l b d;
      asks = asks;
      granting = granting;
      offers = offers;
      preferred_at = λ k. 2 + k;
      preferred = λ k l. record { signal = preference k; stands = standing.preference_stands modules layout w.top w.is_top k l; input = refl; named = refl };
      prefers = prefers;
      silent = w.is_top.actions;
      all = λ j x e. kind_is j x (kind_of layout modules (λ i m. IsThreadAt layout (M i) (p.thread i) C m) (λ k c m. IsCoreAt layout (C k) (p.core k) c m)
          (λ k m. IsArbiterAt layout (p.arbiter k) m) keep.each w.top w.is_top j x e);
    }
