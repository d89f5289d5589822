-- The net of leaf modules can be put in stages, so it has exactly one settled valuation.
use Rattle.std.proofs.Common.{◌≡◌, ℕ, ◌+◌, ◌-◌, ◌<◌, ◌≤◌, ◌⊎◌, Bool, true, false, nat_lt, if◌then◌else◌}
use Rattle.std.proofs.Common.{List, [], ◌∷◌, length, Option, Some, refl, sym, ap, ◌∙◌, subst, inl, inr, ⊎_elim, arith}
use Rattle.std.specs.Prelude.{slice_get, codes}
use Rattle.std.proofs.lemmas.Bool.Decides.{nat_tests}
use Rattle.std.proofs.lemmas.Option.{same_Some, slice_get_within}
use Rattle.lists.proofs.Places.{get_there}
use Rattle.netlist.specs.declared.netlist.Source.TheVariants as source
use Rattle.netlist.specs.declared.netlist.Signal.{Signal}
use Rattle.netlist.specs.declared.netlist.Instance.{Instance}
use Rattle.netlist.specs.declared.netlist.Module.{Module}
use Rattle.netlist.specs.declared.netlist.Netlist.{Netlist}
use Rattle.verilog_meaning.specs.Readings.{or_zero}
use Rattle.verilog_meaning.specs.Cycles.{module_at, instance_at, connected}
use Rattle.circuit.specs.Rows.{EachOf}
use Rattle.circuit.specs.Modules.{Has, IsLeaf, IsSoundSource, FitsAction, FitsMemory}
use Rattle.circuit.specs.Staging.{Stages, port_stage, ReadsWire, ReadsPort, IsStagedSource, IsConnected, IsStaged}
use Rattle.circuit.proofs.Staged.{from_then, net_fits, net_statements, staged_settles, staged_same}
use Rattle.circuit.proofs.States.{keeps_states}
use Rattle.top_parts.specs.declared.layout.Core.{Core}
use Rattle.top_parts.specs.declared.layout.Layout.{Layout}
use Rattle.top_parts.specs.declared.parts.Part.{Part}
use Rattle.top_parts.specs.declared.wires.Wire.{Wire}
use Rattle.top_parts.specs.declared.wires.Wire.TheVariants.{Port}
use Rattle.top_parts.specs.Parts.{ask_widths, thread_outputs, core_outputs, thread_part, core_part, arbiter_part, parts}
use Rattle.top_parts.specs.Wires.{first_port, wire_signal}
use Rattle.top_wiring.specs.Top.{input, output, starts, all_wires, done_place, thread_instance, core_instance, arbiter_instance}
use Rattle.top_wiring.specs.Ports as ports
use Rattle.circuit.specs.Interfaces.{first_of, HasPorts}
use Rattle.top_wiring.specs.Leaves.{IsThreadLeaf, IsCoreLeaf, IsArbiterLeaf, AreLeaves, NetsHaveStages, SettlesOnce, NetsSettle}
use Rattle.top_wiring.specs.Wired.{IsWired}
use Rattle.top_wiring.proofs.InstanceKinds as kinds
use Rattle.top_wiring.proofs.InstanceKinds.Kind.{of_thread, of_core, of_arbiter}
use Rattle.top_wiring.proofs.SignalKinds as signals
use Rattle.top_wiring.proofs.SignalKinds.SignalKind.{clock, mask, chosen, wire, done}
use Rattle.top_wiring.proofs.SignalKinds.WireKind.{whole, bit, port}
use Rattle.top_wiring.proofs.TopPlaces as standing
use Rattle.top_wiring.proofs.ConnectedInputs as joining
use Rattle.top_wiring.proofs.WiredNet.{module_there, first_is}
use Rattle.top_wiring.proofs.Choices.{choice_fits}

module _ (layout : Layout) (modules : List Module) (n : Netlist) (w : IsWired modules layout n) (leaves : AreLeaves layout modules) where
  abbrev T : ℕ
  T = length layout.threads

  abbrev K : ℕ
  K = length layout.cores

  abbrev S : List ℕ
  S = starts modules layout

  abbrev by_part : ℕ → ℕ → ℕ → ℕ → ℕ
  by_part = joining.by_part modules layout w.top w.is_top

  abbrev early_stage : ℕ → ℕ
  early_stage = joining.early_stage modules layout w.top w.is_top

  abbrev late_stage : ℕ → ℕ
  late_stage = joining.late_stage modules layout w.top w.is_top

  abbrev signal_stage : Option Signal → ℕ
  signal_stage = joining.signal_stage modules layout w.top w.is_top

  abbrev wire_stage : ℕ → ℕ
  wire_stage = joining.wire_stage modules layout w.top w.is_top

  abbrev pub stages : Stages
  stages = record { wire = wire_stage; early = early_stage; late = late_stage; is_late = leaves.late }

  rises : (j : ℕ) → early_stage j ≤ late_stage j
  rises j = both_rise (nat_lt j T) (nat_lt j (T + K)) where
    both_rise : (a b : Bool) → (if a then 2 else (if b then 4 else 6)) ≤ (if a then 8 else (if b then 8 else 6))
    both_rise true b = omega arith
    both_rise false true = omega arith
    both_rise false false = omega arith

  below_nine : (j : ℕ) → by_part j 3 5 7 ≤ 9
  below_nine j = each (nat_lt j T) (nat_lt j (T + K)) where
    each : (a b : Bool) → (if a then 3 else (if b then 5 else 7)) ≤ 9
    each true b = omega arith
    each false true = omega arith
    each false false = omega arith

  -- an early or a late stage
  either_above : (b : Bool) (s e l : ℕ) → s < e → s < l → s < (if b then l else e)
  either_above true s e l a c = c
  either_above false s e l a c = a

  either_below : (b : Bool) (s e l : ℕ) → e < s → l < s → (if b then l else e) < s
  either_below true s e l a c = c
  either_below false s e l a c = a

  abbrev Threads : ℕ → Module → Type 0
  Threads = λ i m. IsThreadLeaf layout (leaves.late i) m

  abbrev Cores : ℕ → Core → Module → Type 0
  Cores = λ k c m. IsCoreLeaf layout (leaves.late (T + k)) c m

  abbrev Arbiters : ℕ → Module → Type 0
  Arbiters = λ k m. IsArbiterLeaf layout (leaves.late (T + K + k)) m

  kind_at : (j : ℕ) (x : Instance) → slice_get w.top.instances j ≡ Some x → kinds.Kind layout modules Threads Cores Arbiters j x
  kind_at j x e = kinds.kind_of layout modules Threads Cores Arbiters leaves.each w.top w.is_top j x e

  -- ---- wires

  abbrev IsPortLow : ℕ → ℕ → ℕ → Type 0
  IsPortLow j q v = (m : Module) × (module_at n.modules w.top (j ∷ []) ≡ Some m) × Has m q v × (port_stage n.modules w.top stages j q < by_part j 3 5 7)

  part_low : (j x v : ℕ) (p : Part) (i : Instance) → slice_get (parts layout) j ≡ Some p → slice_get p.outputs x ≡ Some v → slice_get w.top.instances j ≡ Some i
      → kinds.Kind layout modules Threads Cores Arbiters j i → IsPortLow j (first_port modules p + x) v
  part_low j x v p i e g h (of_thread number m a q b leaf) =
      let asks = ask_widths layout.cores in
      let own = thread_part asks number in
      let same : p ≡ own = same_Some p own (sym e ∙ standing.thread_part_at layout j number a) in
      let there : slice_get (thread_outputs asks) x ≡ Some v = ap (λ (z : Part). slice_get z.outputs x) (sym same) ∙ g in
      let first : first_port modules p ≡ first_of m (thread_outputs asks) =
      first_is layout modules n w p m (thread_outputs asks) (ap (λ (z : Part). slice_get modules z.of) same ∙ b) (ap (λ (z : Part). z.outputs) same) in
      let inside = slice_get_within (thread_outputs asks) x v there in
      let l = slice_get_within layout.threads j number a in (
        m,
        module_there layout modules n w j i m h (ap (λ (z : Instance). slice_get modules z.of) q ∙ b),
        subst (λ z. Has m (z + x) v) (sym first) (leaf.ports.outputs_are x v there),
        (let s : port_stage n.modules w.top stages j (first_port modules p + x) ≡ 2 =
            ap (λ z. if leaves.late j (z + x) then late_stage j else early_stage j) first
            ∙ ap (λ z. if z then late_stage j else early_stage j) (leaf.early x inside) ∙ joining.of_thread_part modules layout w.top w.is_top j 2 4 6 l in
            let u = joining.of_thread_part modules layout w.top w.is_top j 3 5 7 l in omega arith),
      )
  part_low j x v p i e g h (of_core k c m a f q b leaf) =
      let own = core_part T c in
      let same : p ≡ own = same_Some p own (sym e ∙ ap (slice_get (parts layout)) a ∙ standing.core_part_at layout k c f) in
      let there : slice_get (core_outputs T c) x ≡ Some v = ap (λ (z : Part). slice_get z.outputs x) (sym same) ∙ g in
      let first : first_port modules p ≡ first_of m (core_outputs T c) =
      first_is layout modules n w p m (core_outputs T c) (ap (λ (z : Part). slice_get modules z.of) same ∙ b) (ap (λ (z : Part). z.outputs) same) in
      let inside = slice_get_within (core_outputs T c) x v there in
      let l = slice_get_within layout.cores k c f in (
        m,
        module_there layout modules n w j i m h (ap (λ (z : Instance). slice_get modules z.of) q ∙ b),
        subst (λ z. Has m (z + x) v) (sym first) (leaf.ports.outputs_are x v there),
        subst (λ z. port_stage n.modules w.top stages z (first_port modules p + x) < by_part z 3 5 7) (sym a)
            (let s : port_stage n.modules w.top stages (T + k) (first_port modules p + x) ≡ 4 =
            ap (λ z. if leaves.late (T + k) (z + x) then late_stage (T + k) else early_stage (T + k)) first
            ∙ ap (λ z. if z then late_stage (T + k) else early_stage (T + k)) (leaf.early x inside) ∙ joining.of_core_part modules layout w.top w.is_top k 2 4 6 l in
            let u = joining.of_core_part modules layout w.top w.is_top k 3 5 7 l in omega arith),
      )
  part_low j x v p i e g h (of_arbiter k m a l q b leaf) =
      let own = arbiter_part T layout.arbiter k in
      let same : p ≡ own = same_Some p own (sym e ∙ ap (slice_get (parts layout)) a ∙ standing.arbiter_part_at layout k l) in
      let outs = ports.arbiter_outputs layout in
      let there : slice_get outs x ≡ Some v = ap (λ (z : Part). slice_get z.outputs x) (sym same) ∙ g in
      let first : first_port modules p ≡ first_of m outs =
      first_is layout modules n w p m outs (ap (λ (z : Part). slice_get modules z.of) same ∙ b) (ap (λ (z : Part). z.outputs) same) in (
        m,
        module_there layout modules n w j i m h (ap (λ (z : Instance). slice_get modules z.of) q ∙ b),
        subst (λ z. Has m (z + x) v) (sym first) (leaf.ports.outputs_are x v there),
        subst (λ z. port_stage n.modules w.top stages z (first_port modules p + x) < by_part z 3 5 7) (sym a)
            (let u = joining.of_arbiter_part modules layout w.top w.is_top k 3 5 7 in let y = joining.of_arbiter_part modules layout w.top w.is_top k 2 4 6 in
            let z = joining.of_arbiter_part modules layout w.top w.is_top k 8 8 6 in
            either_below (leaves.late (T + K + k) (first_port modules p + x)) (by_part (T + K + k) 3 5 7) (early_stage (T + K + k)) (late_stage (T + K + k)) (omega arith) (omega arith)),
      )

  -- each part has its instance
  instance_of : (j : ℕ) (p : Part) → slice_get (parts layout) j ≡ Some p → (i : Instance) × (slice_get w.top.instances j ≡ Some i)
  instance_of j p e = get_there w.top.instances j (let a = slice_get_within (parts layout) j p e in let b = standing.as_many modules layout w.top w.is_top in omega arith)

  abbrev IsStagedSignal : ℕ → Signal → Type 0
  IsStagedSignal x s = IsStagedSource n.modules w.top stages x s.width s.source

  mask_has : Has w.top 1 T
  mask_has = record { signal = input (codes "en") T; listed = standing.mask_stands modules layout w.top w.is_top; wide = refl }

  mask_stage : wire_stage 1 ≡ 0
  mask_stage = ap signal_stage (standing.mask_stands modules layout w.top w.is_top)

  wire_staged : (x y : ℕ) (v : Wire) → x ≡ 2 + K + y → slice_get w.top.signals x ≡ Some (wire_signal x v) → signals.WireKind modules layout y v → IsStagedSignal x (wire_signal x v)
  wire_staged x y v e at (whole one first q) =
      let reads : ReadsWire n.modules w.top stages x 1 1 = record { has = subst (Has w.top 1) one mask_has; before = omega arith; staged = let z = mask_stage in omega arith } in
      subst (λ z. IsStagedSignal x (wire_signal x z)) (sym q) reads
  wire_staged x y v e at (bit many l q) =
      let reads : ReadsWire n.modules w.top stages x 1 T = record { has = mask_has; before = omega arith; staged = let z = mask_stage in omega arith } in
      let a : y ≤ y = omega arith in
      let b : y + 1 - y ≡ 1 = omega arith in
      subst (λ z. IsStagedSignal x (wire_signal x z)) (sym q) (a, b, (T, reads, l))
  wire_staged x y v e at (port j p r u f g q h) =
      let i = instance_of j p f in
      let low = part_low j r u p i.0 f g i.1 (kind_at j i.0 i.1) in
      let here : slice_get w.top.signals x ≡ Some (wire_signal x (Port u j (first_port modules p + r))) = at ∙ ap (λ z. Some (wire_signal x z)) q in
      let reads : ReadsPort n.modules w.top stages x j (first_port modules p + r) u =
      record { holder = low.0; stands = low.1; has = low.2; staged = let s = joining.stage_is modules layout w.top w.is_top x j u (first_port modules p + r) here in let z = low.3 in omega arith } in
      subst (λ z. IsStagedSignal x (wire_signal x z)) (sym q) reads

  done_staged : 1 ≤ T → (x : ℕ) → x ≡ 2 + K + length (all_wires modules layout) → slice_get w.top.signals x ≡ Some (output (done_place modules layout))
      → IsStagedSignal x (output (done_place modules layout))
  done_staged some x e at =
      let t = get_there layout.threads 0 (omega arith) in
      let asks = ask_widths layout.cores in
      let q = first_port modules (thread_part asks t.0) + (length asks + 1) in
      let place = done_place modules layout in
      let stands = standing.done_stands modules layout w.top w.is_top t.0 t.1 in
      let inside = slice_get_within w.top.signals place (wire_signal place (Port 1 0 q)) stands in
      let long = standing.length-signals modules layout w.top w.is_top in
      record {
        has = record { signal = wire_signal place (Port 1 0 q); listed = stands; wide = refl };
        before = ⊎_elim (λ (l : place < x). l)
            (λ (s : place ≡ x).
            let same : wire_signal place (Port 1 0 q) ≡ output place = same_Some _ _ (sym stands ∙ ap (slice_get w.top.signals) s ∙ at) in
            let off : false ≡ true = ap (λ (z : Signal). z.is_output) same in absurd cc)
            (let d : (place < x) ⊎ (place ≡ x) = grind (arith, nat_tests) in d);
        staged = let a = joining.stage_is modules layout w.top w.is_top place 0 1 q stands in let b = below_nine 0 in let c : wire_stage x ≡ 9 = ap signal_stage at in omega arith;
      }

  signal_staged : 1 ≤ T → (x : ℕ) (s : Signal) → slice_get w.top.signals x ≡ Some s → signals.SignalKind modules layout x s → IsStagedSignal x s
  signal_staged some x s at (clock e q) = subst (IsStagedSignal x) (sym q) tt
  signal_staged some x s at (mask e q) = subst (IsStagedSignal x) (sym q) tt
  signal_staged some x s at (chosen k l e q) = subst (IsStagedSignal x) (sym q) tt
  signal_staged some x s at (wire y v f e q) =
      subst (IsStagedSignal x) (sym q) (wire_staged x y v e (at ∙ ap (λ z. Some z) q) (signals.wire_kind modules layout w.top w.is_top y v f))
  signal_staged some x s at (done e q) = subst (IsStagedSignal x) (sym q) (done_staged some x e (at ∙ ap (λ z. Some z) q))

  -- ---- inputs

  abbrev Connects : ℕ → ℕ → ℕ → Type 0
  Connects j x v = IsConnected n.modules w.top stages j x v

  -- where early signals of instance j are above a stage, and late inputs are late
  connects_at : (j low x v : ℕ) (i : Instance) (Late : ℕ → Type 0) → slice_get w.top.instances j ≡ Some i → low < early_stage j → low < late_stage j
      → ((x : ℕ) → Late x → 7 < port_stage n.modules w.top stages j x) → joining.Joins modules layout w.top w.is_top i.inputs low Late x v → Connects j x v
  connects_at j low x v i Late e a b late joins =
      let Right : ℕ → Type 0 = λ y. Has w.top y v × (wire_stage y < port_stage n.modules w.top stages j x) in
      let at : connected n.modules w.top (instance_at n.modules w.top [] j) x ≡ joins.place = ap (λ o. connected n.modules w.top o x) e ∙ ap or_zero joins.connects in
      let has : Has w.top joins.place v = record { signal = joins.signal; listed = joins.stands; wide = joins.wide } in
      let above = either_above (leaves.late j x) low (early_stage j) (late_stage j) a b in
      let below : wire_stage joins.place < port_stage n.modules w.top stages j x =
      ⊎_elim (λ (l : wire_stage joins.place ≤ low). let z : wire_stage joins.place < port_stage n.modules w.top stages j x = omega arith in z)
      (λ (l : (wire_stage joins.place ≤ 7) × Late x). let y = late x l.1 in let u = l.0 in let z : wire_stage joins.place < port_stage n.modules w.top stages j x = omega arith in z) joins.from in
      let right : Right (connected n.modules w.top (instance_at n.modules w.top [] j) x) = subst Right (sym at) (has, below) in
      record { has = right.0; staged = right.1 }

  -- a late signal has the late stage
  late_is : (j x : ℕ) → leaves.late j x ≡ true → port_stage n.modules w.top stages j x ≡ late_stage j
  late_is j x e = ap (λ z. if z then late_stage j else early_stage j) e

  thread_connects : (i number : ℕ) (m : Module) → slice_get layout.threads i ≡ Some number → IsThreadLeaf layout (leaves.late i) m → (x v : ℕ)
      → slice_get (ports.thread_inputs layout) x ≡ Some v → Connects i x v
  thread_connects i number m a leaf x v h =
      let l = slice_get_within layout.threads i number a in
      let e2 = joining.of_thread_part modules layout w.top w.is_top i 2 4 6 l in let e8 = joining.of_thread_part modules layout w.top w.is_top i 8 8 6 l in
      connects_at i 1 x v (thread_instance S T K (parts layout) layout.cores i number) (joining.LateOfThread modules layout w.top w.is_top)
      (standing.thread_stands modules layout w.top w.is_top i number a) (omega arith) (omega arith) late (joining.thread_joins modules layout w.top w.is_top i number a x v h)
    where
      eight : late_stage i ≡ 8
      eight = joining.of_thread_part modules layout w.top w.is_top i 8 8 6 (slice_get_within layout.threads i number a)

      late : (x : ℕ) → joining.LateOfThread modules layout w.top w.is_top x → 7 < port_stage n.modules w.top stages i x
      late x (inl (k, b, e)) = let z = late_is i x (ap (leaves.late i) e ∙ leaf.grants_late k b) in let y = eight in omega arith
      late x (inr (y, b, e)) = let z = late_is i x (ap (leaves.late i) e ∙ leaf.told_late y b) in let u = eight in omega arith

  core_connects : (k : ℕ) (c : Core) (m : Module) → slice_get layout.cores k ≡ Some c → IsCoreLeaf layout (leaves.late (T + k)) c m → (x v : ℕ)
      → slice_get (ports.core_inputs layout c) x ≡ Some v → Connects (T + k) x v
  core_connects k c m a leaf x v h =
      let l = slice_get_within layout.cores k c a in
      let e4 = joining.of_core_part modules layout w.top w.is_top k 2 4 6 l in let e8 = joining.of_core_part modules layout w.top w.is_top k 8 8 6 l in
      connects_at (T + k) 3 x v (core_instance S T K (parts layout) (ports.asked_before layout k) k c) (joining.LateOfCore modules layout w.top w.is_top c)
      (standing.core_stands modules layout w.top w.is_top k c a) (omega arith) (omega arith) late (joining.core_joins modules layout w.top w.is_top k c a x v h)
    where
      eight : late_stage (T + k) ≡ 8
      eight = joining.of_core_part modules layout w.top w.is_top k 8 8 6 (slice_get_within layout.cores k c a)

      late : (x : ℕ) → joining.LateOfCore modules layout w.top w.is_top c x → 7 < port_stage n.modules w.top stages (T + k) x
      late x (i, b, e) = let z = late_is (T + k) x (ap (leaves.late (T + k)) e ∙ leaf.grants_late i b) in let y = eight in omega arith

  arbiter_connects : (k : ℕ) → k < K → (x v : ℕ) → slice_get (ports.arbiter_inputs layout) x ≡ Some v → Connects (T + K + k) x v
  arbiter_connects k l x v h =
      let e6 = joining.of_arbiter_part modules layout w.top w.is_top k 2 4 6 in let e8 = joining.of_arbiter_part modules layout w.top w.is_top k 8 8 6 in
      connects_at (T + K + k) 5 x v (arbiter_instance S T K (parts layout) layout.arbiter k) (joining.Never modules layout w.top w.is_top)
      (standing.arbiter_stands modules layout w.top w.is_top k l) (omega arith) (omega arith) (λ x e. absurd e) (joining.arbiter_joins modules layout w.top w.is_top k l x v h)

  -- ---- all together

  -- the width of an input, and that there is such an input
  input_width : (m : Module) (ins outs : List ℕ) (late : ℕ → Bool) (x : ℕ) (s : Signal) → IsLeaf m (length ins) late → HasPorts m ins outs → slice_get m.signals x ≡ Some s → s.source ≡ source.Input
      → (slice_get ins x ≡ Some s.width)
  input_width m ins outs late x s leaf has e input =
      let l : x < length ins = subst (IsSoundSource m (length ins) late x s.width) input (leaf.sound x s e) in
      let v = get_there ins x l in
      let h = has.inputs_are x v.0 v.1 in
      let same : h.signal ≡ s = same_Some h.signal s (sym h.listed ∙ e) in
      v.1 ∙ ap (λ z. Some z) (sym h.wide ∙ ap (λ (z : Signal). z.width) same)

  same_module : (j : ℕ) (i : Instance) (m m' : Module) → slice_get w.top.instances j ≡ Some i → slice_get modules i.of ≡ Some m' → module_at n.modules w.top (j ∷ []) ≡ Some m → m' ≡ m
  same_module j i m m' e h at = same_Some m' m (sym (module_there layout modules n w j i m' e h) ∙ at)

  by_leaf : (j : ℕ) (i : Instance) (m : Module) → slice_get w.top.instances j ≡ Some i → module_at n.modules w.top (j ∷ []) ≡ Some m → kinds.Kind layout modules Threads Cores Arbiters j i
      → (inputs : ℕ) × IsLeaf m inputs (leaves.late j)
  by_leaf j i m e at (of_thread number m' a q b leaf) =
      let same = same_module j i m m' e (ap (λ (z : Instance). slice_get modules z.of) q ∙ b) at in
      (length (ports.thread_inputs layout), subst (λ z. IsLeaf z (length (ports.thread_inputs layout)) (leaves.late j)) same leaf.leaf)
  by_leaf j i m e at (of_core k c m' p a q b leaf) =
      let same = same_module j i m m' e (ap (λ (z : Instance). slice_get modules z.of) q ∙ b) at in (
        length (ports.core_inputs layout c),
        subst (λ z. IsLeaf m (length (ports.core_inputs layout c)) (leaves.late z)) (sym p)
            (subst (λ z. IsLeaf z (length (ports.core_inputs layout c)) (leaves.late (T + k))) same leaf.leaf),
      )
  by_leaf j i m e at (of_arbiter k m' p l q b leaf) =
      let same = same_module j i m m' e (ap (λ (z : Instance). slice_get modules z.of) q ∙ b) at in (
        length (ports.arbiter_inputs layout),
        subst (λ z. IsLeaf m (length (ports.arbiter_inputs layout)) (leaves.late z)) (sym p)
            (subst (λ z. IsLeaf z (length (ports.arbiter_inputs layout)) (leaves.late (T + K + k))) same leaf.leaf),
      )

  by_connects : (j : ℕ) (i : Instance) (m : Module) (x : ℕ) (s : Signal) → slice_get w.top.instances j ≡ Some i → module_at n.modules w.top (j ∷ []) ≡ Some m → slice_get m.signals x ≡ Some s
      → s.source ≡ source.Input → kinds.Kind layout modules Threads Cores Arbiters j i → Connects j x s.width
  by_connects j i m x s e at g input (of_thread number m' a q b leaf) =
      let same = same_module j i m m' e (ap (λ (z : Instance). slice_get modules z.of) q ∙ b) at in
      thread_connects j number m' a leaf x s.width
      (input_width m' (ports.thread_inputs layout) (thread_outputs (ask_widths layout.cores)) (leaves.late j) x s leaf.leaf leaf.ports
      (ap (λ (z : Module). slice_get z.signals x) same ∙ g) input)
  by_connects j i m x s e at g input (of_core k c m' p a q b leaf) =
      let same = same_module j i m m' e (ap (λ (z : Instance). slice_get modules z.of) q ∙ b) at in
      subst (λ z. Connects z x s.width) (sym p)
      (core_connects k c m' a leaf x s.width
      (input_width m' (ports.core_inputs layout c) (core_outputs T c) (leaves.late (T + k)) x s leaf.leaf leaf.ports (ap (λ (z : Module). slice_get z.signals x) same ∙ g) input))
  by_connects j i m x s e at g input (of_arbiter k m' p l q b leaf) =
      let same = same_module j i m m' e (ap (λ (z : Instance). slice_get modules z.of) q ∙ b) at in
      subst (λ z. Connects z x s.width) (sym p)
      (arbiter_connects k l x s.width
      (input_width m' (ports.arbiter_inputs layout) (ports.arbiter_outputs layout) (leaves.late (T + K + k)) x s leaf.leaf leaf.ports (ap (λ (z : Module). slice_get z.signals x) same ∙ g) input))

  instance_found : (j : ℕ) (m : Module) → module_at n.modules w.top (j ∷ []) ≡ Some m → (i : Instance) × (slice_get w.top.instances j ≡ Some i)
  instance_found j m at = let a = from_then (λ (i : Instance). slice_get n.modules i.of) (slice_get w.top.instances j) m at in (a.0, a.1)

  pub staged : 1 ≤ T → IsStaged n.modules w.top stages
  staged some = record {
    rises = rises;
    wires = λ x s e. signal_staged some x s e (signals.signal_kind modules layout w.top w.is_top x s e);
    leaves = λ j m at. let i = instance_found j m at in by_leaf j i.0 m i.1 at (kind_at j i.0 i.1);
    connects = λ j m x s at e input. let i = instance_found j m at in by_connects j i.0 m x s i.1 at e input (kind_at j i.0 i.1);
    acts = subst (EachOf (FitsAction w.top)) (sym w.is_top.actions) tt;
    begins = subst (EachOf FitsMemory) (sym w.is_top.memories) tt;
  }

  pub settles : 1 ≤ T → SettlesOnce n.modules w.top T
  settles some =
      let is = staged some in
      let keeps = keeps_states n.modules w.top (net_fits n.modules w.top stages is) (net_statements n.modules w.top stages is) in
      record {
        exists = λ h c state choice. staged_settles n.modules w.top stages is h c state (choice_fits layout modules n w c choice);
        unique = λ h c v u a b path m x s at. staged_same n.modules w.top stages is h c v u a b path m x s at;
        starts = keeps.0;
        keeps = keeps.1;
      }

pub nets_have_stages : NetsHaveStages
nets_have_stages layout modules n w some leaves = (stages layout modules n w leaves, staged layout modules n w leaves some)

pub nets_settle : NetsSettle
nets_settle layout modules n w some leaves = settles layout modules n w leaves some
