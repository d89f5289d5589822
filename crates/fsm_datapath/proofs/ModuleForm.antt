-- The module of a thread is checked by how it is made: its signals are graded, and stand at the places of their kinds.
use Rattle.std.proofs.Common.{◌≡◌, ℕ, zero, suc, ◌+◌, ◌-◌, ◌<◌, ◌≤◌, ◌^◌, min, Bool, true, false, List, [], ◌∷◌, ◌++◌, length, map, Some, refl, sym, ap, subst}
use Rattle.std.proofs.Common.{◌∙◌, arith, ⊎_elim, append_assoc, length-append}
use Rattle.std.specs.Prelude.{slice_get, slice_index}
use Rattle.std.proofs.lemmas.Option.{slice_get_within, get_or_from_slice_get, slice_get-get_or}
use Rattle.std.proofs.lemmas.Bool.{cases_lt}
use Rattle.std.proofs.lemmas.List.{length-map}
use Rattle.lists.proofs.Places.{get_there}
use Rattle.hls_ints.specs.Types.{width_of}
use Rattle.thread_promise.specs.Globals.{bank_total}
use Rattle.thread_promise.specs.Types.{or_int}
use Rattle.block_ir.specs.declared.code.ThreadCode.{ThreadCode}
use Rattle.block_ir.specs.declared.plan.Planned.{Planned}
use Rattle.verilog_tree.specs.declared.tree.BinaryOperator.TheVariants.{And}
use Rattle.netlist.specs.declared.netlist.Value.TheVariants.{Copy, Binary}
use Rattle.netlist.specs.declared.netlist.Source.{Source}
use Rattle.netlist.specs.declared.netlist.Source.TheVariants.{Input, Register, Assigned}
use Rattle.netlist.specs.declared.netlist.Signal.{Signal}
use Rattle.netlist.specs.declared.netlist.Action.{Action}
use Rattle.netlist.specs.declared.netlist.Memory.{Memory}
use Rattle.netlist.specs.declared.netlist.Module.{Module}
use Rattle.verilog_tree.specs.Scope.{is_clk}
use Rattle.circuit.specs.Rows.{EachOf}
use Rattle.circuit.proofs.Growth.{length-spread}
use Rattle.circuit.specs.Modules.{Has, HasRegister, FitsMemory}
use Rattle.module_sound.specs.Grades.{IsOperand, IsGradedSource, IsGradedSignal, AreGrades, ActsRight, IsPort, IsSlotPort}
use Rattle.module_sound.specs.Names.{place_of}
use Rattle.module_sound.specs.Kinds.{SetsAt, IsKindAt, IsPlacedSignal, IsPlaced}
use Rattle.module_sound.specs.Sounds.{AreRightMemories, BeginsWithClock}
use Rattle.operator_wires.specs.declared.wires.Role.TheVariants.{Wire}
use Rattle.operator_wires.specs.Gives.{Grows}
use Rattle.operator_wires.specs.Built.{Base, IsEarlier, IsWire}
use Rattle.operator_wires.proofs.PutSignals.{grows_then, listed}
use Rattle.operator_wires.proofs.BuiltWires.{within, longer, front, stands_after}
use Rattle.block_datapath.specs.declared.registers.Held.{Held}
use Rattle.block_datapath.specs.Wired.{HasWidthAt, AreChains}
use Rattle.block_datapath.specs.Requests.{AreAsMany}
use Rattle.thread_slots.specs.Requests.{group}
use Rattle.block_ir.specs.declared.service.Service.{Service}
use Rattle.thread_slots.specs.Services.{services, number_width}
use Rattle.thread_slots.specs.declared.shape.Shape.{Shape}
use Rattle.thread_slots.specs.Bits.{AreBitsOf}
use Rattle.thread_slots.specs.Slots.{StandsAt}
use Rattle.leaf_machine.specs.Ports.{asks_of, thread_outputs}
use Rattle.thread_layout.specs.Row.{Row}
use Rattle.thread_layout.specs.Outputs.{CopiesAt, rows_at, fields_from}
use Rattle.thread_slots.specs.Wired.{field_width, IsNoMemory, IsInnerInput, IsSlotRegister}
use Rattle.thread_layout.specs.Actions.{set_action, sets_from}
use Rattle.thread_slots.specs.Cells.{store_action}
use Rattle.thread_layout.specs.Modules.{marks_of, IsWiredInside, IsModule}
use Rattle.thread_layout.specs.Thread.{cores_of, inputs_of, core_ports, first_output, port_at, need_at, done_at, IsServed}
use Rattle.thread_layout.specs.Memories.{memories_from, base_behind, control_base}
use Rattle.thread_layout.specs.Wired.{IsSteered, WiresControl}
use Rattle.fsm_datapath.specs.SoundLeaf.{IsChecked}
use Rattle.thread_slots.proofs.LaidRegisters.{stands_later}
use Rattle.thread_slots.proofs.SlotWires.{name_tells, name_differs}
use Rattle.thread_layout.proofs.Opened.{wired}
use Rattle.thread_layout.proofs.RestingThread.{mark_at}
use Rattle.thread_layout.proofs.Placed.{from_inside, from_control, from_heard, from_early, from_slot, from_inputs, from_ports, inputs_long, registers_long, cores, words_count, banks_many}
use Rattle.thread_layout.proofs.Placed.{opens_count, first_stage, enable_at, enable_stands, grant_at, grant_stands, stage_at, stage_stands, state_at, state_stands, beat_at}
use Rattle.thread_layout.proofs.Placed.{beat_stands, variable_held, kept_held, mark_held, variables_at, kept_at, granted_at, before_outputs, bank_outputs}
use Rattle.thread_layout.proofs.Placed.{HasBankOutputs, ask_stands, field_stands, need_stands, done_stands, all_long, ports_count, rows, widths_are, bank_listed, act_listed, own_act_rows, ports_long}
use Rattle.thread_layout.proofs.Cores.{services_count}
use Rattle.thread_layout.proofs.CoreRows.{HaveWidths, row_width, own_asks, row_found, place_of_rows, all_count}
use Rattle.fsm_datapath.proofs.SignalGrades.{none_read, level, input_level, slot_level, stage_level, asks_level, control_level, asked_level, told_level, most_level, grades}
use Rattle.fsm_datapath.proofs.SignalGrades.{grade_listed, earlier_operand, wire_graded, wire_ranges}
use Rattle.fsm_datapath.proofs.ArrayMemories.{right_memories, begun}
use Rattle.fsm_datapath.proofs.RegisterStatements.{stores_right, stands_register, set_right, sets_right, sets_at, sets_past}
use Rattle.thread_layout.proofs.ModuleMemories.{each_append}

-- what stands on a base behind the clock can be read by control
lowered : (base : Base) (a : List Signal) (y w : ℕ) → 1 ≤ base.first → IsEarlier a base y w → IsEarlier a control_base y w
lowered base a y w some e = record { signal = e.signal; listed = e.listed; wide = e.wide; after = (let after = e.after in omega arith); low = e.low; high = e.high }

register_has : (m : Module) (h : Held) (place w n : ℕ) → h.register ≡ place → h.width ≡ w → StandsAt m.signals place w (Register n) → HasRegister m h.register h.width
register_has m h place w n at wide s = subst (λ z. HasRegister m z h.width) (sym at) (subst (λ z. HasRegister m place z) (sym wide) (stands_register m place w n s))

mapped_from : (hs : List Held) (k x : ℕ) → slice_get (map (λ (h : Held). h.register) hs) k ≡ Some x → k < length hs
mapped_from hs k x e = let less = slice_get_within (map (λ (h : Held). h.register) hs) k x e in let count = length-map hs (λ (h : Held). h.register) in omega arith

module _ (shape : Shape) (code : ThreadCode) (plan : Planned) (m : Module) (t : IsModule shape code plan m) (served : IsServed shape code plan) where
  inner : IsWiredInside code plan shape t.laid.with_ports t.laid.with_inputs t.laid.with_slot t.laid.with_early t.laid.with_heard t.with_inside t.inside
  inner = wired shape code plan m t served

  abbrev banks : ℕ
  banks = bank_total shape.spreads

  abbrev behind : ℕ
  behind = inputs_of shape

  abbrev inside_to : Grows t.with_inside m.signals
  inside_to = from_inside shape code plan m t served

  abbrev control_to : Grows t.closed.with_control m.signals
  control_to = from_control shape code plan m t served

  abbrev early_to : Grows t.laid.with_early m.signals
  early_to = from_early shape code plan m t served

  abbrev heard_to : Grows t.laid.with_heard m.signals
  heard_to = from_heard shape code plan m t served

  abbrev slot_to : Grows t.laid.with_slot m.signals
  slot_to = from_slot shape code plan m t served

  -- what wires stand on
  abbrev before : Base
  before = base_behind (length t.laid.with_inputs) code

  abbrev hearing : Base
  hearing = base_behind (length t.laid.with_ports) code

  abbrev stages : Base
  stages = base_behind (length t.laid.with_inputs) code

  -- where parts begin
  abbrev n : ℕ
  n = length m.signals

  abbrev l : ℕ
  l = length t.laid.with_early

  abbrev u : ℕ
  u = length t.laid.with_heard

  abbrev d : ℕ
  d = length t.with_inside

  abbrev a : ℕ
  a = d + cores_of shape

  abbrev e : ℕ
  e = length t.closed.with_control

  -- how many outputs ask
  abbrev asked : ℕ
  asked = length (asks_of (core_ports shape))

  counted : length t.inside.slot.words ≡ banks
  counted = words_count shape code plan m t served

  inputs_first : length t.laid.with_inputs ≡ behind
  inputs_first = inputs_long shape code plan m t served

  some_inputs : 0 < length t.laid.with_inputs
  some_inputs = let one = inputs_first in omega arith

  ports_first : length t.laid.with_ports ≡ 2 + cores_of shape
  ports_first = ports_long shape code plan m t served

  slot_count : length t.laid.with_slot ≡ behind + 3 + length code.variables + plan.registers + length shape.globals
  slot_count = let more = t.laid.granted.long in let rest = registers_long shape code plan m t served in omega arith

  slot_before : length t.laid.with_slot ≤ l
  slot_before = longer t.laid.with_slot t.laid.with_early inner.early.wires.grows

  early_before : l ≤ d
  early_before = longer t.laid.with_early t.with_inside (grows_then t.laid.with_early t.laid.with_heard t.with_inside inner.heard.grows inner.wires.grows)

  heard_before : u ≤ d
  heard_before = longer t.laid.with_heard t.with_inside inner.wires.grows

  inputs_before : behind ≤ l
  inputs_before = let one = slot_count in let two = slot_before in omega arith

  outputs_at : e ≡ first_output shape m
  outputs_at = before_outputs shape code plan m t served

  whole : n ≡ e + (asked + 2)
  whole =
      let long = all_long shape code plan m t served in
      let more : length (thread_outputs (core_ports shape)) ≡ asked + 2 = length-append (asks_of (core_ports shape)) (1 ∷ 1 ∷ []) in
      omega arith

  few : n ≤ 2 ^ 64
  few = t.closed.few

  -- memories that are read are the module's
  inside_read : (j : ℕ) (c : Memory) → slice_get (memories_from 0 code.arrays) j ≡ Some c → slice_get m.memories j ≡ Some c
  inside_read j c there = ap (λ (z : List Memory). slice_get z j) t.memories ∙ there

  -- ---- control

  -- a signal of the inside
  at_inside : (place w : ℕ) (source : Source) → StandsAt m.signals place w source → 1 ≤ place → place < d → 1 ≤ w → w ≤ 64 → IsEarlier t.with_inside control_base place w
  at_inside place w source s after less low high = record {
    signal = s.signal;
    listed = sym (front t.with_inside m.signals place inside_to less) ∙ s.listed;
    wide = s.wide;
    after = after;
    low = low;
    high = high;
  }

  from_stages : (y w : ℕ) → IsEarlier t.with_inside stages y w → IsEarlier t.with_inside control_base y w
  from_stages y w = lowered stages t.with_inside y w (let one = inputs_first in let some : 1 ≤ length t.laid.with_inputs = omega arith in some)

  from_early_wire : (y w : ℕ) → IsEarlier t.laid.with_early before y w → IsEarlier t.with_inside control_base y w
  from_early_wire y w r = stands_after t.laid.with_early t.with_inside control_base y w
      (grows_then t.laid.with_early t.laid.with_heard t.with_inside inner.heard.grows inner.wires.grows) (lowered before t.laid.with_early y w
      (let one = inputs_first in let some : 1 ≤ length t.laid.with_inputs = omega arith in some) r)

  inputs_inside : behind ≤ d
  inputs_inside = let one = inputs_before in let two = early_before in omega arith

  grants_stand : AreBitsOf control_base t.with_inside t.inside.inputs.grants
  grants_stand k x there =
      let less = slice_get_within t.inside.inputs.grants k x there in
      let count : length t.inside.inputs.grants ≡ cores_of shape = grants_count in
      let under : k < cores_of shape = omega arith in
      let at : 2 + k ≡ x = sym (grant_at shape code plan m t served k under) ∙ get_or_from_slice_get t.inside.inputs.grants k x 0 there in
      subst (λ z. IsEarlier t.with_inside control_base z 1) at
      (at_inside (2 + k) 1 Input (grant_stands shape code plan m t served k under) (omega arith) (let one = inputs_inside in omega arith) (omega arith) (omega arith))
    where
      grants_count : length t.inside.inputs.grants ≡ cores_of shape
      grants_count = t.laid.inputs.count ∙ cores shape code plan m t served

  marks_stand : AreBitsOf control_base t.with_inside (marks_of t.inside)
  marks_stand k x there =
      let less : k < length shape.globals = (let own = mapped_from t.inside.granted k x there in let count = t.laid.granted.count in omega arith) in
      let v = mark_held shape code plan m t served k less in
      let at : behind + 3 + length code.variables + plan.registers + k ≡ x =
      sym (mark_at shape code plan m t served k less) ∙ get_or_from_slice_get (marks_of t.inside) k x 0 there in
      subst (λ z. IsEarlier t.with_inside control_base z 1) at
      (at_inside (behind + 3 + length code.variables + plan.registers + k) 1 (Register 0) v.stands (omega arith)
      (let one = slot_count in let two = slot_before in let three = early_before in omega arith) (omega arith) (omega arith))

  steering : IsSteered control_base t.with_inside t.inside.slot t.inside.inputs t.inside.chains t.inside.early.opens (marks_of t.inside)
  steering = record {
    state = from_stages t.inside.slot.state.register t.inside.slot.state.width inner.linked.slots.state;
    beat = from_stages t.inside.slot.beat 1 inner.linked.slots.beat;
    enable =
        subst (λ x. IsEarlier t.with_inside control_base x 1) (sym (enable_at shape code plan m t served))
        (at_inside 1 1 Input (enable_stands shape code plan m t served) (omega arith) (let one = inputs_inside in omega arith) (omega arith) (omega arith));
    grants = grants_stand;
    count = t.laid.inputs.count ∙ cores shape code plan m t served ∙ sym (opens_count shape code plan m t served);
    is_last = from_stages t.inside.chains.is_last 1 inner.linked.is_last;
    waits = from_stages t.inside.chains.waits 1 inner.linked.waits;
    opens = λ k x there. from_early_wire x 1 (inner.early.opens k x there);
    granted = marks_stand;
  }

  controls : WiresControl control_base t.with_inside t.closed.with_control t.inside.slot t.inside.inputs t.inside.early.opens (marks_of t.inside) t.edge
  controls = t.closed.wired steering

  control_grows : Grows t.with_inside t.closed.with_control
  control_grows = controls.wires.grows

  asks_end : length controls.with_asks ≡ a
  asks_end = controls.first.long ∙ ap (λ z. d + z) (opens_count shape code plan m t served)

  asks_before : a ≤ e
  asks_before = let one = longer controls.with_asks t.closed.with_control controls.later in let two = asks_end in omega arith

  -- whether core k is asked
  asks_at : (k : ℕ) → k < cores_of shape → slice_index t.edge.asks k ≡ d + k
  asks_at k less = controls.first.places k (subst (λ z. k < z) (sym (opens_count shape code plan m t served)) less)

  -- ---- grades

  abbrev grade : ℕ → ℕ
  grade = level behind l d a e asked

  grade_input : (x : ℕ) → x < behind → grade x ≡ min x 2
  grade_input = input_level behind l d a e asked

  grade_slot : (x : ℕ) → behind ≤ x → x < l → grade x ≡ 0
  grade_slot = slot_level behind l d a e asked

  grade_stage : (x : ℕ) → l ≤ x → x < d → grade x ≡ 2
  grade_stage = stage_level behind l d a e asked inputs_before

  grade_asks : (x : ℕ) → d ≤ x → x < a → grade x ≡ 1
  grade_asks = asks_level behind l d a e asked inputs_before early_before

  grade_control : (x : ℕ) → a ≤ x → x < e → grade x ≡ 2
  grade_control = control_level behind l d a e asked inputs_before early_before (omega arith)

  grade_asked : (x : ℕ) → e ≤ x → x < e + asked → grade x ≡ 1
  grade_asked = asked_level behind l d a e asked inputs_before early_before (omega arith) asks_before

  grade_told : (x : ℕ) → e + asked ≤ x → grade x ≡ 0
  grade_told = told_level behind l d a e asked inputs_before early_before (omega arith) asks_before

  grade_most : (x : ℕ) → x < e → grade x ≤ 2
  grade_most = most_level behind l d a e asked inputs_before early_before (omega arith)

  abbrev Graded : ℕ → ℕ → Signal → Type 0
  Graded x g s = IsGradedSignal m (grades m grade) x behind g s

  graded_at : (x g : ℕ) (s : Signal) → grade x ≡ g → Graded x g s → Graded x (grade x) s
  graded_at x g s same r = subst (λ k. Graded x k s) (sym same) r

  -- an input
  input_is : (x : ℕ) (s : Signal) → x < behind → slice_get m.signals x ≡ Some s → IsInnerInput x s
  input_is x s less there =
      inner.inputs x s (omega arith)
      (sym (front t.laid.with_inputs m.signals x (from_inputs shape code plan m t served) (subst (λ z. x < z) (sym (inputs_long shape code plan m t served)) less))
      ∙ there)

  input_graded : (x : ℕ) (s : Signal) → x < behind → slice_get m.signals x ≡ Some s → Graded x (grade x) s
  input_graded x s less there =
      let r = input_is x s less there in
      record {
        low = r.low;
        high = r.high;
        source = subst (λ (z : Source). IsGradedSource m (grades m grade) x behind s.width (grade x) z) (sym r.drives) (less, grade_input x less);
      }

  -- what registers alone reach
  slot_operand : (x y w g : ℕ) → IsEarlier t.laid.with_early before y w → l ≤ x → IsOperand m (grades m grade) x g y w
  slot_operand x y w g r le =
      let inside = within t.laid.with_early before y w r in
      let after : length t.laid.with_inputs ≤ y = r.after in
      let first = inputs_first in
      let some : 0 < length t.laid.with_inputs = omega arith in
      let zero_is = grade_slot y (omega arith) inside in
      earlier_operand m grade t.laid.with_early early_to before x y w g some r (omega arith) (omega arith)

  -- ---- outputs

  -- a copy of a signal of at most its grade
  record IsCopy (x : ℕ) : Type 0 where
    of : ℕ
    wide : ℕ
    stands : CopiesAt m.signals x wide of
    low : 1 ≤ wide
    high : wide ≤ 64
    operand : IsOperand m (grades m grade) x (grade x) of wide

  asks_copy : (x k : ℕ) → k < cores_of shape → e ≤ x → x < e + asked → CopiesAt m.signals x 1 (slice_index t.edge.asks k) → IsCopy x
  asks_copy x k less le under stands =
      let at = asks_at k less in
      let count : length t.edge.asks ≡ cores_of shape = controls.first.count ∙ opens_count shape code plan m t served in
      let there = slice_get-get_or t.edge.asks k 0 (subst (λ z. k < z) (sym count) less) in
      let here = controls.asks k (slice_index t.edge.asks k) there in
      let one_is = grade_asks (slice_index t.edge.asks k) (omega arith) (omega arith) in
      let own = grade_asked x le under in
      let inside = within t.closed.with_control control_base (slice_index t.edge.asks k) 1 here in
      record {
        of = slice_index t.edge.asks k;
        wide = 1;
        stands = stands;
        low = omega arith;
        high = omega arith;
        operand = earlier_operand m grade t.closed.with_control control_to control_base x (slice_index t.edge.asks k) 1 (grade x) (omega arith) here (omega arith) (omega arith);
      }

  slot_copy : (x y w : ℕ) → e ≤ x → CopiesAt m.signals x w y → IsEarlier t.laid.with_early before y w → IsCopy x
  slot_copy x y w le stands r = record {
    of = y;
    wide = w;
    stands = stands;
    low = r.low;
    high = r.high;
    operand = slot_operand x y w (grade x) r (let one = early_before in let two = asks_before in omega arith);
  }

  -- link k of chains of what is asked
  chain_at : (hs : List Held) (ys : List ℕ) (k w : ℕ) → AreChains t.laid.with_early before hs ys → k < length ys → HasWidthAt hs k w →
      IsEarlier t.laid.with_early before (slice_index ys k) w
  chain_at hs ys k w chains less wide =
      let h = get_there hs k (subst (λ z. k < z) chains.count less) in
      subst (λ z. IsEarlier t.laid.with_early before (slice_index ys k) z) (wide h.0 h.1) (chains.each k (slice_index ys k) h.0 h.1 (slice_get-get_or ys k 0 less))

  chain_counts : AreAsMany banks t.inside.early.requests.banks
  chain_counts = banks_many shape code plan m t served

  -- number j of the ports of bank k, whose words have this width
  bank_part : (x k j w : ℕ) → k < banks → HasBankOutputs m.signals (port_at shape m k) t.edge.asks t.inside.early.requests.banks k w → HasWidthAt inner.own k w → j < 4
      → x ≡ port_at shape m k j → e ≤ x → x < e + asked → IsCopy x
  bank_part x k zero w less out own four at le under =
      asks_copy x k (omega arith) le under (subst (λ z. CopiesAt m.signals z 1 (slice_index t.edge.asks k)) (sym at) out.at_ask)
  bank_part x k (suc zero) w less out own four at le under =
      slot_copy x (slice_index t.inside.early.requests.banks.writes k) 1 le
      (subst (λ z. CopiesAt m.signals z 1 (slice_index t.inside.early.requests.banks.writes k)) (sym at) out.at_writes)
      (chain_at inner.bits t.inside.early.requests.banks.writes k 1 inner.early.linked.banks.writes (subst (λ z. k < z) (sym chain_counts.writes) less)
      (inner.early.linked.widths.bits k))
  bank_part x k (suc (suc zero)) w less out own four at le under =
      slot_copy x (slice_index t.inside.early.requests.banks.addresses k) 64 le
      (subst (λ z. CopiesAt m.signals z 64 (slice_index t.inside.early.requests.banks.addresses k)) (sym at) out.at_address)
      (chain_at inner.wide t.inside.early.requests.banks.addresses k 64 inner.early.linked.banks.addresses (subst (λ z. k < z) (sym chain_counts.addresses) less)
      (inner.early.linked.widths.wide k))
  bank_part x k (suc (suc (suc zero))) w less out own four at le under =
      slot_copy x (slice_index t.inside.early.requests.banks.values k) w le
      (subst (λ z. CopiesAt m.signals z w (slice_index t.inside.early.requests.banks.values k)) (sym at) out.at_value)
      (chain_at inner.own t.inside.early.requests.banks.values k w inner.early.linked.banks.values (subst (λ z. k < z) (sym chain_counts.values) less) own)
  bank_part x k (suc (suc (suc (suc j)))) w less out own four at le under = absurd (omega arith)

  bank_copy : (x k j : ℕ) → k < banks → j < 4 → x ≡ port_at shape m k j → e ≤ x → x < e + asked → IsCopy x
  bank_copy x k j less four at low under =
      let one = served.spreads.all k less in
      let i : ℕ = k - one.1.first in
      let le = one.3 in
      let lt = one.4 in
      let number : one.1.first + i ≡ k = omega arith in
      let some : i < one.1.count = omega arith in
      let global : one.0 < length shape.globals = subst (λ z. one.0 < z) served.spreads.count (slice_get_within shape.spreads one.0 one.1 one.2) in
      let ty = get_there shape.globals one.0 global in
      let spread_is : slice_get inner.asking.spreads one.0 ≡ Some one.1 = ap (λ z. slice_get z one.0) (inner.spreads ∙ t.laid.slot.spreads_are) ∙ one.2 in
      bank_part x k j (width_of ty.0) less
      (subst (λ z. HasBankOutputs m.signals (port_at shape m z) t.edge.asks t.inside.early.requests.banks z (width_of ty.0)) number
      (bank_outputs shape code plan m t served one.0 i one.1 ty.0 one.2 ty.1 some))
      (subst (λ z. HasWidthAt inner.own z (width_of ty.0)) number
      (λ h there. inner.early.linked.widths.own one.0 i one.1 spread_is some h there ∙ ap (λ z. width_of (or_int z)) ty.1)) four at low under

  -- number j of the ports of core i of those that acts ask
  act_copy : (x i j : ℕ) (k : Service) → slice_get (services shape.served) i ≡ Some k → j < suc (length (group t.inside.early.requests k).fields)
      → x ≡ port_at shape m (banks + i) j → e ≤ x → x < e + asked → IsCopy x
  act_copy x i zero k own less at le under =
      let count = services_count shape.served in
      let inside = slice_get_within (services shape.served) i k own in
      asks_copy x (banks + i) (omega arith) le under
      (subst (λ z. CopiesAt m.signals z 1 (slice_index t.edge.asks (banks + i))) (sym at) (ask_stands shape code plan m t served (banks + i) (omega arith)))
  act_copy x i (suc j) k own less at le under =
      let found = get_there (group t.inside.early.requests k).fields j (omega arith) in
      let w = field_width (number_width shape.served k) j in
      slot_copy x found.0 w le (subst (λ z. CopiesAt m.signals z w found.0) (sym at) (field_stands shape code plan m t served i k own j found.0 found.1))
      ((inner.early.linked.requests k).fields j found.0 found.1)

  fields_long : (first from : ℕ) (fields : List ℕ) → length (fields_from first from fields) ≡ length fields
  fields_long first from [] = refl
  fields_long first from (x ∷ fields) = ap suc (fields_long first (suc from) fields)

  abbrev own_rows : List (List Row)
  own_rows = rows shape code plan m t served

  own_widths : HaveWidths own_rows (core_ports shape)
  own_widths = widths_are shape code plan m t served

  -- each row
  row_copy : (x : ℕ) → e ≤ x → x < e + asked → IsCopy x
  row_copy x le under =
      let first = outputs_at in
      let count = all_count own_rows (core_ports shape) own_widths in
      let found = row_found own_rows (x - e) (omega arith) in
      let part = slice_get_within found.own found.part found.row found.there in
      let core : found.core < cores_of shape =
      (let one = slice_get_within own_rows found.core found.own found.listed in
      let two : length own_rows ≡ length (core_ports shape) =
      sym (length-map own_rows (map row_width)) ∙ ap length own_widths ∙ length-map (core_ports shape) own_asks in
      let three = ports_count shape code plan m t served in
      omega arith) in
      let at : x ≡ port_at shape m found.core found.part =
      (let place = found.place in let one = place_of_rows own_rows (core_ports shape) own_widths found.core in omega arith) in
      ⊎_elim
      (λ (bank : found.core < banks).
      let h = get_there t.inside.slot.words found.core (let words = counted in omega arith) in
      let its = bank_listed shape code plan m t served found.core h.0 h.1 in
      let same : found.own ≡ rows_at t.edge.asks t.inside.early.requests.banks found.core h.0.width = (let mine = found.listed in cc) in
      let four : length found.own ≡ 4 = ap length same in
      bank_copy x found.core found.part bank (omega arith) at le under)
      (λ (past : banks ≤ found.core).
      let count = services_count shape.served in
      let i : ℕ = found.core - banks in
      let kind = get_there (services shape.served) i (omega arith) in
      let here : banks + i ≡ found.core = omega arith in
      let its = act_listed shape code plan m t served i kind.0 kind.1 in
      let mine : slice_get own_rows (banks + i) ≡ Some found.own = ap (slice_get own_rows) here ∙ found.listed in
      let same : found.own ≡ own_act_rows shape code plan m t served i kind.0 kind.1 = cc in
      let long : length found.own ≡ suc (length (group t.inside.early.requests kind.0).fields) =
      ap length same ∙ ap suc (fields_long (number_width shape.served kind.0) 0 (group t.inside.early.requests kind.0).fields) in
      act_copy x i found.part kind.0 kind.1 (omega arith) (at ∙ ap (λ k. port_at shape m k found.part) (sym here)) le under)
      (cases_lt found.core banks)

  need_copy : (x : ℕ) → x ≡ need_at shape m → IsCopy x
  need_copy x at =
      let first = outputs_at in
      slot_copy x t.inside.early.need 1 (omega arith) (subst (λ z. CopiesAt m.signals z 1 t.inside.early.need) (sym at) (need_stands shape code plan m t served))
      inner.early.need

  done_copy : (x : ℕ) → x ≡ done_at shape m → IsCopy x
  done_copy x at =
      let first = outputs_at in
      slot_copy x t.inside.early.done 1 (omega arith) (subst (λ z. CopiesAt m.signals z 1 t.inside.early.done) (sym at) (done_stands shape code plan m t served))
      inner.early.done

  -- each output is one
  output_copy : (x : ℕ) → e ≤ x → x < n → IsCopy x
  output_copy x le less =
      let sum = whole in
      let first = outputs_at in
      ⊎_elim (λ (p : x < e + asked). row_copy x le p)
      (λ (p : e + asked ≤ x).
      ⊎_elim (λ (q : x < e + (asked + 1)). need_copy x (omega arith)) (λ (q : e + (asked + 1) ≤ x). done_copy x (omega arith)) (cases_lt x (e + (asked + 1))))
      (cases_lt x (e + asked))

  output_graded : (x : ℕ) (s : Signal) → slice_get m.signals x ≡ Some s → e ≤ x → Graded x (grade x) s
  output_graded x s there le =
      let c = output_copy x le (slice_get_within m.signals x s there) in
      let same : c.stands.signal ≡ s = (let p = c.stands.listed in cc) in
      subst (λ (z : Signal). Graded x (grade x) z) same
      (record {
        low = subst (λ k. 1 ≤ k) (sym c.stands.wide) c.low;
        high = subst (λ k. k ≤ 64) (sym c.stands.wide) c.high;
        source =
            subst (λ (z : Source). IsGradedSource m (grades m grade) x behind c.stands.signal.width (grade x) z) (sym c.stands.drives)
            (subst (λ k. IsOperand m (grades m grade) x (grade x) c.of k) (sym c.stands.wide) c.operand);
      })

  -- ---- wires

  -- whether cores are asked
  asks_graded : (x : ℕ) (s : Signal) → slice_get m.signals x ≡ Some s → d ≤ x → x < a → Graded x 1 s
  asks_graded x s there le less =
      let k : ℕ = x - d in
      let at : d + k ≡ x = omega arith in
      let count = opens_count shape code plan m t served in
      let under : k < length t.inside.early.opens = omega arith in
      let found = get_there t.inside.early.opens k under in
      let stands =
      stands_later controls.with_asks m.signals (d + k) 1 (Assigned (Binary And found.0 t.inside.inputs.enable))
      (grows_then controls.with_asks t.closed.with_control m.signals controls.later control_to) (controls.first.each k found.0 under found.1) in
      let same : stands.signal ≡ s = (let p : slice_get m.signals x ≡ Some stands.signal = ap (slice_get m.signals) (sym at) ∙ stands.listed in cc) in
      let opened = slot_operand x found.0 1 1 (inner.early.opens k found.0 found.1) (let one = early_before in omega arith) in
      let enable_is : grade t.inside.inputs.enable ≡ 1 = ap grade (enable_at shape code plan m t served) ∙ grade_input 1 (omega arith) in
      let enable_inside : t.inside.inputs.enable < d = within t.with_inside control_base t.inside.inputs.enable 1 steering.enable in
      let enable = earlier_operand m grade t.with_inside inside_to control_base x t.inside.inputs.enable 1 1 (omega arith) steering.enable (omega arith) (omega arith) in
      subst (λ (z : Signal). Graded x 1 z) same
      (record {
        low = (let w = stands.wide in omega arith);
        high = (let w = stands.wide in omega arith);
        source =
            subst (λ (z : Source). IsGradedSource m (grades m grade) x behind stands.signal.width 1 z) (sym stands.drives)
            (subst (λ k. IsOperand m (grades m grade) x 1 found.0 k × IsOperand m (grades m grade) x 1 t.inside.inputs.enable k) (sym stands.wide) (opened, enable));
      })

  control_wire : (x : ℕ) (s : Signal) → slice_get m.signals x ≡ Some s → d ≤ x → x < e → IsWire t.closed.with_control control_base x s
  control_wire x s there le less = controls.wires.each x s le (sym (front t.closed.with_control m.signals x control_to less) ∙ there)

  control_graded : (x : ℕ) (s : Signal) → slice_get m.signals x ≡ Some s → a ≤ x → x < e → Graded x 2 s
  control_graded x s there le less =
      wire_graded m grade t.closed.with_control control_to control_base behind x 2 s (omega arith) (none_read m) (λ y after under. grade_most y (omega arith))
      (control_wire x s there (omega arith) less)

  heard_wire : (x : ℕ) (s : Signal) → slice_get m.signals x ≡ Some s → l ≤ x → x < u → IsWire t.laid.with_heard hearing x s
  heard_wire x s there le less = inner.heard.each x s le (sym (front t.laid.with_heard m.signals x heard_to less) ∙ there)

  heard_graded : (x : ℕ) (s : Signal) → slice_get m.signals x ≡ Some s → l ≤ x → x < u → Graded x 2 s
  heard_graded x s there le less =
      wire_graded m grade t.laid.with_heard heard_to hearing behind x 2 s (let first = ports_first in let some : 0 < length t.laid.with_ports = omega arith in some) inside_read
      (λ y after under. grade_most y (let one = asks_before in let two = heard_before in omega arith)) (heard_wire x s there le less)

  stage_wire : (x : ℕ) (s : Signal) → slice_get m.signals x ≡ Some s → u ≤ x → x < d → IsWire t.with_inside stages x s
  stage_wire x s there le less = inner.wires.each x s le (sym (front t.with_inside m.signals x inside_to less) ∙ there)

  stage_graded : (x : ℕ) (s : Signal) → slice_get m.signals x ≡ Some s → u ≤ x → x < d → Graded x 2 s
  stage_graded x s there le less =
      wire_graded m grade t.with_inside inside_to stages behind x 2 s some_inputs inside_read (λ y after under. grade_most y (let one = asks_before in omega arith))
      (stage_wire x s there le less)

  early_wire : (x : ℕ) (s : Signal) → slice_get m.signals x ≡ Some s → length t.laid.with_slot ≤ x → x < l → IsWire t.laid.with_early before x s
  early_wire x s there le less = inner.early.wires.each x s le (sym (front t.laid.with_early m.signals x early_to less) ∙ there)

  early_graded : (x : ℕ) (s : Signal) → slice_get m.signals x ≡ Some s → length t.laid.with_slot ≤ x → x < l → Graded x 0 s
  early_graded x s there le less =
      let first = inputs_first in
      wire_graded m grade t.laid.with_early early_to before behind x 0 s some_inputs inside_read
      (λ y after under.
      (let past : length t.laid.with_inputs ≤ y = after in
      let zero_is = grade_slot y (omega arith) (omega arith) in omega arith)) (early_wire x s there le less)

  register_is : (x : ℕ) (s : Signal) → slice_get m.signals x ≡ Some s → behind ≤ x → x < length t.laid.with_slot → IsSlotRegister behind x s
  register_is x s there le less =
      subst (λ (k : ℕ). IsSlotRegister k x s) (inputs_long shape code plan m t served)
      (inner.registers x s (let one = inputs_long shape code plan m t served in omega arith) (sym (front t.laid.with_slot m.signals x slot_to less) ∙ there))

  register_graded : (x g : ℕ) (s : Signal) → IsSlotRegister behind x s → Graded x g s
  register_graded x g s r = record {
    low = r.low;
    high = r.high;
    source = subst (λ (z : Source). IsGradedSource m (grades m grade) x behind s.width g z) (sym r.drives) r.fits;
  }

  -- the parts of a module, one behind the other
  by_part : (P : ℕ → Type 0) (x : ℕ) → (x < behind → P x) → (behind ≤ x → x < length t.laid.with_slot → P x) → (length t.laid.with_slot ≤ x → x < l → P x) → (l ≤ x → x < d → P x)
      → (d ≤ x → x < a → P x) → (a ≤ x → x < e → P x) → (e ≤ x → P x) → P x
  by_part P x input register early stage asks control output =
      ⊎_elim input
      (λ (p : behind ≤ x).
      ⊎_elim (register p)
      (λ (q : length t.laid.with_slot ≤ x).
      ⊎_elim (early q)
      (λ (r : l ≤ x).
      ⊎_elim (stage r)
      (λ (u : d ≤ x). ⊎_elim (asks u) (λ (v : a ≤ x). ⊎_elim (control v) output (cases_lt x e)) (cases_lt x a))
      (cases_lt x d))
      (cases_lt x l))
      (cases_lt x (length t.laid.with_slot)))
      (cases_lt x behind)

  graded : (x : ℕ) (s : Signal) → slice_get m.signals x ≡ Some s → Graded x (grade x) s
  graded x s there =
      by_part (λ z. Graded x (grade x) s) x (λ p. input_graded x s p there) (λ p q. register_graded x (grade x) s (register_is x s there p q))
      (λ p q. graded_at x 0 s (grade_slot x (let one = slot_count in omega arith) q) (early_graded x s there p q))
      (λ p q. graded_at x 2 s (grade_stage x p q) (⊎_elim (heard_graded x s there p) (λ (r : u ≤ x). stage_graded x s there r q) (cases_lt x u)))
      (λ p q. graded_at x 1 s (grade_asks x p q) (asks_graded x s there p q)) (λ p q. graded_at x 2 s (grade_control x p q) (control_graded x s there p q))
      (λ p. output_graded x s there p)

  are_grades : AreGrades m behind n (grades m grade)
  are_grades = record {
    count = length-spread grade 0 n;
    each = λ x s less there. (grade x, grade_listed m grade x less, graded x s there);
  }

  -- ---- statements

  abbrev firsts : List Action
  firsts =
      set_action t.edge.leave t.inside.slot.stage.register t.inside.chains.stage ∷ set_action t.edge.leave t.inside.slot.state.register t.edge.state
      ∷ set_action t.edge.moved t.inside.slot.beat t.edge.beat ∷ []

  abbrev variable_sets : List Action
  variable_sets = sets_from t.edge.leave t.inside.chains.variables 0 t.inside.slot.variables

  abbrev kept_sets : List Action
  kept_sets = sets_from t.edge.leave t.inside.chains.kept 0 t.inside.slot.kept

  abbrev mark_sets : List Action
  mark_sets = sets_from t.edge.moved t.edge.granted 0 t.inside.granted

  abbrev store_sets : List Action
  store_sets = map (store_action t.edge.leave) t.inside.stores

  actions_are : m.actions ≡ firsts ++ (variable_sets ++ (kept_sets ++ (mark_sets ++ store_sets)))
  actions_are =
      t.actions ∙ append_assoc ((firsts ++ variable_sets) ++ kept_sets) mark_sets store_sets ∙ append_assoc (firsts ++ variable_sets) kept_sets (mark_sets ++ store_sets)
      ∙ append_assoc firsts variable_sets (kept_sets ++ (mark_sets ++ store_sets))

  inside_later : (y w : ℕ) → IsEarlier t.with_inside stages y w → IsEarlier t.closed.with_control control_base y w
  inside_later y w r = stands_after t.with_inside t.closed.with_control control_base y w control_grows (from_stages y w r)

  set_ok : (register source w : ℕ) → HasRegister m register w → IsEarlier t.closed.with_control control_base source w → ActsRight m (set_action t.edge.leave register source)
  set_ok = set_right m t.closed.with_control control_to t.edge.leave controls.leave

  firsts_right : EachOf (ActsRight m) firsts
  firsts_right = (
    set_ok t.inside.slot.stage.register t.inside.chains.stage t.inside.slot.stage.width
        (register_has m t.inside.slot.stage behind t.inside.slot.stage.width (first_stage shape code plan m t served) (stage_at shape code plan m t served) refl
        (stage_stands shape code plan m t served))
        (inside_later t.inside.chains.stage t.inside.slot.stage.width inner.linked.stage),
    (
      set_ok t.inside.slot.state.register t.edge.state t.inside.slot.state.width
          (register_has m t.inside.slot.state (behind + 1) t.inside.slot.state.width 0 (state_at shape code plan m t served) refl
          (state_stands shape code plan m t served))
          controls.state,
      (
        set_right m t.closed.with_control control_to t.edge.moved controls.moved t.inside.slot.beat t.edge.beat 1
            (subst (λ x. HasRegister m x 1) (sym (beat_at shape code plan m t served))
            (stands_register m (behind + 2) 1 0 (beat_stands shape code plan m t served))) controls.beat,
        tt,
      ),
    ),
  )

  variable_has : (i : ℕ) (h : Held) → slice_get t.inside.slot.variables i ≡ Some h → HasRegister m h.register h.width
  variable_has i h there =
      let less : i < length code.variables = subst (λ z. i < z) t.laid.slot.variables_count (slice_get_within t.inside.slot.variables i h there) in
      let ty = get_there code.variables i less in
      let v = variable_held shape code plan m t served i ty.0 ty.1 in
      let same : v.held ≡ h = (let p = v.listed in cc) in
      subst (λ (z : Held). HasRegister m z.register z.width) same (register_has m v.held (behind + 3 + i) (width_of ty.0) 0 v.at v.wide v.stands)

  kept_has : (i : ℕ) (h : Held) → slice_get t.inside.slot.kept i ≡ Some h → HasRegister m h.register h.width
  kept_has i h there =
      let less : i < length t.laid.kept_widths = subst (λ z. i < z) t.laid.slot.kept_count (slice_get_within t.inside.slot.kept i h there) in
      let v = kept_held shape code plan m t served i less in
      let same : v.held ≡ h = (let p = v.listed in cc) in
      subst (λ (z : Held). HasRegister m z.register z.width) same (register_has m v.held (behind + 3 + length code.variables + i) v.held.width 0 v.at refl v.stands)

  mark_has : (i : ℕ) (h : Held) → slice_get t.inside.granted i ≡ Some h → HasRegister m h.register h.width × (h.width ≡ 1)
  mark_has i h there =
      let less : i < length shape.globals = subst (λ z. i < z) t.laid.granted.count (slice_get_within t.inside.granted i h there) in
      let v = mark_held shape code plan m t served i less in
      let same : v.held ≡ h = (let p = v.listed in cc) in
      subst (λ (z : Held). HasRegister m z.register z.width × (z.width ≡ 1)) same
      (register_has m v.held (behind + 3 + length code.variables + plan.registers + i) 1 0 v.at v.wide v.stands, v.wide)

  variables_right : EachOf (ActsRight m) variable_sets
  variables_right =
      sets_right m t.closed.with_control control_to t.edge.leave controls.leave t.inside.chains.variables 0 t.inside.slot.variables variable_has
      (λ i y h p q. inside_later y h.width (inner.linked.variables i y h (let same : 0 + i ≡ i = omega arith in ap (slice_get t.inside.chains.variables) (sym same) ∙ p) q))

  kept_right : EachOf (ActsRight m) kept_sets
  kept_right =
      sets_right m t.closed.with_control control_to t.edge.leave controls.leave t.inside.chains.kept 0 t.inside.slot.kept kept_has
      (λ i y h p q. inside_later y h.width (inner.linked.kept i y h (let same : 0 + i ≡ i = omega arith in ap (slice_get t.inside.chains.kept) (sym same) ∙ p) q))

  marks_right : EachOf (ActsRight m) mark_sets
  marks_right =
      sets_right m t.closed.with_control control_to t.edge.moved controls.moved t.edge.granted 0 t.inside.granted (λ i h there. (mark_has i h there).0)
      (λ i y h p q.
      subst (λ z. IsEarlier t.closed.with_control control_base y z) (sym (mark_has i h q).1)
      (controls.marks i y (let same : 0 + i ≡ i = omega arith in ap (slice_get t.edge.granted) (sym same) ∙ p)))

  all_stores_right : EachOf (ActsRight m) store_sets
  all_stores_right =
      stores_right m t.closed.with_control t.with_inside stages some_inputs control_to inside_to t.edge.leave controls.leave inside_read t.inside.stores inner.stores

  acts : EachOf (ActsRight m) m.actions
  acts =
      subst (λ (z : List Action). EachOf (ActsRight m) z) (sym actions_are)
      (each_append (ActsRight m) firsts (variable_sets ++ (kept_sets ++ (mark_sets ++ store_sets))) firsts_right
      (each_append (ActsRight m) variable_sets (kept_sets ++ (mark_sets ++ store_sets)) variables_right
      (each_append (ActsRight m) kept_sets (mark_sets ++ store_sets) kept_right (each_append (ActsRight m) mark_sets store_sets marks_right all_stores_right))))

  -- ---- each register is set by the statement of its own number

  some_next : (xs : List ℕ) (i : ℕ) → i < length xs → (y : ℕ) × (slice_get xs (0 + i) ≡ Some y)
  some_next xs i less = let f = get_there xs i less in (f.0, (let same : 0 + i ≡ i = omega arith in ap (slice_get xs) same ∙ f.1))

  set_by : (k x condition source : ℕ) (register : ℕ) → register ≡ x
      → slice_get (firsts ++ (variable_sets ++ (kept_sets ++ (mark_sets ++ store_sets)))) k ≡ Some (set_action condition register source) → SetsAt m k x
  set_by k x condition source register same there = record {
    action = set_action condition x source;
    listed = ap (λ (z : List Action). slice_get z k) actions_are ∙ there ∙ ap (λ z. Some (set_action condition z source)) same;
    is = (source, refl);
  }

  past_three : (rest : List Action) (i : ℕ) → slice_get (firsts ++ rest) (3 + i) ≡ slice_get rest i
  past_three rest i = let f : 3 + i ≡ suc (suc (suc i)) = omega arith in ap (slice_get (firsts ++ rest)) f

  variable_nexts : (j : ℕ) → j < length t.inside.slot.variables → (y : ℕ) × (slice_get t.inside.chains.variables (0 + j) ≡ Some y)
  variable_nexts j less = some_next t.inside.chains.variables j (subst (λ z. j < z) (sym inner.linked.variables_count) less)

  kept_nexts : (j : ℕ) → j < length t.inside.slot.kept → (y : ℕ) × (slice_get t.inside.chains.kept (0 + j) ≡ Some y)
  kept_nexts j less = some_next t.inside.chains.kept j (subst (λ z. j < z) (sym inner.linked.kept_count) less)

  mark_nexts : (j : ℕ) → j < length t.inside.granted → (y : ℕ) × (slice_get t.edge.granted (0 + j) ≡ Some y)
  mark_nexts j less =
      some_next t.edge.granted j
      (subst (λ z. j < z) (sym (t.closed.controls.granted_count ∙ length-map t.inside.granted (λ (h : Held). h.register))) less)

  variable_set : (i : ℕ) → i < length t.inside.slot.variables → SetsAt m (3 + i) (behind + 3 + i)
  variable_set i less =
      let found = get_there t.inside.slot.variables i less in
      let f = sets_at t.edge.leave t.inside.chains.variables 0 t.inside.slot.variables (kept_sets ++ (mark_sets ++ store_sets)) i found.0 variable_nexts found.1 in
      set_by (3 + i) (behind + 3 + i) t.edge.leave f.0 found.0.register (variables_at shape code plan m t served i found.0 found.1)
      (past_three (variable_sets ++ (kept_sets ++ (mark_sets ++ store_sets))) i ∙ f.1)

  kept_set : (i : ℕ) → i < length t.inside.slot.kept → SetsAt m (3 + (length t.inside.slot.variables + i)) (behind + 3 + length t.inside.slot.variables + i)
  kept_set i less =
      let found = get_there t.inside.slot.kept i less in
      let f = sets_at t.edge.leave t.inside.chains.kept 0 t.inside.slot.kept (mark_sets ++ store_sets) i found.0 kept_nexts found.1 in
      set_by (3 + (length t.inside.slot.variables + i)) (behind + 3 + length t.inside.slot.variables + i) t.edge.leave f.0 found.0.register
      (kept_at shape code plan m t served i found.0 found.1)
      (past_three (variable_sets ++ (kept_sets ++ (mark_sets ++ store_sets))) (length t.inside.slot.variables + i)
      ∙ sets_past t.edge.leave t.inside.chains.variables 0 t.inside.slot.variables (kept_sets ++ (mark_sets ++ store_sets)) i variable_nexts ∙ f.1)

  mark_set : (i : ℕ) → i < length t.inside.granted
      → SetsAt m (3 + (length t.inside.slot.variables + (length t.inside.slot.kept + i))) (behind + 3 + length t.inside.slot.variables + length t.inside.slot.kept + i)
  mark_set i less =
      let found = get_there t.inside.granted i less in
      let f = sets_at t.edge.moved t.edge.granted 0 t.inside.granted store_sets i found.0 mark_nexts found.1 in
      set_by (3 + (length t.inside.slot.variables + (length t.inside.slot.kept + i))) (behind + 3 + length t.inside.slot.variables + length t.inside.slot.kept + i) t.edge.moved f.0
      found.0.register
      (granted_at shape code plan m t served i found.0 found.1)
      (past_three (variable_sets ++ (kept_sets ++ (mark_sets ++ store_sets))) (length t.inside.slot.variables + (length t.inside.slot.kept + i))
      ∙ sets_past t.edge.leave t.inside.chains.variables 0 t.inside.slot.variables (kept_sets ++ (mark_sets ++ store_sets)) (length t.inside.slot.kept + i) variable_nexts
      ∙ sets_past t.edge.leave t.inside.chains.kept 0 t.inside.slot.kept (mark_sets ++ store_sets) i kept_nexts ∙ f.1)

  set_at : (k place x : ℕ) → behind ≤ x → place ≡ x → k ≡ x - behind → SetsAt m k place → SetsAt m (x - behind) x
  set_at k place x le at number s = subst (λ z. SetsAt m (x - behind) z) at (subst (λ z. SetsAt m z place) number s)

  sets : (x : ℕ) → behind ≤ x → x < length t.laid.with_slot → SetsAt m (x - behind) x
  sets x le less =
      let long = slot_count in
      let variables = t.laid.slot.variables_count in
      let kept : length t.inside.slot.kept ≡ plan.registers = t.laid.slot.kept_count ∙ t.laid.kept.count in
      let marks = t.laid.granted.count in
      ⊎_elim
      (λ (p : x < behind + 1).
      set_at 0 behind x le (omega arith) (omega arith) (set_by 0 behind t.edge.leave t.inside.chains.stage t.inside.slot.stage.register
      (stage_at shape code plan m t served) refl))
      (λ (p : behind + 1 ≤ x).
      ⊎_elim
      (λ (q : x < behind + 2).
      set_at 1 (behind + 1) x le (omega arith) (omega arith) (set_by 1 (behind + 1) t.edge.leave t.edge.state t.inside.slot.state.register
      (state_at shape code plan m t served) refl))
      (λ (q : behind + 2 ≤ x).
      ⊎_elim
      (λ (r : x < behind + 3).
      set_at 2 (behind + 2) x le (omega arith) (omega arith) (set_by 2 (behind + 2) t.edge.moved t.edge.beat t.inside.slot.beat (beat_at shape code plan m t served) refl))
      (λ (r : behind + 3 ≤ x).
      ⊎_elim
      (λ (u : x < behind + 3 + length t.inside.slot.variables).
      let i : ℕ = x - (behind + 3) in
      set_at (3 + i) (behind + 3 + i) x le (omega arith) (omega arith) (variable_set i (omega arith)))
      (λ (u : behind + 3 + length t.inside.slot.variables ≤ x).
      ⊎_elim
      (λ (v : x < behind + 3 + length t.inside.slot.variables + length t.inside.slot.kept).
      let i : ℕ = x - (behind + 3 + length t.inside.slot.variables) in
      set_at (3 + (length t.inside.slot.variables + i)) (behind + 3 + length t.inside.slot.variables + i) x le (omega arith) (omega arith) (kept_set i (omega arith)))
      (λ (v : behind + 3 + length t.inside.slot.variables + length t.inside.slot.kept ≤ x).
      let i : ℕ = x - (behind + 3 + length t.inside.slot.variables + length t.inside.slot.kept) in
      set_at (3 + (length t.inside.slot.variables + (length t.inside.slot.kept + i))) (behind + 3 + length t.inside.slot.variables + length t.inside.slot.kept + i) x le
      (omega arith) (omega arith)
      (mark_set i (omega arith)))
      (cases_lt x (behind + 3 + length t.inside.slot.variables + length t.inside.slot.kept)))
      (cases_lt x (behind + 3 + length t.inside.slot.variables)))
      (cases_lt x (behind + 3)))
      (cases_lt x (behind + 2)))
      (cases_lt x (behind + 1))

  -- ---- places and names

  abbrev Kind : ℕ → Bool → Source → Type 0
  Kind x out source = IsKindAt m behind (first_output shape m) x out source

  -- it stands at its place, and its name is no memory's
  abbrev IsPut : ℕ → Signal → Type 0
  IsPut x s = IsPlacedSignal m behind (first_output shape m) x s × IsNoMemory x s

  placed_by : (x : ℕ) (s : Signal) (out : Bool) (source : Source) → place_of n behind s.name ≡ Some x → IsNoMemory x s → s.is_output ≡ out → s.source ≡ source → Kind x out source
      → IsPut x s
  placed_by x s out source named unlike flag drives kind = (
    record { named = named; kind = subst (λ (b : Bool). Kind x b s.source) (sym flag) (subst (λ (z : Source). Kind x out z) (sym drives) kind) },
    unlike,
  )

  small : (x : ℕ) (s : Signal) → slice_get m.signals x ≡ Some s → x < 2 ^ 64
  small x s there = let less = slice_get_within m.signals x s there in let most = few in omega arith

  input_placed : (x : ℕ) (s : Signal) → x < behind → slice_get m.signals x ≡ Some s → IsPut x s
  input_placed x s less there =
      let r = input_is x s less there in
      placed_by x s false Input (r.named n behind (small x s there)) r.unlike r.inner r.drives (less, refl)

  register_placed : (x : ℕ) (s : Signal) → slice_get m.signals x ≡ Some s → behind ≤ x → x < length t.laid.with_slot → IsPut x s
  register_placed x s there le less =
      let r = register_is x s there le less in
      let one = slot_before in
      let two = early_before in
      let three = asks_before in
      let out = outputs_at in
      placed_by x s false (Register r.initial) (r.named n (small x s there)) r.unlike r.inner r.drives
      (le, (let z : x < first_output shape m = omega arith in z), refl, sets x le less)

  wire_placed : (b : List Signal) (base : Base) (x : ℕ) (s : Signal) → Grows b m.signals → IsWire b base x s → slice_get m.signals x ≡ Some s → behind ≤ x →
      x < first_output shape m
      → IsPut x s
  wire_placed b base x s g w there le less =
      placed_by x s false (Assigned w.right) (ap (place_of n behind) w.named ∙ name_tells Wire n behind x refl (small x s there))
      (λ fits j few e. name_differs Wire x j (sym w.named ∙ e)) w.inner w.drives
      (le, (λ above. absurd (omega arith)), (λ below. refl), wire_ranges m grade b g base x s w)

  output_placed : (x : ℕ) (s : Signal) → slice_get m.signals x ≡ Some s → e ≤ x → IsPut x s
  output_placed x s there le =
      let within_outputs : length t.closed.with_control ≤ x = le in
      let named = t.closed.named x s within_outputs there in
      let c = output_copy x le (slice_get_within m.signals x s there) in
      let same : c.stands.signal ≡ s = (let p = c.stands.listed in cc) in
      let drives : s.source ≡ Assigned (Copy c.of) = subst (λ (z : Signal). z.source ≡ Assigned (Copy c.of)) same c.stands.drives in
      let one = inputs_inside in
      let two = asks_before in
      let at = outputs_at in
      placed_by x s true (Assigned (Copy c.of)) (named.named behind (small x s there)) named.unlike named.flag drives
      ((let z : behind ≤ x = omega arith in z), (λ above. refl), (λ below. absurd (omega arith)), tt)

  placed : (x : ℕ) (s : Signal) → slice_get m.signals x ≡ Some s → IsPut x s
  placed x s there =
      let one = slot_count in
      let two = slot_before in
      let three = early_before in
      let four = asks_before in
      let five = heard_before in
      let at = outputs_at in
      by_part (λ z. IsPut x s) x (λ p. input_placed x s p there) (λ p q. register_placed x s there p q)
      (λ p q. wire_placed t.laid.with_early before x s early_to (early_wire x s there p q) there (omega arith) (omega arith))
      (λ p q.
      ⊎_elim (λ (r : x < u). wire_placed t.laid.with_heard hearing x s heard_to (heard_wire x s there p r) there (omega arith) (omega arith))
      (λ (r : u ≤ x). wire_placed t.with_inside stages x s inside_to (stage_wire x s there r q) there (omega arith) (omega arith)) (cases_lt x u))
      (λ p q. wire_placed t.closed.with_control control_base x s control_to (control_wire x s there p (omega arith)) there (omega arith) (omega arith))
      (λ p q. wire_placed t.closed.with_control control_base x s control_to (control_wire x s there (omega arith) q) there (omega arith) (omega arith))
      (λ p. output_placed x s there p)

  is_placed : IsPlaced m behind (first_output shape m)
  is_placed = record {
    within = (let sum = whole in let at = outputs_at in omega arith);
    order = (let one = inputs_inside in let two = asks_before in let at = outputs_at in omega arith);
    each = λ x s there. (placed x s there).0;
  }

  begins : BeginsWithClock m
  begins =
      let clock = t.laid.inputs.clock in
      record {
        signal = clock.signal;
        listed = listed t.laid.with_ports m.signals 0 clock.signal (from_ports shape code plan m t served) clock.listed;
        named = ap is_clk (t.laid.inputs.clock_named clock.signal clock.listed);
        input = clock.drives;
        wide = clock.wide;
      }

  asked_port : (j : ℕ) → j < asked → IsPort m (grades m grade) 1 (first_output shape m + j)
  asked_port j less =
      let sum = whole in
      let at = outputs_at in
      let one = inputs_inside in
      let two = asks_before in
      let found = get_there m.signals (first_output shape m + j) (omega arith) in
      let here : grade (first_output shape m + j) ≡ 1 = grade_asked (first_output shape m + j) (omega arith) (omega arith) in
      record {
        wide = found.0.width;
        has = record { signal = found.0; listed = found.1; wide = refl };
        after = omega arith;
        own = grade (first_output shape m + j);
        listed = grade_listed m grade (first_output shape m + j) (omega arith);
        below = (let z = here in omega arith);
      }

  bit_has : (place of : ℕ) → CopiesAt m.signals place 1 of → Has m place 1
  bit_has place of s = record { signal = s.signal; listed = s.listed; wide = s.wide }

  told_port : (place : ℕ) → Has m place 1 → e + asked ≤ place → IsSlotPort m (grades m grade) place
  told_port place has le =
      let less = slice_get_within m.signals place has.signal has.listed in
      record {
        has = has;
        after = (let one = inputs_inside in let two = asks_before in omega arith);
        listed = grade_listed m grade place less ∙ ap Some (grade_told place le);
      }

  memories_are : AreRightMemories m
  memories_are = right_memories m code.arrays t.memories t.few_memories (λ a array at. (served.arrays a array at).0)
      (λ x s there. (placed x s there).1 (small x s there))

  pub checked_is : IsChecked shape m
  checked_is = record {
    memories = memories_are;
    begun = subst (λ (z : List Memory). EachOf FitsMemory z) (sym t.memories) (begun 0 code.arrays);
    grades = grades m grade;
    are = are_grades;
    ports = record {
      acts = acts;
      placed = is_placed;
      begins = begins;
      asks = asked_port;
      need = told_port (need_at shape m) (bit_has (need_at shape m) _ (need_stands shape code plan m t served)) (let at = outputs_at in omega arith);
      done = told_port (done_at shape m) (bit_has (done_at shape m) _ (done_stands shape code plan m t served)) (let at = outputs_at in omega arith);
    };
  }
