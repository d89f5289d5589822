-- The module of main keeps to itself.
use Rattle.std.proofs.Common.{◌≡◌, ◌≢◌, ℕ, ◌+◌, ◌-◌, ◌%◌, ◌<◌, ◌≤◌, ◌^◌, nat_eq, Bool, true, false, not, ◌&&◌, ◌||◌, if◌then◌else◌, List, [], ◌∷◌, ◌++◌, length}
use Rattle.std.proofs.Common.{map, slice_get, slice_index, Option, Some, None, refl, sym, ap, subst, ◌∙◌, arith, ⊎_elim}
use Rattle.std.proofs.lemmas.Bool.{cases_lt, eqb-true, or_parts, and_parts}
use Rattle.std.proofs.lemmas.Option.{same_Some, slice_get_within, get_or_from_slice_get}
use Rattle.std.proofs.Math.Bool.{or-false, or-true, and-false}
use Rattle.lists.proofs.Places.{get_there}
use Rattle.hls_ints.specs.Residues.{bit_of}
use Rattle.block_ir.specs.declared.block.Block.{Block}
use Rattle.block_ir.specs.declared.code.Act.TheVariants.{Return}
use Rattle.block_ir.specs.declared.code.Stage.{Stage}
use Rattle.block_ir.specs.declared.code.Stage.TheVariants as stage
use Rattle.block_ir.specs.declared.code.ThreadCode.{ThreadCode}
use Rattle.block_ir.specs.declared.plan.BlockPlan.{BlockPlan}
use Rattle.block_ir.specs.declared.plan.Planned.{Planned}
use Rattle.planned_block.specs.Slot.{Slot}
use Rattle.planned_block.specs.Advance.{any_below}
use Rattle.planned_block.specs.Closed.{IsClosed}
use Rattle.planned_block.proofs.Advances.{some_tells}
use Rattle.plan_blocks.specs.View.{planned_view, plan_view}
use Rattle.netlist.specs.declared.netlist.Source.{Source}
use Rattle.netlist.specs.declared.netlist.Source.TheVariants.{Register}
use Rattle.netlist.specs.declared.netlist.Signal.{Signal}
use Rattle.netlist.specs.declared.netlist.Action.{Action}
use Rattle.netlist.specs.declared.netlist.Module.{Module}
use Rattle.verilog_meaning.specs.Cycles.{IsRegister}
use Rattle.verilog_meaning.specs.Readings.{Reading, width, next_reading}
use Rattle.circuit.specs.Rows.{EachOf}
use Rattle.circuit.specs.Modules.{Obeys, Agree}
use Rattle.leaf_machine.specs.Leaves.{leaf_thread, leaf_places}
use Rattle.leaf_machine.specs.Steady.{KeepsToItself, IsSteadyThread}
use Rattle.operator_wires.specs.Gives.{Grows}
use Rattle.operator_wires.specs.Built.{IsEarlier}
use Rattle.operator_wires.proofs.BuiltWires.{within}
use Rattle.operator_wires.proofs.PutSignals.{grows_then, listed}
use Rattle.thread_promise.specs.Globals.{bank_total}
use Rattle.thread_promise.specs.Promise.{is_run}
use Rattle.thread_promise.specs.Serving.{IsInside}
use Rattle.block_datapath.specs.declared.registers.Held.{Held}
use Rattle.block_datapath.specs.Requests.{Asked}
use Rattle.thread_slots.specs.declared.shape.Shape.{Shape}
use Rattle.thread_layout.specs.Actions.{set_action, sets_from}
use Rattle.thread_slots.specs.Cells.{store_action}
use Rattle.block_ir.specs.declared.service.Service.{Service}
use Rattle.thread_slots.specs.Requests.{group}
use Rattle.thread_layout.specs.Asking.{is_asked, AskSame}
use Rattle.thread_slots.specs.Bits.{HasBit}
use Rattle.thread_layout.specs.Control.{got, unmet, is_left}
use Rattle.thread_layout.specs.Leaf.{leaf_of}
use Rattle.thread_layout.specs.Memories.{base_behind}
use Rattle.thread_layout.specs.Modules.{IsModule, IsWiredInside}
use Rattle.thread_promise.specs.Moves.{meeting}
use Rattle.thread_slots.specs.Idle.{is_idle}
use Rattle.thread_slots.specs.Numbers.{is_wait, numbers}
use Rattle.thread_slots.proofs.StageNumbers.{number_is}
use Rattle.thread_layout.proofs.Sight.{waits_last, still, knows, enabled, waiting, state_wide, enable_bit, next_beat, chains_bits, stage_shown}
use Rattle.thread_layout.proofs.ModuleMemories.{each_append}
use Rattle.fsm_datapath.specs.Steady.{NeedsNoMore, IsBeat, IsSteadyServed}
use Rattle.thread_layout.specs.Thread.{cores_of, inputs_of, port_at, need_at, done_at, places_of, IsServed}
use Rattle.fsm_datapath.proofs.Alike.{ActsAlike, wires_alike, wire_alike, next_alike, set_acts, sets_alike, stores_alike}
use Rattle.thread_layout.proofs.LostRequests.{quiet_not_lost}
use Rattle.thread_layout.proofs.StateMoves.{asker}
use Rattle.thread_layout.proofs.Needed.{asked_now, asked_bank, asked_kind, service_off, unneeded_asks, idle_needs_so, meeting_needs, end_needs, return_needs, closed_needs, none_below, bit_false}
use Rattle.thread_layout.proofs.Opened.{raised_by, acts_by, no_service, all_count, marked_now, mark_bit, open_bits, want_wide, wired, start_many, start_less, bit_told}
use Rattle.thread_layout.proofs.Cores.{none_open}
use Rattle.thread_layout.proofs.OpenCores.{joined_front, joined_back}
use Rattle.thread_slots.specs.declared.requests.Request.{Request}
use Rattle.thread_layout.specs.Early.{with_banks}
use Rattle.thread_layout.proofs.AllAsks.{group_kept}
use Rattle.thread_layout.proofs.Placed.{wide_bit, stands_wide, stands_copies, stands_agrees, from_control}
use Rattle.thread_layout.proofs.Placed.{from_inside, from_rest, from_heard, from_words_heard, from_early, from_slot, from_registers, opens_count}
use Rattle.thread_layout.proofs.Placed.{ask_copied, need_stands, done_stands, before_need, beat_at, beat_stands, inputs_long}
use Rattle.thread_layout.proofs.Quiet.{bank_bit, service_shown}
use Rattle.thread_layout.proofs.RaisedAsks.{from_whole, none_wanted, wanted, wanted_bit}
use Rattle.thread_layout.proofs.Requested.{indices, targets, printing}
use Rattle.thread_layout.proofs.RestingThread.{raised_now, grants_now, opens_now, steers_now, agrees_off, rests_so, marks_left, one_is}

-- ---- bits

turned : (b : Bool) → bit_of b ≡ bit_of (not b) → ⊥
turned true e = absurd cc
turned false e = absurd cc

some_bit : (b : Bool) → (bit_of b ≡ 0 → ⊥) → b ≡ true
some_bit true e = refl
some_bit false e = absurd (e refl)

agree_refl : (m : Module) (r : Reading) → Agree m r r
agree_refl m r = record { registers = λ x s e i. refl; words = λ j k s e b. refl }

module _ (shape : Shape) (code : ThreadCode) (plan : Planned) (m : Module) (t : IsModule shape code plan m) (served : IsServed shape code plan) where
  abbrev banks : ℕ
  banks = bank_total shape.spreads

  abbrev behind : ℕ
  behind = inputs_of shape

  abbrev firsts : List Action
  firsts =
      set_action t.edge.leave t.inside.slot.stage.register t.inside.chains.stage ∷ set_action t.edge.leave t.inside.slot.state.register t.edge.state
      ∷ set_action t.edge.moved t.inside.slot.beat t.edge.beat ∷ []

  inner : IsWiredInside code plan shape t.laid.with_ports t.laid.with_inputs t.laid.with_slot t.laid.with_early t.laid.with_heard t.with_inside t.inside
  inner = wired shape code plan m t served

  -- ---- outputs

  ask_shown : (r : Reading) (k : ℕ) → Obeys m r → k < cores_of shape → r.signal (port_at shape m k 0) ≡ r.signal (slice_index t.edge.asks k)
  ask_shown = ask_copied shape code plan m t served

  need_copied : (r : Reading) → Obeys m r → r.signal (need_at shape m) ≡ r.signal t.inside.early.need
  need_copied r o = stands_copies m r (need_at shape m) 1 t.inside.early.need o (need_stands shape code plan m t served)

  done_copied : (r : Reading) → Obeys m r → r.signal (done_at shape m) ≡ r.signal t.inside.early.done
  done_copied r o = stands_copies m r (done_at shape m) 1 t.inside.early.done o (done_stands shape code plan m t served)

  -- ---- one reading

  module _ (r : Reading) (o : Obeys m r) where
    abbrev now : ℕ
    now = r.signal t.inside.slot.stage.register

    abbrev raised : ℕ → Bool
    raised = raised_now shape code plan m t served r o

    abbrev grants : ℕ → Bool
    grants = grants_now shape code plan m t served r o

    abbrev waits : Bool
    waits = (waiting shape code plan m t served r o).0

    -- what is asked, by cores
    asks_bit : (e : Bool) → r.signal 1 ≡ bit_of e → (k : ℕ) → k < cores_of shape → r.signal (slice_index t.edge.asks k) ≡ bit_of (raised k && e)
    asks_bit e on k less =
        (t.closed.controls.asks m r raised e (from_control shape code plan m t served) o (opens_now shape code plan m t served r o)
        (enable_bit shape code plan m t served r o e on) k (subst (λ n. k < n) (sym (opens_count shape code plan m t served)) less)).shows

    abbrev Quiet : Type 0
    Quiet = (n : ℕ) → n < banks + 4 → asked_now shape code plan m t served r o n ≡ false

    -- where none is wanted none is open
    raised_none : Quiet → (n : ℕ) → n < cores_of shape → raised n ≡ false
    raised_none quiet n less =
        let wants : (k : ℕ) → k < banks → HasBit m r (slice_index t.inside.early.requests.banks.wants k) false =
        λ k below.
        let wide = want_wide shape code plan m t served k below in
        let bit = wide_bit m r (slice_index t.inside.early.requests.banks.wants k) o wide in
        record {
          wide = wide;
          shows =
              bit_told (r.signal (slice_index t.inside.early.requests.banks.wants k)) bit.0 bit.1
              ∙ ap (λ z. bit_of (nat_eq (r.signal z) 1)) (sym (asked_bank shape code plan m t served k below)) ∙ ap bit_of (quiet k (omega arith));
        } in
        let none = no_service shape code plan m t served in
        let opened =
        open_bits shape code plan m t served r o (λ k. false) (marked_now shape code plan m t served r) none wants
        (λ k below. mark_bit shape code plan m t served r k o below) (service_off shape code plan m t served r o quiet) n
        (subst (λ z. n < z) (sym (all_count shape code plan m t served)) less) in
        ap (λ z. nat_eq z 1) (opened.shows ∙ ap bit_of shut)
      where
        shut : raised_by shape code plan m t served (λ k. false) (marked_now shape code plan m t served r)
            (acts_by shape code plan m t served r (no_service shape code plan m t served)) n ≡ false
        shut =
            ⊎_elim
            (λ (bank : n < banks).
            joined_front banks (λ k. false && not (marked_now shape code plan m t served r k)) (acts_by shape code plan m t served r (no_service shape code plan m t served)) n bank)
            (λ (past : banks ≤ n).
            joined_back banks (λ k. false && not (marked_now shape code plan m t served r k)) (acts_by shape code plan m t served r (no_service shape code plan m t served)) n past
            ∙ none_open shape.served (λ s. r.signal (group t.inside.early.requests s).object) (n - banks))
            (cases_lt n banks)

    -- the state is left
    left_is : (e : Bool) → r.signal 1 ≡ bit_of e → r.signal t.edge.leave ≡ bit_of (is_left raised grants e waits (length t.inside.early.opens))
    left_is e on =
        (t.closed.controls.leave m r raised grants waits e (from_control shape code plan m t served) o (steers_now shape code plan m t served r o e on)).shows

    moved_is : (e : Bool) → r.signal 1 ≡ bit_of e
        → r.signal t.edge.moved ≡ bit_of (is_left raised grants e waits (length t.inside.early.opens) || any_below (got raised grants e) (length t.inside.early.opens))
    moved_is e on =
        (t.closed.controls.moved m r raised grants waits e (from_control shape code plan m t served) o (steers_now shape code plan m t served r o e on)).shows

    within_opens : (k : ℕ) → k < length t.inside.early.opens → k < cores_of shape
    within_opens k less = subst (λ n. k < n) (opens_count shape code plan m t served) less

    none_unmet : Quiet → (e : Bool) → any_below (unmet raised grants e) (length t.inside.early.opens) ≡ false
    none_unmet quiet e =
        none_below (unmet raised grants e) (length t.inside.early.opens)
        (λ k less. ap (λ z. z && not ((z && e) && grants k)) (raised_none quiet k (within_opens k less)))

    none_got : Quiet → (e : Bool) → any_below (got raised grants e) (length t.inside.early.opens) ≡ false
    none_got quiet e =
        none_below (got raised grants e) (length t.inside.early.opens) (λ k less. ap (λ z. (z && e) && grants k) (raised_none quiet k (within_opens k less)))

    left_quiet : Quiet → (e : Bool) → is_left raised grants e waits (length t.inside.early.opens) ≡ (e && not waits)
    left_quiet quiet e = ap (λ z. e && not (waits || z)) (none_unmet quiet e) ∙ ap (λ z. e && not z) (or-false waits)

    -- whatever moves turns the beat
    moves_on : r.signal t.edge.moved ≡ 1 → Agree m r (next_reading m r) → ⊥
    moves_on moved stays =
        let place = stands_agrees m r (next_reading m r) (behind + 2) 1 0 stays (beat_stands shape code plan m t served) in
        let bit = beat_bit in
        turned bit.0 (sym bit.1 ∙ place ∙ next_beat shape code plan m t served r o bit.0 moved bit.1)
      where
        beat_bit : (b : Bool) × (r.signal (behind + 2) ≡ bit_of b)
        beat_bit = wide_bit m r (behind + 2) o (stands_wide m (behind + 2) 1 (Register 0) (beat_stands shape code plan m t served))

    -- and what leaves the beat as it was moves nothing
    beat_left : (next_reading m r).signal (behind + 2) ≡ r.signal (behind + 2) → Agree m r (next_reading m r)
    beat_left same = by (leaves_now || hears_now) refl
      where
        on : (e : Bool) × (r.signal 1 ≡ bit_of e)
        on = enabled shape code plan m t served r o

        leaves_now : Bool
        leaves_now = is_left raised grants on.0 waits (length t.inside.early.opens)

        hears_now : Bool
        hears_now = any_below (got raised grants on.0) (length t.inside.early.opens)

        by : (c : Bool) → (leaves_now || hears_now) ≡ c → Agree m r (next_reading m r)
        by false e =
            agrees_off shape code plan m t served r o (left_is on.0 on.1 ∙ ap bit_of (or_parts leaves_now hears_now e).0) (moved_is on.0 on.1 ∙ ap bit_of e)
        by true e =
            let bit = wide_bit m r (behind + 2) o (stands_wide m (behind + 2) 1 (Register 0) (beat_stands shape code plan m t served)) in
            absurd (turned bit.0 (sym bit.1 ∙ sym same ∙ next_beat shape code plan m t served r o bit.0 (moved_is on.0 on.1 ∙ ap bit_of e) bit.1))

    -- ---- where no core is needed

    not_lost : Quiet → r.signal t.inside.early.lost ≡ 0
    not_lost quiet = quiet_not_lost shape code plan m t served r o (service_off shape code plan m t served r o quiet)

    module _ (none : r.signal t.inside.early.need ≡ 0) where
      quiet_here : Quiet
      quiet_here = unneeded_asks shape code plan m t served r o none

      -- the thread does not wait
      waits_not : r.signal t.inside.chains.waits ≡ 0
      waits_not = waits_last shape code plan m t served r o false false (by (slice_get code.stages now) refl) (not_lost quiet_here)
        where
          -- at no stage it is at no number of one, since where it meets others it needs a core
          none_of : (k : ℕ) (s : Stage) → slice_get code.stages k ≡ Some s → slice_get code.stages now ≡ None → (c : Bool) → numbers (length code.stages) k s now ≡ c
              → numbers (length code.stages) k s now ≡ false
          none_of k s there listed false e = e
          none_of k s there listed true e =
              ⊎_elim
              (λ (own : now ≡ k). absurd (let nothing : slice_get code.stages k ≡ None = ap (slice_get code.stages) (sym own) ∙ listed in cc))
              (λ (met : (is_wait s ≡ true) × (now ≡ meeting (length code.stages) k)).
              absurd (let clash : 0 ≡ 1 = sym none ∙ meeting_needs shape code plan m t served r o k s there met.0 met.1 in cc))
              (number_is (length code.stages) k now s e)

          by_idle : (s : Stage) → slice_get code.stages now ≡ Some s → (c : Bool) → is_idle s (slice_get plan.stages now) ≡ c →
              r.signal t.laid.rested.waits ≡ 0
          by_idle s listed true e = absurd (let clash : 0 ≡ 1 = sym none ∙ idle_needs_so shape code plan m t served r o s listed e in cc)
          by_idle s listed false e =
              (t.laid.walks.does t.laid.begins.bits (t.laid.begins.variables ∙ t.laid.slot.variables_count) t.laid.begins.kept now s listed).goes e m r
              (from_rest shape code plan m t served) o (knows shape code plan m t served r o) (still shape code plan m t served r o) refl

          by : (s : Option Stage) → slice_get code.stages now ≡ s → r.signal t.laid.rested.waits ≡ 0
          by (Some s) listed = by_idle s listed (is_idle s (slice_get plan.stages now)) refl
          by None listed =
              t.laid.walks.past m r (from_rest shape code plan m t served) o t.laid.begins.bits (knows shape code plan m t served r o)
              (still shape code plan m t served r o) (λ k s there. none_of k s there listed (numbers (length code.stages) k s now) refl)
              (λ end. absurd (let clash : 0 ≡ 1 = sym none ∙ end_needs shape code plan m t served r o end in cc))

      waits_false : waits ≡ false
      waits_false = bit_false waits (sym (waiting shape code plan m t served r o).1 ∙ waits_not)

      leaves : r.signal 1 ≡ 1 → r.signal t.edge.leave ≡ 1
      leaves on = left_is true on ∙ ap bit_of (left_quiet quiet_here true ∙ ap not waits_false)

      moves : r.signal 1 ≡ 1 → r.signal t.edge.moved ≡ 1
      moves on =
          moved_is true on
          ∙ ap (λ z. bit_of (z || any_below (got raised grants true) (length t.inside.early.opens))) (left_quiet quiet_here true ∙ ap not waits_false)

    -- ---- at the end

    module _ (main : shape.is_main ≡ true) (end : now ≡ length code.stages) where
      past_all : (k : ℕ) → k < length code.stages → now ≢ k
      past_all k less is = absurd (let same : length code.stages ≡ k = sym end ∙ is in omega arith)

      start_grows : Grows t.laid.early.asked.with_start m.signals
      start_grows = grows_then t.laid.early.asked.with_start t.laid.early.asked.with_whole m.signals t.laid.early.asked.asks.grows (from_whole shape code plan m t served)

      asks_still : AskSame r t.laid.early.asked.start (with_banks t.inside.early.requests t.laid.early.asked.whole)
      asks_still =
          t.laid.early.asked.asks.beyond m r (from_whole shape code plan m t served) o t.laid.early.asked.begins.bits (knows shape code plan m t served r o) past_all

      quiet_end : Quiet
      quiet_end n less =
          ⊎_elim
          (λ (h : n < banks).
          ap (λ z. nat_eq (r.signal z) 1) (asked_bank shape code plan m t served n h)
          ∙ ap (λ z. nat_eq z 1)
          (none_wanted shape code plan m t served r o
          (λ x within.
          ap (λ (a : Asked). a.wants)
          (asks_still.banks x (length shape.globals) (start_many shape code plan m t served) within
          ∙ t.laid.early.asked.begins.nothing m r x start_grows o (start_less shape code plan m t served x within)))
          n h))
          (λ (h : banks ≤ n).
          let kind = asked_kind shape code plan m t served n h less in
          ap (λ z. nat_eq (r.signal z) 1) kind.1
          ∙ ap (λ (z : Request). nat_eq (r.signal z.wants) 1) (sym (group_kept t.inside.early.requests t.laid.early.asked.whole kind.0))
          ∙ ap (λ z. nat_eq z 1) ((asks_still.requests kind.0).wants false (t.laid.early.asked.begins.silent kind.0 m r start_grows o)))
          (cases_lt n banks)

      waits_end : waits ≡ true
      waits_end =
          one_is waits
          (sym (waiting shape code plan m t served r o).1
          ∙ waits_last shape code plan m t served r o true false
          (t.laid.walks.stays main m r (from_rest shape code plan m t served) o t.laid.begins.bits (knows shape code plan m t served r o)
          (still shape code plan m t served r o) end) (not_lost quiet_end))

      stays_end : Agree m r (next_reading m r)
      stays_end =
          let e = enabled shape code plan m t served r o in
          let left : is_left raised grants e.0 waits (length t.inside.early.opens) ≡ false = left_quiet quiet_end e.0 ∙ ap (λ z. e.0 && not z) waits_end ∙ and-false e.0 in
          agrees_off shape code plan m t served r o (left_is e.0 e.1 ∙ ap bit_of left)
          (moved_is e.0 e.1
          ∙ ap (λ z. bit_of (z || any_below (got raised grants e.0) (length t.inside.early.opens))) left
          ∙ ap bit_of (none_got quiet_end e.0))

  -- ---- two readings of one slot

  module _ (r q : Reading) (one : Obeys m r) (two : Obeys m q) (agree : Agree m r q) where
    slot_alike : (x : ℕ) → behind ≤ x → x < length t.laid.with_slot → r.signal x ≡ q.signal x
    slot_alike x le less =
        let s = get_there t.laid.with_slot x less in
        let is = inner.registers x s.0 (let long = inputs_long shape code plan m t served in omega arith) s.1 in
        agree.registers x s.0 (listed t.laid.with_slot m.signals x s.0 (from_slot shape code plan m t served) s.1)
        (subst (λ (d : Source). IsRegister d) (sym is.drives) tt)

    base_first : length t.laid.with_inputs ≡ behind
    base_first = inputs_long shape code plan m t served

    early_alike : (x : ℕ) → behind ≤ x → x < length t.laid.with_early → r.signal x ≡ q.signal x
    early_alike x le less =
        wires_alike m r q one two agree (base_behind (length t.laid.with_inputs) code) t.laid.with_slot t.laid.with_early inner.early.wires
        (from_early shape code plan m t served) (λ y after below. slot_alike y (let f = base_first in omega arith) below) x (let f = base_first in omega arith) less

    need_alike : r.signal t.inside.early.need ≡ q.signal t.inside.early.need
    need_alike =
        early_alike t.inside.early.need (let after = inner.early.need.after in let f = base_first in omega arith)
        (within t.laid.with_early (base_behind (length t.laid.with_inputs) code) t.inside.early.need 1 inner.early.need)

    module _ (none : r.signal t.inside.early.need ≡ 0) where
      none_too : q.signal t.inside.early.need ≡ 0
      none_too = sym need_alike ∙ none

      heard_alike : (x : ℕ) → behind ≤ x → x < length t.laid.with_heard → r.signal x ≡ q.signal x
      heard_alike x le less =
          ⊎_elim (λ (h : x < length t.laid.with_early). early_alike x le h)
          (λ (h : length t.laid.with_early ≤ x).
          ⊎_elim
          (λ (bank : x < length t.laid.with_words_heard).
          t.laid.hears.silent m r x (from_words_heard shape code plan m t served) one h bank none
          ∙ sym (t.laid.hears.silent m q x (from_words_heard shape code plan m t served) two h bank none_too))
          (λ (past : length t.laid.with_words_heard ≤ x).
          t.laid.hears_news.silent m r x (from_heard shape code plan m t served) one past less none
          ∙ sym (t.laid.hears_news.silent m q x (from_heard shape code plan m t served) two past less none_too))
          (cases_lt x (length t.laid.with_words_heard)))
          (cases_lt x (length t.laid.with_early))

      inside_alike : (y w : ℕ) → IsEarlier t.with_inside (base_behind (length t.laid.with_inputs) code) y w → r.signal y ≡ q.signal y
      inside_alike =
          wire_alike m r q one two agree (base_behind (length t.laid.with_inputs) code) t.laid.with_heard t.with_inside inner.wires
          (from_inside shape code plan m t served) (λ x after below. heard_alike x (let f = base_first in omega arith) below)

      module _ (on : r.signal 1 ≡ 1) (on_too : q.signal 1 ≡ 1) where
        leave_alike : r.signal t.edge.leave ≡ q.signal t.edge.leave
        leave_alike = leaves r one none on ∙ sym (leaves q two none_too on_too)

        moved_alike : r.signal t.edge.moved ≡ q.signal t.edge.moved
        moved_alike = moves r one none on ∙ sym (moves q two none_too on_too)

        state_alike : r.signal t.edge.state ≡ q.signal t.edge.state
        state_alike =
            let last = inside_alike t.inside.chains.is_last 1 inner.linked.is_last in
            let bit = wide_bit m r t.inside.chains.is_last one ((chains_bits shape code plan m t served).is_last m (from_inside shape code plan m t served)) in
            let state = inside_alike t.inside.slot.state.register t.inside.slot.state.width inner.linked.slots.state in
            t.closed.controls.follows.shows m r bit.0 (from_control shape code plan m t served) one (state_wide shape code plan m t served r one) bit.1
            ∙ ap (λ z. if bit.0 then 0 else (z + 1) % 2 ^ t.inside.slot.state.width) state
            ∙ sym
            (t.closed.controls.follows.shows m q bit.0 (from_control shape code plan m t served) two (state_wide shape code plan m t served q two)
            (sym last ∙ bit.1))

        beat_alike : r.signal t.edge.beat ≡ q.signal t.edge.beat
        beat_alike =
            let place = inside_alike t.inside.slot.beat 1 inner.linked.slots.beat in
            let wide : width m t.inside.slot.beat ≡ 1 =
            ap (width m) (beat_at shape code plan m t served) ∙ stands_wide m (behind + 2) 1 (Register 0) (beat_stands shape code plan m t served) in
            let bit = wide_bit m r t.inside.slot.beat one wide in
            (t.closed.controls.beat m r bit.0 (from_control shape code plan m t served) one (record { wide = wide; shows = bit.1 })).shows
            ∙ sym (t.closed.controls.beat m q bit.0 (from_control shape code plan m t served) two (record { wide = wide; shows = sym place ∙ bit.1 })).shows

        marks_alike : (i y : ℕ) (h : Held) → slice_get t.edge.granted (0 + i) ≡ Some y → slice_get t.inside.granted i ≡ Some h → r.signal y ≡ q.signal y
        marks_alike i y h there held =
            let plain : 0 + i ≡ i = omega arith in
            let at : slice_index t.edge.granted i ≡ y = get_or_from_slice_get t.edge.granted i y 0 (ap (slice_get t.edge.granted) (sym plain) ∙ there) in
            let less : i < length shape.globals = subst (λ z. i < z) t.laid.granted.count (slice_get_within t.inside.granted i h held) in
            ap r.signal (sym at)
            ∙ marks_left shape code plan m t served r one true i on (leaves r one none on) less
            ∙ sym (marks_left shape code plan m t served q two true i on_too (leaves q two none_too on_too) less)
            ∙ ap q.signal at

        acts_alike : EachOf (ActsAlike r q) m.actions
        acts_alike =
            subst (λ (z : List Action). EachOf (ActsAlike r q) z) (sym t.actions)
            (each_append (ActsAlike r q) (((firsts ++ sets_from t.edge.leave t.inside.chains.variables 0 t.inside.slot.variables)
            ++ sets_from t.edge.leave t.inside.chains.kept 0 t.inside.slot.kept) ++ sets_from t.edge.moved t.edge.granted 0 t.inside.granted)
            (map (store_action t.edge.leave) t.inside.stores)
            (each_append (ActsAlike r q) ((firsts ++ sets_from t.edge.leave t.inside.chains.variables 0 t.inside.slot.variables)
            ++ sets_from t.edge.leave t.inside.chains.kept 0 t.inside.slot.kept) (sets_from t.edge.moved t.edge.granted 0 t.inside.granted)
            (each_append (ActsAlike r q) (firsts ++ sets_from t.edge.leave t.inside.chains.variables 0 t.inside.slot.variables)
            (sets_from t.edge.leave t.inside.chains.kept 0 t.inside.slot.kept)
            (each_append (ActsAlike r q) firsts (sets_from t.edge.leave t.inside.chains.variables 0 t.inside.slot.variables) firsts_alike
            (sets_alike r q t.edge.leave t.inside.chains.variables 0 t.inside.slot.variables leave_alike
            (λ i y h p e. inside_alike y h.width (inner.linked.variables i y h (let same : 0 + i ≡ i = omega arith in ap (slice_get t.inside.chains.variables) (sym same) ∙ p) e))))
            (sets_alike r q t.edge.leave t.inside.chains.kept 0 t.inside.slot.kept leave_alike
            (λ i y h p e. inside_alike y h.width (inner.linked.kept i y h (let same : 0 + i ≡ i = omega arith in ap (slice_get t.inside.chains.kept) (sym same) ∙ p) e))))
            (sets_alike r q t.edge.moved t.edge.granted 0 t.inside.granted moved_alike marks_alike))
            (stores_alike r q t.edge.leave t.inside.stores leave_alike
            (λ k s e.
            let own = inner.stores k s e in
            (inside_alike s.condition 1 own.condition, inside_alike s.address own.wide own.address, inside_alike s.source own.memory.width own.source))))
          where
            firsts_alike : EachOf (ActsAlike r q) firsts
            firsts_alike = (
              set_acts r q t.edge.leave t.inside.slot.stage.register t.inside.chains.stage leave_alike
                  (inside_alike t.inside.chains.stage t.inside.slot.stage.width inner.linked.stage),
              (
                set_acts r q t.edge.leave t.inside.slot.state.register t.edge.state leave_alike state_alike,
                (set_acts r q t.edge.moved t.inside.slot.beat t.edge.beat moved_alike beat_alike, tt),
              ),
            )

        all_alike : Agree m (next_reading m r) (next_reading m q)
        all_alike = next_alike r q m agree acts_alike

  -- ---- THE MODULE KEEPS TO ITSELF

  keeps : KeepsToItself (leaf_thread m (leaf_of shape m)) (leaf_places m (leaf_of shape m)) (cores_of shape) m
  keeps = record {
    shown = λ r. (r, agree_refl m r);
    rests = λ r o off. rests_so shape code plan m t served r o off;
    quiet = λ r o off k less uses. ask_shown r k o less ∙ asks_bit r o false off k less ∙ ap bit_of (and-false (raised_now shape code plan m t served r o k));
    closed_quiet = λ r o none k less uses.
        let e = enabled shape code plan m t served r o in
        ask_shown r k o less ∙ asks_bit r o e.0 e.1 k less
        ∙ ap (λ z. bit_of (z && e.0)) (raised_none r o (quiet_here r o (sym (need_copied r o) ∙ none)) k less);
    closed_moves = λ r o none on. moves_on r o (moves r o (sym (need_copied r o) ∙ none) on);
    closed_alike = λ r q o o' agree none on on'. all_alike r q o o' agree (sym (need_copied r o) ∙ none) on on';
    granted_moves = λ r k o on less uses asks granted.
        let asked : raised_now shape code plan m t served r o k ≡ true =
        (and_parts (raised_now shape code plan m t served r o k) true
        (some_bit (raised_now shape code plan m t served r o k && true) (λ z. asks (ask_shown r k o less ∙ asks_bit r o true on k less ∙ z)))).0 in
        let hears : grants_now shape code plan m t served r o k ≡ true = ap (λ z. nat_eq z 1) granted in
        let hit : any_below (got (raised_now shape code plan m t served r o) (grants_now shape code plan m t served r o) true)
        (length t.inside.early.opens) ≡ true =
        some_tells (got (raised_now shape code plan m t served r o) (grants_now shape code plan m t served r o) true) (length t.inside.early.opens) k
        (subst (λ n. k < n) (sym (opens_count shape code plan m t served)) less)
        (ap (λ z. (z && true) && grants_now shape code plan m t served r o k) asked ∙ hears) in
        moves_on r o
        (moved_is r o true on
        ∙ ap
        (λ z. bit_of
        (is_left (raised_now shape code plan m t served r o) (grants_now shape code plan m t served r o) true
        (waiting shape code plan m t served r o).0 (length t.inside.early.opens) || z)) hit
        ∙ ap bit_of (or-true _));
  }

  ended : shape.is_main ≡ true → (r : Reading) → Obeys m r → r.signal (done_at shape m) ≡ 1 → Agree m r (next_reading m r)
  ended main r o done =
      stays_end r o main
      (eqb-true (r.signal t.inside.slot.stage.register) (length code.stages)
      (one_is (nat_eq (r.signal t.inside.slot.stage.register) (length code.stages))
      (sym
      (t.laid.early.asked.asks.done_is m r (from_whole shape code plan m t served) o (knows shape code plan m t served r o))
      ∙ sym (done_copied r o) ∙ done)))

  steady_thread : IsSteadyThread (cores_of shape) m (leaf_of shape m)
  steady_thread =
      let put = t.closed.outputs.need_put in
      let at = before_need shape code plan m t served in
      record {
        keeps = keeps;
        need = put.signal;
        is = record { listed = ap (slice_get m.signals) (sym at) ∙ put.listed; named = put.named };
        out = put.flag;
      }

  -- ---- AND NEEDS NO MORE

  little : NeedsNoMore shape code plan m
  little = record {
    closed = λ r q b p o inside closed. need_copied r o ∙ closed_needs shape code plan m t served r o q b p inside closed (quiet_closed r q b p o inside closed);
    returns = λ main r q next o shows listed.
        let here = stage_shown shape code plan m t served r o q shows in
        need_copied r o
        ∙ return_needs shape code plan m t served r o next (ap (slice_get code.stages) here ∙ listed)
        (quiet_of r o
        (λ n less. (bank_bit shape code plan m t served r q o shows (ap is_run listed) n less).shows)
        (λ k. service_shown shape code plan m t served r q o shows k ∙ ap bit_of (not_asked q next main k listed)));
  }
    where
      not_asked : (q : Slot) (next : ℕ) → shape.is_main ≡ true → (k : Service) → slice_get code.stages q.stage ≡ Some (stage.Act Return next) →
          is_asked shape.is_main (slice_get code.stages q.stage) k ≡ false
      not_asked q next main k listed =
          ap (λ s. is_asked shape.is_main s k) listed ∙ ap (λ b. is_asked b (Some (stage.Act Return next)) k) main

      quiet_of : (r : Reading) (o : Obeys m r) → ((n : ℕ) → n < banks → r.signal (slice_index t.inside.early.requests.banks.wants n) ≡ 0) →
          ((k : Service) → r.signal (group t.inside.early.requests k).wants ≡ 0)
          → Quiet r o
      quiet_of r o bank_is kind_is n less =
          ⊎_elim
          (λ (h : n < banks). ap (λ z. nat_eq (r.signal z) 1) (asked_bank shape code plan m t served n h) ∙ ap (λ z. nat_eq z 1) (bank_is n h))
          (λ (h : banks ≤ n).
          let kind = asked_kind shape code plan m t served n h less in
          ap (λ z. nat_eq (r.signal z) 1) kind.1 ∙ ap (λ z. nat_eq z 1) (kind_is kind.0))
          (cases_lt n banks)

      quiet_closed : (r : Reading) (q : Slot) (b : Block) (p : BlockPlan) (o : Obeys m r)
          (inside : IsInside shape.globals shape.spreads code plan (places_of (inputs_of shape) code plan) r q b p) →
          IsClosed (planned_view b) (plan_view b p) q → Quiet r o
      quiet_closed r q b p o inside closed =
          quiet_of r o
          (λ n less.
          (wanted_bit shape code plan m t served r q b p o inside n less).shows
          ∙ ap bit_of (unwanted n less (wanted shape code plan m t served r q b p o inside n) refl))
          (λ k. (printing shape code plan m t served r q b p o inside k).shows)
        where
          unwanted : (n : ℕ) → n < banks → (c : Bool) → wanted shape code plan m t served r q b p o inside n ≡ c →
              wanted shape code plan m t served r q b p o inside n ≡ false
          unwanted n less false e = e
          unwanted n less true e =
              absurd
              (let k = asker shape code plan m t served r q b p o inside (indices shape code plan m t served r q b p o inside)
              (targets shape code plan m t served r q b p o inside) n less e in
              let clash : true ≡ false = sym k.2 ∙ closed.asks_none k.0 k.1 in
              cc)

  -- ---- ITS BEAT

  beat_there : IsBeat m (behind + 2)
  beat_there =
      let s = beat_stands shape code plan m t served in
      let z = t.laid.slot.beat_named in
      let place = length t.laid.with_inputs + 2 in
      let there : slice_get m.signals (behind + 2) ≡ Some z.signal =
      ap (λ (n : ℕ). slice_get m.signals (n + 2)) (sym (inputs_long shape code plan m t served))
      ∙ listed t.laid.with_registers m.signals place z.signal (from_registers shape code plan m t served) z.listed in
      let same : z.signal ≡ s.signal = same_Some z.signal s.signal (sym there ∙ s.listed) in
      record {
        signal = s.signal;
        is = record { listed = s.listed; named = ap (λ (x : Signal). x.name) (sym same) ∙ z.named };
        register = subst (λ (d : Source). IsRegister d) (sym s.drives) tt;
        one_bit = s.wide;
      }

  pub steady_is : IsSteadyServed shape code plan m
  steady_is = record { steady = steady_thread; ended = ended; little = little; beat = beat_left; stands = beat_there }
