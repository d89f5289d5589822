-- What a reading of a thread's module shows of the slot, and when it leaves the state.
use Rattle.std.proofs.Common.{◌≡◌, ◌≢◌, ℕ, ◌+◌, ◌%◌, ◌<◌, ◌≤◌, ◌^◌, nat_eq, Bool, not, ◌||◌, if◌then◌else◌, List, [], length, map, slice_get, slice_index, Some, ℤ, pos}
use Rattle.std.proofs.Common.{refl, sym, ap, subst, ◌∙◌, arith}
use Rattle.std.proofs.lemmas.Option.{slice_get_within, slice_get-get_or}
use Rattle.hls_ints.specs.Residues.{residue_of, bit_of}
use Rattle.hls_ints.specs.Types.{IntegerType, HasType, width_of}
use Rattle.bank_partition.specs.declared.banks.Spread.{Spread}
use Rattle.thread_promise.specs.Globals.{IsSmallPower, bank_total, bank_of, IsAccess}
use Rattle.block_ir.specs.Run.{global_read}
use Rattle.planned_block.specs.Block.{element}
use Rattle.block_ir.specs.declared.block.Operation.{Operation}
use Rattle.block_ir.specs.declared.block.Block.{Block}
use Rattle.block_ir.specs.declared.code.Array.{Array}
use Rattle.block_ir.specs.declared.code.Stage.{Stage}
use Rattle.block_ir.specs.declared.code.Stage.TheVariants as stage
use Rattle.block_ir.specs.declared.code.ThreadCode.{ThreadCode}
use Rattle.block_ir.specs.declared.plan.BlockPlan.{BlockPlan}
use Rattle.block_ir.specs.declared.plan.Planned.{Planned}
use Rattle.plan_blocks.specs.View.{plan_view}
use Rattle.planned_block.specs.Slot.{Slot}
use Rattle.netlist.specs.declared.netlist.Action.{Action}
use Rattle.netlist.specs.declared.netlist.Source.TheVariants.{Input, Register}
use Rattle.netlist.specs.declared.netlist.Module.{Module}
use Rattle.verilog_meaning.specs.Readings.{Reading, width, register_after, word_after, next_reading}
use Rattle.circuit.specs.Modules.{Obeys}
use Rattle.thread_promise.specs.Types.{value_type}
use Rattle.thread_promise.specs.Slots.{ShowsData, ShowsInBlock}
use Rattle.thread_promise.specs.Promise.{RunsAt}
use Rattle.thread_promise.specs.Serving.{HearsBanks}
use Rattle.block_datapath.specs.declared.registers.Held.{Held}
use Rattle.block_datapath.specs.Operations.{SeesSlot, IsRight, HasTold}
use Rattle.block_datapath.specs.Accesses.{IsAskRight}
use Rattle.block_datapath.proofs.BankOfElement.{bank_read}
use Rattle.block_datapath.proofs.OneAskedBank.{some_banks}
use Rattle.block_datapath.specs.Chains.{next_number}
use Rattle.block_datapath.specs.Leave.{IsInStage}
use Rattle.block_datapath.specs.Units.{HasUnits}
use Rattle.thread_slots.specs.declared.shape.Shape.{Shape}
use Rattle.thread_slots.specs.declared.chains.Chains.{Chains}
use Rattle.thread_slots.specs.Links.{AreBits, IsStill, ShowSame}
use Rattle.thread_states.proofs.StateLinks.{wait_off}
use Rattle.thread_asks.specs.Fields.{SeesVariables}
use Rattle.thread_slots.specs.Slots.{KnowsStage}
use Rattle.thread_states.specs.Stages.{HasWidths, DoesStage}
use Rattle.netlist.specs.declared.netlist.Memory.{Memory}
use Rattle.thread_slots.specs.Cells.{store_action}
use Rattle.thread_layout.specs.Memories.{memory_for}
use Rattle.thread_states.specs.Cells.{StoresFirst}
use Rattle.thread_layout.proofs.ModuleMemories.{memory_listed}
use Rattle.std.proofs.lemmas.List.{length-replicate, length-map}
use Rattle.thread_asks.specs.Asking.{AsksAt}
use Rattle.thread_requests.specs.Early.{with_banks}
use Rattle.thread_slots.specs.Bits.{HasBit, HaveBits}
use Rattle.thread_states.specs.Control.{Steers}
use Rattle.thread_layout.specs.Leaf.{served_ports}
use Rattle.thread_layout.specs.Modules.{caller_of, IsModule}
use Rattle.thread_states.specs.Actions.{actions_of}
use Rattle.thread_layout.specs.Thread.{cores_of, inputs_of, places_of, IsServed}
use Rattle.thread_layout.proofs.News.{word_told}
use Rattle.thread_layout.proofs.Edges.{edge_stores, edge_stays, edge_keeps, edge_words, stage_next, state_next, beat_next, variable_next, kept_next, granted_next}
use Rattle.thread_layout.proofs.Placed.{no_argument, first_stage, from_rest, stands_wide, stands_fits, wide_bit}
use Rattle.thread_layout.proofs.Placed.{from_control, from_inside, from_start, from_words_heard, enable_at, enable_stands, grant_at}
use Rattle.thread_layout.proofs.Placed.{grant_stands, stage_at, stage_stands, state_at, state_stands, beat_at, beat_stands, variable_held, kept_held, kept_within, variables_at}
use Rattle.thread_layout.proofs.Placed.{kept_at, granted_at, mark_held, word_held, opens_count}
use Rattle.operator_words.proofs.Typed.{residue_of-zero, has_zero}

module _ (shape : Shape) (code : ThreadCode) (plan : Planned) (m : Module) (t : IsModule shape code plan m) (served : IsServed shape code plan) where
  -- the links of all stages and of the rest
  pub rested_bits : AreBits t.laid.with_rest t.laid.rested
  rested_bits = t.laid.walks.bits t.laid.begins.bits

  -- and the last one
  pub chains_bits : AreBits t.with_inside t.inside.chains
  chains_bits = (wait_off t.laid.with_rest t.with_inside t.laid.rested t.inside.chains t.inside.early.lost t.laid.waits).bits rested_bits

  abbrev behind : ℕ
  behind = inputs_of shape

  pub does : (l : ℕ) (s : Stage) → slice_get code.stages l ≡ Some s
      → DoesStage shape.globals code t.inside.slot t.laid.acts l s (slice_get plan.stages l) t.laid.with_rest t.laid.start t.laid.rested
  does = t.laid.walks.does t.laid.begins.bits (t.laid.begins.variables ∙ t.laid.slot.variables_count) t.laid.begins.kept

  -- what stage l asks
  pub asks_so : (l : ℕ) (s : Stage) → slice_get code.stages l ≡ Some s
      → AsksAt shape.globals t.laid.early.asked.one_each code t.inside.slot (caller_of shape) l s (slice_get plan.stages l) t.laid.early.asked.with_whole
      t.laid.early.asked.start (with_banks t.inside.early.requests t.laid.early.asked.whole)
  asks_so l s listed = t.laid.early.asked.asks.does t.laid.early.asked.begins.bits l s listed

  pub variables_count : length t.inside.chains.variables ≡ length t.inside.slot.variables
  variables_count = ap (λ (c : Chains). length c.variables) t.laid.waits.same ∙ t.laid.walks.many.variables ∙ t.laid.begins.variables

  pub kept_count : length t.inside.chains.kept ≡ length t.inside.slot.kept
  kept_count = ap (λ (c : Chains). length c.kept) t.laid.waits.same ∙ t.laid.walks.many.kept ∙ t.laid.begins.kept

  -- ---- memories

  pub memory_of : (a : ℕ) (array : Array) → slice_get code.arrays a ≡ Some array → slice_get m.memories a ≡ Some (memory_for (0 + a) array)
  memory_of a array listed = ap (λ (l : List Memory). slice_get l a) t.memories ∙ memory_listed 0 a code.arrays array listed

  -- what the stages store
  pub stored : StoresFirst shape.globals code t.inside.slot plan t.laid.with_start t.with_inside [] t.inside.stores (length code.stages)
  stored = t.laid.stores

  pub all_stored : t.inside.stores ≡ stored.added
  all_stored = stored.more

  module _ (r : Reading) (o : Obeys m r) where
    pub still : IsStill r t.inside.slot t.laid.start
    still = t.laid.begins.still m r (from_start shape code plan m t served) o

    -- where no core is asked that is not there the last link shows what those before it do
    pub shown_last : r.signal t.inside.early.lost ≡ 0 → ShowSame r t.laid.rested t.inside.chains
    shown_last none =
        (wait_off t.laid.with_rest t.with_inside t.laid.rested t.inside.chains t.inside.early.lost t.laid.waits).off m r (from_inside shape code plan m t served) o rested_bits none

    pub waits_last : (v u : Bool) → r.signal t.laid.rested.waits ≡ bit_of v → r.signal t.inside.early.lost ≡ bit_of u → r.signal t.inside.chains.waits ≡ bit_of (v || u)
    waits_last v u e f =
        t.laid.waits.bit.shows m r v u (from_inside shape code plan m t served) o (rested_bits.waits m (from_rest shape code plan m t served)) e f

    pub knows : KnowsStage code t.inside.slot m r
    knows = record {
      wide = ap (width m) (stage_at shape code plan m t served) ∙ stands_wide m behind t.inside.slot.stage.width (Register (first_stage shape code plan m t served))
          (stage_stands shape code plan m t served);
      room = t.laid.slot.stage_room;
      fits =
          subst (λ (x : ℕ). r.signal x < 2 ^ t.inside.slot.stage.width) (sym (stage_at shape code plan m t served))
          (stands_fits m r behind t.inside.slot.stage.width (Register (first_stage shape code plan m t served)) o (stage_stands shape code plan m t served));
    }

    pub stage_shown : (q : Slot) → ShowsData shape.globals code (places_of (inputs_of shape) code plan) r q → r.signal t.inside.slot.stage.register ≡ q.stage
    stage_shown q shows = ap r.signal (stage_at shape code plan m t served) ∙ shows.stage

    pub state_wide : width m t.inside.slot.state.register ≡ t.inside.slot.state.width
    state_wide = ap (width m) (state_at shape code plan m t served) ∙ stands_wide m (behind + 1) t.inside.slot.state.width (Register 0)
        (state_stands shape code plan m t served)

    pub sees_variables : (q : Slot) → ShowsData shape.globals code (places_of (inputs_of shape) code plan) r q → SeesVariables code t.inside.slot m r q.variables
    sees_variables q shows x ty declared =
        let v = variable_held shape code plan m t served x ty declared in
        record {
          declared = declared;
          held = v.held;
          listed = v.listed;
          wide = ap (width m) v.at ∙ stands_wide m (behind + 3 + x) (width_of ty) (Register 0) v.stands;
          shows = ap r.signal v.at ∙ shows.variables x ty declared;
          typed = shows.typed x ty declared;
        }

    -- ---- bits

    pub enabled : (b : Bool) × (r.signal 1 ≡ bit_of b)
    enabled = wide_bit m r 1 o (stands_wide m 1 1 Input (enable_stands shape code plan m t served))

    pub heard : (k : ℕ) → k < cores_of shape → (b : Bool) × (r.signal (2 + k) ≡ bit_of b)
    heard k less = wide_bit m r (2 + k) o (stands_wide m (2 + k) 1 Input (grant_stands shape code plan m t served k less))

    waits_wide : width m t.inside.chains.waits ≡ 1
    waits_wide = chains_bits.waits m (from_inside shape code plan m t served)

    pub waiting : (b : Bool) × (r.signal t.inside.chains.waits ≡ bit_of b)
    waiting = wide_bit m r t.inside.chains.waits o waits_wide

    enable_wide : width m t.inside.inputs.enable ≡ 1
    enable_wide = ap (width m) (enable_at shape code plan m t served) ∙ stands_wide m 1 1 Input (enable_stands shape code plan m t served)

    pub enable_bit : (e : Bool) → r.signal 1 ≡ bit_of e → HasBit m r t.inside.inputs.enable e
    enable_bit e on = record { wide = enable_wide; shows = ap r.signal (enable_at shape code plan m t served) ∙ on }

    -- what control reads
    pub steered : (raised grants : ℕ → Bool) (waits enabled : Bool) → HaveBits m r t.inside.early.opens (length t.inside.early.opens) raised
        → ((k : ℕ) → k < cores_of shape → r.signal (2 + k) ≡ bit_of (grants k)) → r.signal t.inside.chains.waits ≡ bit_of waits → r.signal 1 ≡ bit_of enabled
        → Steers m r t.inside.inputs t.inside.chains t.inside.early.opens raised grants waits enabled
    steered raised grants waits enabled opened granted waiting on = record {
      has_opens = opened;
      has_grants = λ k less.
          let inside : k < cores_of shape = subst (λ n. k < n) (opens_count shape code plan m t served) less in
          let at = grant_at shape code plan m t served k inside in
          record {
            wide = ap (width m) at ∙ stands_wide m (2 + k) 1 Input (grant_stands shape code plan m t served k inside);
            shows = ap r.signal at ∙ granted k inside;
          };
      has_waits = record { wide = waits_wide; shows = waiting };
      has_enable = enable_bit enabled on;
    }

    -- ---- an edge

    edge_is : (k old : ℕ) → register_after r m.actions k old ≡ register_after r (actions_of t.inside.slot t.inside.chains t.inside.granted t.inside.stores t.edge) k old
    edge_is k old = ap (λ (l : List Action). register_after r l k old) t.actions

    pub stays : (k : ℕ) → r.signal t.edge.leave ≡ 0 → r.signal t.edge.moved ≡ 0 → (next_reading m r).signal k ≡ r.signal k
    stays k off still = edge_is k (r.signal k) ∙ edge_stays r t.inside.slot t.inside.chains t.inside.granted t.inside.stores t.edge k (r.signal k) off still

    -- all but the beat and what has been granted
    pub stays_but : (k : ℕ) → r.signal t.edge.leave ≡ 0 → t.inside.slot.beat ≢ k → ((i : ℕ) (h : Held) → slice_get t.inside.granted i ≡ Some h → h.register ≢ k)
        → (next_reading m r).signal k ≡ r.signal k
    stays_but k off beat marks = edge_is k (r.signal k) ∙ edge_keeps r t.inside.slot t.inside.chains t.inside.granted t.inside.stores t.edge k (r.signal k) off beat marks

    pub next_beat : (b : Bool) → r.signal t.edge.moved ≡ 1 → r.signal (behind + 2) ≡ bit_of b → (next_reading m r).signal (behind + 2) ≡ bit_of (not b)
    next_beat b moved is =
        edge_is (behind + 2) (r.signal (behind + 2))
        ∙ beat_next r t.inside.slot t.inside.chains t.inside.granted t.inside.stores t.edge behind (stage_at shape code plan m t served)
        (state_at shape code plan m t served)
        (beat_at shape code plan m t served) (variables_at shape code plan m t served) (kept_at shape code plan m t served)
        (granted_at shape code plan m t served) (r.signal (behind + 2)) moved
        ∙ (t.closed.controls.beat m r b (from_control shape code plan m t served) o
        (record {
          wide = ap (width m) (beat_at shape code plan m t served) ∙ stands_wide m (behind + 2) 1 (Register 0) (beat_stands shape code plan m t served);
          shows = ap r.signal (beat_at shape code plan m t served) ∙ is;
        })).shows

    -- the bit of global x
    pub next_mark : (x : ℕ) → r.signal t.edge.moved ≡ 1 → x < length shape.globals
        → (next_reading m r).signal (behind + 3 + length code.variables + plan.registers + x) ≡ r.signal (slice_index t.edge.granted x)
    next_mark x moved less =
        let v = mark_held shape code plan m t served x less in
        let marks : length t.edge.granted ≡ length shape.globals =
        t.closed.controls.granted_count ∙ length-map t.inside.granted (λ (h : Held). h.register) ∙ t.laid.granted.count in
        let there = slice_get-get_or t.edge.granted x 0 (subst (λ n. x < n) (sym marks) less) in
        let kept : length t.inside.slot.kept ≡ plan.registers = t.laid.slot.kept_count ∙ t.laid.kept.count in
        let at : behind + 3 + length code.variables + plan.registers + x ≡ behind + 3 + length t.inside.slot.variables + length t.inside.slot.kept + x =
        ap (λ (n : ℕ). behind + 3 + n + plan.registers + x) (sym t.laid.slot.variables_count)
        ∙ ap (λ (n : ℕ). behind + 3 + length t.inside.slot.variables + n + x) (sym kept) in
        ap (λ (k : ℕ). register_after r m.actions k (r.signal k)) at
        ∙ edge_is (behind + 3 + length t.inside.slot.variables + length t.inside.slot.kept + x)
        (r.signal (behind + 3 + length t.inside.slot.variables + length t.inside.slot.kept + x))
        ∙ granted_next r t.inside.slot t.inside.chains t.inside.granted t.inside.stores t.edge behind (stage_at shape code plan m t served)
        (state_at shape code plan m t served) (beat_at shape code plan m t served) (variables_at shape code plan m t served)
        (kept_at shape code plan m t served)
        (granted_at shape code plan m t served) x _ _ v.held moved v.listed there

    pub next_words : (j k : ℕ) → (next_reading m r).word j k ≡ word_after r (map (store_action t.edge.leave) t.inside.stores) j k (r.word j k)
    next_words j k =
        ap (λ (l : List Action). word_after r l j k (r.word j k)) t.actions ∙ edge_stores r t.inside.slot t.inside.chains t.inside.granted t.inside.stores t.edge j k (r.word j k)

    pub words_stay : (j k : ℕ) → r.signal t.edge.leave ≡ 0 → (next_reading m r).word j k ≡ r.word j k
    words_stay j k off =
        ap (λ (l : List Action). word_after r l j k (r.word j k)) t.actions ∙ edge_words r t.inside.slot t.inside.chains t.inside.granted t.inside.stores t.edge j k
        (r.word j k) off

    module _ (on : r.signal t.edge.leave ≡ 1) where
      pub next_stage : (next_reading m r).signal behind ≡ r.signal t.inside.chains.stage
      next_stage =
          edge_is behind (r.signal behind)
          ∙ stage_next r t.inside.slot t.inside.chains t.inside.granted t.inside.stores t.edge behind (stage_at shape code plan m t served)
          (state_at shape code plan m t served)
          (beat_at shape code plan m t served) (variables_at shape code plan m t served) (kept_at shape code plan m t served)
          (granted_at shape code plan m t served) on (r.signal behind)

      pub next_state : (last : Bool) → r.signal t.inside.chains.is_last ≡ bit_of last
          → (next_reading m r).signal (behind + 1) ≡ (if last then 0 else (r.signal (behind + 1) + 1) % 2 ^ t.inside.slot.state.width)
      next_state last is =
          edge_is (behind + 1) (r.signal (behind + 1))
          ∙ state_next r t.inside.slot t.inside.chains t.inside.granted t.inside.stores t.edge behind (stage_at shape code plan m t served)
          (state_at shape code plan m t served)
          (beat_at shape code plan m t served) (variables_at shape code plan m t served) (kept_at shape code plan m t served)
          (granted_at shape code plan m t served) on (r.signal (behind + 1))
          ∙ t.closed.controls.follows.shows m r last (from_control shape code plan m t served) o state_wide is
          ∙ ap (λ (x : ℕ). if last then 0 else (r.signal x + 1) % 2 ^ t.inside.slot.state.width) (state_at shape code plan m t served)

      pub next_variable : (x : ℕ) (ty : IntegerType) → slice_get code.variables x ≡ Some ty → (next_reading m r).signal (behind + 3 + x) ≡ next_number r t.inside.chains.variables x
      next_variable x ty declared =
          let v = variable_held shape code plan m t served x ty declared in
          let less : x < length t.inside.chains.variables = subst (λ (n : ℕ). x < n) (sym variables_count) (slice_get_within t.inside.slot.variables x v.held v.listed) in
          edge_is (behind + 3 + x) (r.signal (behind + 3 + x))
          ∙ variable_next r t.inside.slot t.inside.chains t.inside.granted t.inside.stores t.edge behind (stage_at shape code plan m t served)
          (state_at shape code plan m t served)
          (beat_at shape code plan m t served) (variables_at shape code plan m t served) (kept_at shape code plan m t served)
          (granted_at shape code plan m t served) on x _ (r.signal (behind + 3 + x)) v.held v.listed
          (slice_get-get_or t.inside.chains.variables x 0 less)

      pub next_kept : (x : ℕ) → x < plan.registers → (next_reading m r).signal (behind + 3 + length code.variables + x) ≡ next_number r t.inside.chains.kept x
      next_kept x within =
          let v = kept_held shape code plan m t served x (kept_within shape code plan m t served x within) in
          let less : x < length t.inside.chains.kept = subst (λ (n : ℕ). x < n) (sym kept_count) (slice_get_within t.inside.slot.kept x v.held v.listed) in
          let at : behind + 3 + length code.variables + x ≡ behind + 3 + length t.inside.slot.variables + x = ap (λ (n : ℕ). behind + 3 + n + x)
          (sym t.laid.slot.variables_count) in
          ap (λ (k : ℕ). register_after r m.actions k (r.signal k)) at
          ∙ edge_is (behind + 3 + length t.inside.slot.variables + x) (r.signal (behind + 3 + length t.inside.slot.variables + x))
          ∙ kept_next r t.inside.slot t.inside.chains t.inside.granted t.inside.stores t.edge behind (stage_at shape code plan m t served)
          (state_at shape code plan m t served)
          (beat_at shape code plan m t served) (variables_at shape code plan m t served) (kept_at shape code plan m t served)
          (granted_at shape code plan m t served) on x _ _ v.held v.listed
          (slice_get-get_or t.inside.chains.kept x 0 less)

    -- ---- within a block

    module _ (q : Slot) (b : Block) (p : BlockPlan) (runs : RunsAt shape.globals shape.spreads code plan q.stage b p) (below : q.state < p.states)
        (shows : ShowsInBlock shape.globals code (places_of (inputs_of shape) code plan) b p r q) where
      pub is_right : IsRight shape.globals code t.inside.slot b p
      is_right = record {
        typed = runs.typed;
        accesses = λ k op listed. subst (λ (z : List Spread). IsAccess z op) (sym t.laid.slot.spreads_are) (runs.accesses k op listed);
        keeps = runs.keeps;
        small = t.laid.slot.states_fit q.stage p runs.planned_so;
      }

      -- a register that keeps the value of an operation
      pub kept_of : (k x : ℕ) (op : Operation) → slice_get b.operations k ≡ Some op → (plan_view b p).register k ≡ Some x
          → (h : Held) × (slice_get t.inside.slot.kept x ≡ Some h) × (width_of (value_type shape.globals code op) ≤ h.width) × (x < plan.registers) ×
          (h.register ≡ behind + 3 + length code.variables + x)
          × (width m h.register ≡ h.width) × (r.signal h.register < 2 ^ h.width)
      kept_of k x op listed register =
          let within = served.registers q.stage k x b p op runs.listed runs.planned_so listed register in
          let v = kept_held shape code plan m t served x (kept_within shape code plan m t served x within) in
          let inside = slice_get_within code.stages q.stage (stage.Run b) runs.listed in
          let room = t.laid.kept.room q.stage b p k x op inside runs.listed runs.planned_so listed register (kept_within shape code plan m t served x within) in
          let same : room.0 ≡ v.held.width = (let e = room.1 in let f = v.planned in cc) in (
            v.held,
            v.listed,
            subst (λ (n : ℕ). width_of (value_type shape.globals code op) ≤ n) same room.2,
            within,
            v.at,
            ap (width m) v.at ∙ stands_wide m (behind + 3 + length code.variables + x) v.held.width (Register 0) v.stands,
            subst (λ (n : ℕ). r.signal n < 2 ^ v.held.width) (sym v.at) (stands_fits m r (behind + 3 + length code.variables + x) v.held.width (Register 0) o v.stands),
          )

      pub has_widths : HasWidths shape.globals code t.inside.slot b p
      has_widths k x op listed register = let v = kept_of k x op listed register in (v.0, v.1, v.2)

      pub sees_slot : SeesSlot shape.globals code t.inside.slot b p m r q
      sees_slot = record {
        variables = sees_variables q shows.shown;
        arrays = record {
          declared = λ a array listed. (memory_for (0 + a) array, memory_of a array listed, length-replicate array.length 0);
          words = shows.shown.words;
          typed = shows.shown.typed_words;
          outside = shows.shown.outside;
          few = λ a array listed. (served.arrays a array listed).1;
        };
        alive = λ k n alive.
            let v = kept_of k n alive.operation alive.listed alive.register in
            record {
              held = v.0;
              listed = v.1;
              wide = v.5;
              room = v.2;
              fits = v.6;
              shows = ap (λ (x : ℕ). r.signal x % 2 ^ width_of (value_type shape.globals code alive.operation)) v.4 ∙ shows.alive k n alive;
              typed = shows.typed_alive k n alive;
            };
      }

      pub in_stage : IsInStage shape.globals code t.inside.slot q.stage b p m r q
      in_stage =
          let inside = slice_get_within code.stages q.stage (stage.Run b) runs.listed in
          let room = t.laid.slot.stage_room in
          record {
            has = record { wide = knows.wide; room = (let h : q.stage < 2 ^ t.inside.slot.stage.width = omega arith in h); fits = knows.fits };
            stage = stage_shown q shows.shown;
            wide = state_wide;
            state = ap r.signal (state_at shape code plan m t served) ∙ shows.shown.state;
            below = below;
            room = t.laid.slot.state_room q.stage p runs.planned_so;
          }

      -- banks are asked for what registers hold
      pub asks_right : IsAskRight shape.globals code b p
      asks_right = record { typed = runs.typed; keeps = runs.keeps; small = t.laid.slot.states_fit q.stage p runs.planned_so; registered = runs.registered }

      -- shared units show what their operations give
      pub shared_so : (wire : ℕ → ℤ) → HasUnits t.inside.slot.units b p m r q wire
      shared_so wire =
          (t.laid.wired served.site_low served.site_high served.spreads refl (no_argument shape code plan m t served)).shares shape.globals m r q b p wire
          (from_inside shape code plan m t served) o
          (record {
            listed = runs.listed;
            planned_so = runs.planned_so;
            right = record {
              block = asks_right;
              units = runs.units;
            };
            inside = in_stage;
            sees = sees_slot;
          })

      fits_told : (x : ℕ) (s : Spread) → slice_get t.inside.slot.spreads x ≡ Some s → IsSmallPower s.count × (s.first + s.count < 2 ^ 64)
      fits_told x s listed =
          let there : slice_get shape.spreads x ≡ Some s = ap (λ l. slice_get l x) (sym t.laid.slot.spreads_are) ∙ listed in
          (served.spreads.powers x s there, (let within = served.spreads.within x s there in let few = served.spreads.few in omega arith))

      -- where a core is needed what is heard is what the slot has of the words of banks
      pub told_so : r.signal t.inside.early.need ≡ 1 → (grant : ℕ → Bool) →
          HearsBanks shape.globals shape.spreads (served_ports shape m) r q b p grant
          → HasTold shape.globals t.inside.slot m r (λ l. q.words (bank_of shape.spreads l))
      told_so needed grant hears = record {
        fits = fits_told;
        words = λ x s ty v listed declared.
            let there : slice_get shape.spreads x ≡ Some s = ap (λ l. slice_get l x) (sym t.laid.slot.spreads_are) ∙ listed in
            let power = served.spreads.powers x s there in
            let k = residue_of 64 v % s.count in
            let less : k < s.count = some_banks (residue_of 64 v) s.count power in
            let w = word_held shape code plan m t served x k s ty there declared less in
            let bank : bank_of shape.spreads (element x (pos (global_read s.length v))) ≡ s.first + k = bank_read shape.spreads x s there power s.length v in
            let within : s.first + k ≤ bank_total shape.spreads = (let upto = served.spreads.within x s there in omega arith) in
            record {
              held = w.held;
              listed = w.listed;
              says = w.wide;
              wide = w.heard.wide m (from_words_heard shape code plan m t served) ∙ w.own;
              shows =
                  w.heard.shows m r (from_words_heard shape code plan m t served) o ∙ ap (λ n. if nat_eq n 0 then 0 else r.signal w.told.register) needed
                  ∙ ap r.signal (w.at ∙ sym (word_told shape code plan m t served (s.first + k) within)) ∙ hears.words x k s ty there declared less
                  ∙ ap (λ n. residue_of (width_of ty) (q.words n)) (sym bank);
              typed = subst (λ n. HasType ty (q.words n)) (sym bank) (hears.typed x k s ty there declared less);
            };
      }

      -- and elsewhere it is nothing
      pub told_nothing : r.signal t.inside.early.need ≡ 0 → HasTold shape.globals t.inside.slot m r (λ l. pos 0)
      told_nothing none = record {
        fits = fits_told;
        words = λ x s ty v listed declared.
            let there : slice_get shape.spreads x ≡ Some s = ap (λ l. slice_get l x) (sym t.laid.slot.spreads_are) ∙ listed in
            let k = residue_of 64 v % s.count in
            let less : k < s.count = some_banks (residue_of 64 v) s.count (served.spreads.powers x s there) in
            let w = word_held shape code plan m t served x k s ty there declared less in
            record {
              held = w.held;
              listed = w.listed;
              says = w.wide;
              wide = w.heard.wide m (from_words_heard shape code plan m t served) ∙ w.own;
              shows =
                  w.heard.shows m r (from_words_heard shape code plan m t served) o ∙ ap (λ n. if nat_eq n 0 then 0 else r.signal w.told.register) none
                  ∙ sym (residue_of-zero (width_of ty));
              typed = has_zero ty;
            };
      }
