-- What a thread's module does in a state of a block: what the planned block says.
use Rattle.std.proofs.Common.{◌≡◌, ◌≢◌, ℕ, suc, ◌+◌, ◌%◌, ◌<◌, ◌≤◌, ◌^◌, Bool, true, false, ◌||◌, nat_eq, if◌then◌else◌, List, length, map, ℤ, pos, refl, sym, ap, subst, ◌∙◌}
use Rattle.std.proofs.Common.{arith}
use Rattle.std.proofs.Math.Nat.{mod-eq_of_lt}
use Rattle.std.proofs.lemmas.Option.{slice_get_within}
use Rattle.std.proofs.Math.Bool.{or-true}
use Rattle.std.proofs.lemmas.Bool.{eqb-true}
use Rattle.interleaving.specs.Memory.{Location, Memory}
use Rattle.hls_ints.specs.Residues.{residue_of, bit_of}
use Rattle.hls_ints.specs.Types.{HasType, width_of}
use Rattle.block_ir.specs.declared.block.Block.{Block}
use Rattle.block_ir.specs.declared.code.Stage.TheVariants as stage
use Rattle.block_ir.specs.declared.code.ThreadCode.{ThreadCode}
use Rattle.block_ir.specs.declared.plan.BlockPlan.{BlockPlan}
use Rattle.block_ir.specs.declared.plan.Planned.{Planned}
use Rattle.planned_block.specs.Block.{Operand, Kind, Simple, Multiply, Divide, BankRead, BankWrite, ArrayRead, ArrayWrite, operation_at, size, finished, leads_to}
use Rattle.planned_block.specs.Plan.{last_state}
use Rattle.planned_block.specs.Closed.{with_words}
use Rattle.planned_block.specs.Slot.{Slot, operand_now, arrays_next, result_of, stayed, gone_on}
use Rattle.planned_block.specs.Advance.{answered, is_ready, is_answered, wires, words_next, registers_next, left_for_next, state_left, advance}
use Rattle.planned_block.proofs.Bits.{same_is}
use Rattle.planned_block.proofs.Total.{wires_wired, registers_right}
use Rattle.planned_block.proofs.Advances.{any_tells}
use Rattle.plan_blocks.specs.View.{planned_view, plan_view}
use Rattle.netlist.specs.declared.netlist.Module.{Module}
use Rattle.verilog_meaning.specs.Readings.{Reading, next_reading, word_after}
use Rattle.circuit.specs.Modules.{Obeys}
use Rattle.thread_promise.specs.Globals.{bank_of}
use Rattle.thread_promise.specs.Types.{value_type}
use Rattle.thread_promise.specs.Slots.{element_at, IsAlive, ShowsData, ShowsInBlock}
use Rattle.thread_promise.specs.Promise.{is_run}
use Rattle.thread_promise.specs.Serving.{IsInside, HearsBanks}
use Rattle.block_datapath.specs.Leave.{IsInStage}
use Rattle.block_datapath.specs.Operations.{SeesSlot, IsFed}
use Rattle.thread_slots.specs.declared.shape.Shape.{Shape}
use Rattle.thread_slots.specs.declared.stores.Store.{Store}
use Rattle.thread_slots.specs.Cells.{store_action}
use Rattle.thread_layout.specs.Leaf.{served_ports}
use Rattle.thread_layout.specs.Modules.{IsModule}
use Rattle.thread_layout.specs.Stages.{LeavesState}
use Rattle.thread_layout.specs.Thread.{inputs_of, places_of, IsServed}
use Rattle.thread_layout.proofs.Sight.{in_stage, shared_so, told_so, told_nothing}
use Rattle.thread_layout.proofs.Sight.{shown_last, stored, all_stored, does, still, knows, stays_but, words_stay, next_beat, next_mark, next_kept, is_right, kept_of, has_widths, sees_slot}
use Rattle.fsm_datapath.proofs.Cells.{cells, next_arrays}
use Rattle.thread_layout.proofs.LostRequests.{block_not_lost}
use Rattle.thread_layout.proofs.StateMoves.{block_leave, block_moved, block_mark}
use Rattle.thread_layout.proofs.Needed.{need_wide, taken_needs}
use Rattle.thread_layout.proofs.Placed.{wide_bit, from_rest, from_inside, beat_at, granted_at}
use Rattle.fsm_datapath.proofs.ActStates.{HoldsArrays, shows_next}
use Rattle.thread_layout.proofs.Requested.{indices, targets, printing}
use Rattle.thread_layout.proofs.RestingThread.{agrees_off}
use Rattle.thread_layout.proofs.Shown.{keeps_in_so, global_within}

module _ (shape : Shape) (code : ThreadCode) (plan : Planned) (m : Module) (t : IsModule shape code plan m) (served : IsServed shape code plan) where
  abbrev behind : ℕ
  behind = inputs_of shape

  abbrev Shows : Reading → Slot → Type 0
  Shows = ShowsData shape.globals code (places_of (inputs_of shape) code plan)

  abbrev ShowsBlock : Block → BlockPlan → Reading → Slot → Type 0
  ShowsBlock = ShowsInBlock shape.globals code (places_of (inputs_of shape) code plan)

  -- a register of the slot but the beat, while the state stays
  kept_still : (r : Reading) (k : ℕ) → Obeys m r → r.signal t.edge.leave ≡ 0 → k < behind + 3 + length code.variables + plan.registers → k ≢ behind + 2
      → (next_reading m r).signal k ≡ r.signal k
  kept_still r k o off less other =
      stays_but shape code plan m t served r o k off (λ e. other (sym e ∙ beat_at shape code plan m t served))
      (λ i h listed e.
      absurd
      (let at = granted_at shape code plan m t served i h listed in
      let variables = t.laid.slot.variables_count in
      let kept : length t.inside.slot.kept ≡ plan.registers = t.laid.slot.kept_count ∙ t.laid.kept.count in
      omega arith))

  -- ---- blocks

  module _ (memory : Memory ℤ) (grant : ℕ → Bool) (r : Reading) (q : Slot) (b : Block) (p : BlockPlan) (o : Obeys m r)
      (inside : IsInside shape.globals shape.spreads code plan (places_of (inputs_of shape) code plan) r q b p)
      (hears : HearsBanks shape.globals shape.spreads (served_ports shape m) r q b p grant) (on : r.signal 1 ≡ 1) where
    abbrev bank : Location → ℕ
    bank = bank_of shape.spreads

    abbrev wire : ℕ → ℤ
    wire = wires bank (planned_view b) (plan_view b p) q

    abbrev value : Operand → ℤ
    value = operand_now (planned_view b) (plan_view b p) q wire

    -- the requests that are granted in this cycle, and the words that are read
    abbrev grants : ℕ → Bool
    grants = answered (planned_view b) (plan_view b p) q grant

    abbrev words : ℕ → ℤ
    words = words_next bank (planned_view b) (plan_view b p) q memory grants

    -- where no core is needed the thread hears nothing, and takes no word
    needed : (c : Bool) → r.signal t.inside.early.need ≡ bit_of c → (heard : ℕ → ℤ) × IsFed shape.globals code t.inside.slot b p bank m r (with_words q heard) wire
    needed true e = (
      q.words,
      record {
        wired = wires_wired bank (planned_view b) (plan_view b p) inside.runs.keeps q;
        told = told_so shape code plan m t served r o q b p inside.runs inside.state inside.shown e grant hears;
        units = shared_so shape code plan m t served r o q b p inside.runs inside.state inside.shown wire;
      },
    )
    needed false e = (
      λ n. pos 0,
      record {
        wired = λ k below last. wires_wired bank (planned_view b) (plan_view b p) inside.runs.keeps q k below last ∙ unheard k below last
            (operation_at (planned_view b) k).kind refl;
        told = told_nothing shape code plan m t served r o q b p inside.runs inside.state inside.shown e;
        units = shared_so shape code plan m t served r o q b p inside.runs inside.state inside.shown wire;
      },
    )
      where
        unheard : (k : ℕ) → k < size (planned_view b) → last_state (planned_view b) (plan_view b p) k ≡ q.state → (kind : Kind) → (operation_at (planned_view b) k).kind ≡ kind
            → result_of bank (operation_at (planned_view b) k).kind q.words q.arrays (value (operation_at (planned_view b) k).left) (value (operation_at (planned_view b) k).right)
            ≡ result_of bank (operation_at (planned_view b) k).kind (λ n. pos 0) q.arrays (value (operation_at (planned_view b) k).left)
            (value (operation_at (planned_view b) k).right)
        unheard k below last kind is =
            ap (λ z. result_of bank z q.words q.arrays (value (operation_at (planned_view b) k).left) (value (operation_at (planned_view b) k).right)) is
            ∙ by_kind kind is
            ∙ ap (λ z. result_of bank z (λ n. pos 0) q.arrays (value (operation_at (planned_view b) k).left) (value (operation_at (planned_view b) k).right)) (sym is)
          where
            by_kind : (kind : Kind) → (operation_at (planned_view b) k).kind ≡ kind
                → result_of bank kind q.words q.arrays (value (operation_at (planned_view b) k).left) (value (operation_at (planned_view b) k).right)
                ≡ result_of bank kind (λ n. pos 0) q.arrays (value (operation_at (planned_view b) k).left) (value (operation_at (planned_view b) k).right)
            by_kind (Simple f) e' = refl
            by_kind (Multiply f) e' = refl
            by_kind (Divide f) e' = refl
            by_kind (BankRead x) e' =
                absurd (let clash : 0 ≡ 1 = sym e ∙ taken_needs shape code plan m t served r o q b p inside k x below last e' in cc)
            by_kind (BankWrite x) e' = refl
            by_kind (ArrayRead x) e' = refl
            by_kind (ArrayWrite x) e' = refl

    need_now : (c : Bool) × (r.signal t.inside.early.need ≡ bit_of c)
    need_now = wide_bit m r t.inside.early.need o (need_wide shape code plan m t served)

    fed : (heard : ℕ → ℤ) × IsFed shape.globals code t.inside.slot b p bank m r (with_words q heard) wire
    fed = needed need_now.0 need_now.1

    -- the slot beside what is heard
    abbrev heard_slot : Slot
    heard_slot = with_words q fed.0

    heard_stage : IsInStage shape.globals code t.inside.slot q.stage b p m r heard_slot
    heard_stage =
        let own = in_stage shape code plan m t served r o q b p inside.runs inside.state inside.shown in
        record { has = own.has; stage = own.stage; wide = own.wide; state = own.state; below = own.below; room = own.room }

    heard_sees : SeesSlot shape.globals code t.inside.slot b p m r heard_slot
    heard_sees =
        let own = sees_slot shape code plan m t served r o q b p inside.runs inside.state inside.shown in
        record {
          variables = own.variables;
          arrays = own.arrays;
          alive = λ k n a. own.alive k n (record { operation = a.operation; listed = a.listed; register = a.register; past = a.past; used = a.used });
        }

    made : LeavesState shape.globals code t.inside.slot q.stage b p r q wire t.inside.chains
    made =
        let left =
        (does shape code plan m t served q.stage (stage.Run b) inside.runs.listed).runs b p refl inside.runs.planned_so bank m r heard_slot wire
        (from_rest shape code plan m t served) o (still shape code plan m t served r o)
        (is_right shape code plan m t served r o q b p inside.runs inside.state inside.shown) heard_stage heard_sees
        fed.1 (has_widths shape code plan m t served r o q b p inside.runs inside.state inside.shown) (knows shape code plan m t served r o) in
        let shown =
        shown_last shape code plan m t served r o
        (block_not_lost shape code plan m t served r q o inside.shown.shown (ap is_run inside.runs.listed)) in
        record {
          is_last = shown.is_last (nat_eq (suc q.state) p.states) left.is_last;
          stage = shown.stage ∙ left.stage;
          variables = λ x ty declared. shown.variables x ∙ left.variables x ty declared;
          typed = left.typed;
          kept = λ after is next at k x u.
              let own = left.kept after (record { written = is.written; kept = is.kept }) next at k x u in
              (ap (λ v. v % 2 ^ width_of (value_type shape.globals code u.operation)) (shown.kept x) ∙ own.0, own.1);
          waits = shown.waits false left.waits;
        }

    leave_is : r.signal t.edge.leave ≡ bit_of (is_ready (planned_view b) (plan_view b p) q grant)
    leave_is =
        block_leave shape code plan m t served r q b p o inside (indices shape code plan m t served r q b p o inside)
        (targets shape code plan m t served r q b p o inside) grant hears (printing shape code plan m t served r q b p o inside) made.waits on

    moved_is : r.signal t.edge.moved ≡ bit_of (is_ready (planned_view b) (plan_view b p) q grant || is_answered (planned_view b) (plan_view b p) q grant)
    moved_is =
        block_moved shape code plan m t served r q b p o inside (indices shape code plan m t served r q b p o inside)
        (targets shape code plan m t served r q b p o inside) grant hears (printing shape code plan m t served r q b p o inside) made.waits on

    -- ---- the state is left

    module _ (ready : is_ready (planned_view b) (plan_view b p) q grant ≡ true) where
      leave : r.signal t.edge.leave ≡ 1
      leave = leave_is ∙ ap bit_of ready

      -- the arrays are those that the state leaves
      held : (s : Slot) → ((l : Location) → s.arrays l ≡ arrays_next (planned_view b) (plan_view b p) q wire l) → HoldsArrays shape code plan m t served r s
      held s same =
          let listed = inside.runs.listed in
          let put =
          (stored shape code plan m t served).runs q.stage b p (slice_get_within code.stages q.stage (stage.Run b) listed)
          (let z : length code.stages ≤ length code.stages = omega arith in z) listed inside.runs.planned_so bank m r heard_slot wire
          (from_inside shape code plan m t served) o
          (is_right shape code plan m t served r o q b p inside.runs inside.state inside.shown) (knows shape code plan m t served r o) heard_stage heard_sees
          fed.1 in
          let shows = inside.shown.shown in
          let is : (a i : ℕ) → s.arrays (element_at a i) ≡ cells b p q wire (length b.operations) a i (q.arrays (element_at a i)) = λ a i. same
          (element_at a i) ∙ next_arrays b p q wire a i in
          record {
            words = λ a i array there less.
                let one = put.words t.edge.leave a i (r.word a i) array (q.arrays (element_at a i)) leave there less (shows.words a i array there less)
                (shows.typed_words a i array there less) in (
                  ap (λ (l : List Store). word_after r (map (store_action t.edge.leave) l) a i (r.word a i)) (all_stored shape code plan m t served) ∙ one.0
                      ∙ ap (residue_of (width_of array.ty)) (sym (is a i)),
                  subst (HasType array.ty) (sym (is a i)) one.1,
                );
            outside = λ a array there. is a array.length ∙ put.outside a array (q.arrays (element_at a array.length)) there ∙ shows.outside a array there;
          }

      by_end : (last : Bool) → nat_eq (suc q.state) p.states ≡ last
          → (suc q.state < p.states → ShowsBlock b p (next_reading m r)
          (if last then left_for_next bank (planned_view b) (plan_view b p) q words
          else gone_on (planned_view b) (plan_view b p) q wire words (registers_next bank (planned_view b) (plan_view b p) q)))
          × Shows (next_reading m r)
          (if last then left_for_next bank (planned_view b) (plan_view b p) q words
          else gone_on (planned_view b) (plan_view b p) q wire words (registers_next bank (planned_view b) (plan_view b p) q))
      by_end true e = (
        λ less. absurd (let same = eqb-true (suc q.state) p.states e in omega arith),
        shows_next shape code plan m t served r q (left_for_next bank (planned_view b) (plan_view b p) q words) true o inside.shown.shown on leave
            (made.is_last ∙ ap bit_of e)
            (made.stage ∙ ap (λ c. if c then leads_to value (planned_view b).next else q.stage) e) refl refl
            (λ x ty declared.
            made.variables x ty declared ∙ ap (λ c. residue_of (width_of ty) (if c then finished value (planned_view b).finals q.variables x else q.variables x)) e)
            (λ x ty declared. subst (λ (c : Bool). HasType ty (if c then finished value (planned_view b).finals q.variables x else q.variables x)) e (made.typed x ty declared))
            (held (left_for_next bank (planned_view b) (plan_view b p) q words) (λ l. refl)),
      )
      by_end false e =
          let below = inside.state in
          let ne : suc q.state ≢ p.states = λ same. let clash : true ≡ false = sym (same_is (suc q.state) p.states same) ∙ e in absurd cc in
          let room = (in_stage shape code plan m t served r o q b p inside.runs inside.state inside.shown).room in
          let fits : q.state + 1 < 2 ^ t.inside.slot.state.width = omega arith in
          let one : q.state + 1 ≡ suc q.state = omega arith in
          let next : Slot = gone_on (planned_view b) (plan_view b p) q wire words (registers_next bank (planned_view b) (plan_view b p) q) in
          let shown : Shows (next_reading m r) next =
          shows_next shape code plan m t served r q next false o inside.shown.shown on leave (made.is_last ∙ ap bit_of e)
          (made.stage ∙ ap (λ c. if c then leads_to value (planned_view b).next else q.stage) e) (mod-eq_of_lt fits ∙ one) refl
          (λ x ty declared.
          made.variables x ty declared ∙ ap (λ c. residue_of (width_of ty) (if c then finished value (planned_view b).finals q.variables x else q.variables x)) e)
          (λ x ty declared. subst (λ (c : Bool). HasType ty (if c then finished value (planned_view b).finals q.variables x else q.variables x)) e (made.typed x ty declared))
          (held next (λ l. refl))
          in (
            λ less. record {
              shown = shown;
              alive = λ k n alive.
                  let kept = made.kept (registers_next bank (planned_view b) (plan_view b p) q)
                  (registers_right bank (planned_view b) (plan_view b p) inside.runs.keeps q) next refl k n alive in
                  let v = kept_of shape code plan m t served r o q b p inside.runs inside.state inside.shown k n alive.operation alive.listed alive.register in
                  ap (λ x. x % 2 ^ width_of (value_type shape.globals code alive.operation)) (next_kept shape code plan m t served r o leave n v.3) ∙ kept.0;
              typed_alive = λ k n alive.
                  (made.kept (registers_next bank (planned_view b) (plan_view b p) q) (registers_right bank (planned_view b) (plan_view b p) inside.runs.keeps q) next refl k n
                  alive).1;
              -- no grant is remembered
              granted = λ k x w under target at.
                  shown.none_granted (λ n. refl) x (global_within shape code plan m t served q b p inside.runs k x w under target);
            },
            shown,
          )

    -- ---- the state stays

    module _ (stay : is_ready (planned_view b) (plan_view b p) q grant ≡ false) where
      off : r.signal t.edge.leave ≡ 0
      off = leave_is ∙ ap bit_of stay

      moves_as : r.signal t.edge.moved ≡ bit_of (is_answered (planned_view b) (plan_view b p) q grant)
      moves_as = moved_is ∙ ap (λ z. bit_of (z || is_answered (planned_view b) (plan_view b p) q grant)) stay

      -- no request is granted
      rested : is_answered (planned_view b) (plan_view b p) q grant ≡ false → ShowsBlock b p (next_reading m r) q
      rested none =
          keeps_in_so shape code plan m t served r (next_reading m r) q b p (agrees_off shape code plan m t served r o off (moves_as ∙ ap bit_of none)) inside.runs
          inside.shown

      -- some are, and are remembered
      remembered : is_answered (planned_view b) (plan_view b p) q grant ≡ true → ShowsBlock b p (next_reading m r) (stayed (planned_view b) (plan_view b p) q grants words)
      remembered some =
          let moved : r.signal t.edge.moved ≡ 1 = moves_as ∙ ap bit_of some in
          let shows = inside.shown.shown in
          record {
            shown = record {
              stage = kept_still r behind o off (omega arith) (λ e. absurd (omega arith)) ∙ shows.stage;
              state = kept_still r (behind + 1) o off (omega arith) (λ e. absurd (omega arith)) ∙ shows.state;
              beat = next_beat shape code plan m t served r o q.beat moved shows.beat;
              variables = λ x ty declared.
                  let less = slice_get_within code.variables x ty declared in
                  kept_still r (behind + 3 + x) o off (omega arith) (λ e. absurd (omega arith)) ∙ shows.variables x ty declared;
              typed = shows.typed;
              words = λ a i array listed less. words_stay shape code plan m t served r o a i off ∙ shows.words a i array listed less;
              typed_words = shows.typed_words;
              outside = shows.outside;
              none_granted = λ none x less.
                  let k = any_tells grants (size (planned_view b)) some in
                  absurd (let clash : true ≡ false = sym (ap (λ z. q.granted k.0 || z) k.2 ∙ or-true (q.granted k.0)) ∙ none k.0 in cc);
            };
            alive = λ k n alive.
                let v = kept_of shape code plan m t served r o q b p inside.runs inside.state inside.shown k n alive.operation alive.listed alive.register in
                let less : n < plan.registers = v.3 in
                let own : IsAlive b p q k n = record { operation = alive.operation; listed = alive.listed; register = alive.register; past = alive.past; used = alive.used } in
                ap (λ x. x % 2 ^ width_of (value_type shape.globals code alive.operation)) (kept_still r (behind + 3 + length code.variables + n) o off (omega arith)
                (λ e. absurd (omega arith)))
                ∙ inside.shown.alive k n own;
            typed_alive = λ k n alive.
                inside.shown.typed_alive k n
                (record { operation = alive.operation; listed = alive.listed; register = alive.register; past = alive.past; used = alive.used });
            granted = λ k x w under target at.
                next_mark shape code plan m t served r o x moved (global_within shape code plan m t served q b p inside.runs k x w under target)
                ∙ block_mark shape code plan m t served r q b p o inside (indices shape code plan m t served r q b p o inside)
                (targets shape code plan m t served r q b p o inside) grant hears (printing shape code plan m t served r q b p o inside) made.waits on k x w under
                target at stay;
          }

    -- A STATE OF A BLOCK
    abbrev Goal : Bool → Slot → Type 0
    Goal ready s = ((ready ≡ true → suc q.state < p.states) → ShowsBlock b p (next_reading m r) s) × Shows (next_reading m r) s

    by_ready : (ready some : Bool) → is_ready (planned_view b) (plan_view b p) q grant ≡ ready → is_answered (planned_view b) (plan_view b p) q grant ≡ some
        → Goal ready (if ready then state_left bank (planned_view b) (plan_view b p) q words else (if some then stayed (planned_view b) (plan_view b p) q grants words else q))
    by_ready true some e f = let left = by_end e (nat_eq (suc q.state) p.states) refl in (λ within. left.0 (within refl), left.1)
    by_ready false true e f = let shown = remembered e f in (λ within. shown, shown.shown)
    by_ready false false e f = let shown = rested e f in (λ within. shown, shown.shown)

    pub moves_so : Goal (is_ready (planned_view b) (plan_view b p) q grant) (advance bank (planned_view b) (plan_view b p) q memory grant)
    moves_so = by_ready (is_ready (planned_view b) (plan_view b p) q grant) (is_answered (planned_view b) (plan_view b p) q grant) refl refl
