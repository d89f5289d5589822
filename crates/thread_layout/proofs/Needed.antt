-- Whether a core is needed: it is where a word is taken and where the thread waits, and not in a state that asks nothing and takes no word.
use Rattle.std.proofs.Common.{◌≡◌, ◌≢◌, ℕ, zero, suc, ◌+◌, ◌-◌, ◌<◌, ◌≤◌, nat_eq, Bool, true, false, ◌&&◌, ◌||◌, List, [], ◌∷◌, length, slice_get, slice_index, Option, Some}
use Rattle.std.proofs.Common.{None, ℤ, refl, sym, ap, subst, ◌∙◌, arith, ⊎_elim, length-append}
use Rattle.std.proofs.lemmas.Bool.{cases_lt, cases_eq, or_parts, or_left, and_parts, and_left, and_from, eqb-true, ne_eqb, eq-eqb, or_from}
use Rattle.std.proofs.lemmas.Option.{slice_get_within}
use Rattle.std.proofs.Math.Bool.{and-false, or-true}
use Rattle.std.proofs.lemmas.List.{get_or-append_right, get_or_append_left}
use Rattle.lists.proofs.Places.{get_there}
use Rattle.plan_blocks.proofs.ViewRuns.{size-view}
use Rattle.hls_ints.specs.Residues.{bit_of}
use Rattle.c_program.specs.declared.tree.BinaryOperator.{BinaryOperator}
use Rattle.c_program.specs.declared.tree.BinaryOperator.TheVariants as operators
use Rattle.block_ir.specs.declared.block.Operation.{Operation}
use Rattle.block_ir.specs.declared.block.Operation.TheVariants.{Unary, Binary, ReadGlobal, WriteGlobal, ReadArray, WriteArray}
use Rattle.block_ir.specs.declared.block.Block.{Block}
use Rattle.block_ir.specs.declared.code.Act.TheVariants.{Return}
use Rattle.block_ir.specs.declared.code.Stage.{Stage}
use Rattle.block_ir.specs.declared.code.Stage.TheVariants as stage
use Rattle.block_ir.specs.declared.code.ThreadCode.{ThreadCode}
use Rattle.block_ir.specs.declared.plan.BlockPlan.{BlockPlan}
use Rattle.block_ir.specs.declared.plan.StagePlan.TheVariants as planned
use Rattle.block_ir.specs.declared.plan.Planned.{Planned}
use Rattle.planned_block.specs.Block.{Operation as PlannedOperation, BankRead, operation_at, size}
use Rattle.planned_block.specs.Plan.{last_state, further_states}
use Rattle.planned_block.specs.Slot.{Slot}
use Rattle.planned_block.specs.Advance.{any_below}
use Rattle.planned_block.specs.Closed.{IsClosed}
use Rattle.planned_block.proofs.Advances.{some_tells}
use Rattle.plan_blocks.specs.View.{operation_view, binary_kind, planned_view, plan_view}
use Rattle.netlist.specs.declared.netlist.Module.{Module}
use Rattle.verilog_meaning.specs.Readings.{Reading, width}
use Rattle.circuit.specs.Modules.{Obeys}
use Rattle.thread_promise.specs.Globals.{bank_total}
use Rattle.thread_promise.specs.Serving.{IsInside}
use Rattle.block_datapath.proofs.OperationValues.{listed_view}
use Rattle.thread_slots.specs.declared.shape.Shape.{Shape}
use Rattle.thread_slots.specs.Bits.{HasBit, HaveBits}
use Rattle.thread_layout.specs.Modules.{IsModule}
use Rattle.thread_promise.specs.Moves.{meeting}
use Rattle.thread_slots.specs.Numbers.{is_wait}
use Rattle.thread_requests.specs.Needing.{takes_word, takes_at, needs_in, meets_at, needs_at, IsInPlan, IsNeedOfFirst}
use Rattle.thread_slots.specs.Idle.{is_idle}
use Rattle.thread_layout.specs.Thread.{inputs_of, places_of, IsServed}
use Rattle.thread_requests.proofs.Needs.{idle_needs}
use Rattle.thread_layout.proofs.Opened.{wired, earlier_wide, wants_count, want_wide, ask_wide, bit_told}
use Rattle.thread_requests.specs.Early.{wants_of}
use Rattle.block_ir.specs.declared.service.Service.{Service}
use Rattle.block_ir.specs.declared.service.Service.TheVariants.{Mutex, Barrier, ThreadIds, Printer}
use Rattle.thread_slots.specs.Requests.{group}
use Rattle.thread_layout.proofs.Placed.{from_early, wide_bit}
use Rattle.thread_layout.proofs.RaisedAsks.{from_whole, from_needs}
use Rattle.thread_layout.proofs.Sight.{knows, in_stage}

-- ---- bits

pub bit_false : (b : Bool) → bit_of b ≡ 0 → b ≡ false
bit_false true e = absurd cc
bit_false false e = refl

-- who is at no meeting
meets_none : (n l x : ℕ) (s : Option Stage) → x ≢ meeting n l → meets_at n l s x ≡ false
meets_none n l x None ne = refl
meets_none n l x (Some s) ne = ap (λ z. is_wait s && z) (ne_eqb x (meeting n l) ne) ∙ and-false (is_wait s)

-- and who is
meets_so : (n l x : ℕ) (s : Stage) (t : Bool) → is_wait s ≡ true → x ≡ meeting n l → (t || meets_at n l (Some s) x) ≡ true
meets_so n l x s t waits here =
    ap (λ z. t || (z && nat_eq x (meeting n l))) waits ∙ ap (λ z. t || z) (eq-eqb x (meeting n l) here) ∙ or-true t

pub none_below : (f : ℕ → Bool) (n : ℕ) → ((k : ℕ) → k < n → f k ≡ false) → any_below f n ≡ false
none_below f zero none = refl
none_below f (suc n) none = or_from (any_below f n) (f n) (none_below f n (λ k less. none k (omega arith))) (none n (omega arith))

-- ---- reads of globals

reads : (o : Operation) → takes_word (Some o) ≡ true → (x : ℕ) × ((operation_view o).kind ≡ BankRead x)
reads (Unary operator ty a) e = absurd cc
reads (Binary operator ty a b) e = absurd cc
reads (ReadGlobal x n i) e = (x, refl)
reads (WriteGlobal x n i a) e = absurd cc
reads (ReadArray x n i) e = absurd cc
reads (WriteArray x n i a) e = absurd cc

no_read : (o : BinaryOperator) (f : ℤ → ℤ → ℤ) (x : ℕ) → binary_kind o f ≡ BankRead x → ⊥
no_read operators.Multiply f x e = absurd cc
no_read operators.Divide f x e = absurd cc
no_read operators.Remainder f x e = absurd cc
no_read _ f x e = absurd cc

not_some : (f : ℕ → Bool) (n : ℕ) → any_below f n ≡ false → (k : ℕ) → k < n → f k ≡ false
not_some f zero e k less = absurd (omega arith)
not_some f (suc n) e k less =
    ⊎_elim (λ (same : k ≡ n). ap f same ∙ (or_parts (any_below f n) (f n) e).1)
    (λ (ne : k ≢ n). not_some f n (or_parts (any_below f n) (f n) e).0 k (omega arith)) (cases_eq k n)

some_operation : (o : Option Operation) → takes_word o ≡ true → (p : Operation) × (o ≡ Some p)
some_operation None e = absurd cc
some_operation (Some o) e = (o, refl)

module _ (shape : Shape) (code : ThreadCode) (plan : Planned) (m : Module) (t : IsModule shape code plan m) (served : IsServed shape code plan) where
  abbrev banks : ℕ
  banks = bank_total shape.spreads

  abbrev asked : List ℕ
  asked = wants_of t.inside.early.requests

  -- how many wants there are: of each bank, and of each kind of cores that acts ask
  abbrev pub wants_all : ℕ
  wants_all = banks + 4

  asked_count : length asked ≡ wants_all
  asked_count =
      length-append t.inside.early.requests.banks.wants
      (t.inside.early.requests.mutex.wants ∷ t.inside.early.requests.barrier.wants ∷ t.inside.early.requests.thread_ids.wants ∷ t.inside.early.requests.printer.wants ∷ [])
      ∙ ap (λ k. k + 4) (wants_count shape code plan m t served)

  -- bank n
  pub asked_bank : (n : ℕ) → n < banks → slice_index asked n ≡ slice_index t.inside.early.requests.banks.wants n
  asked_bank n less =
      get_or_append_left t.inside.early.requests.banks.wants _ 0 n (subst (λ k. n < k) (sym (wants_count shape code plan m t served)) less)

  -- behind them some kind
  pub asked_kind : (n : ℕ) → banks ≤ n → n < wants_all → (s : Service) × (slice_index asked n ≡ (group t.inside.early.requests s).wants)
  asked_kind n past less = by (n - banks) refl (omega arith)
    where
      at : (k : ℕ) → n - banks ≡ k → slice_index asked n ≡ slice_index
          (t.inside.early.requests.mutex.wants ∷ t.inside.early.requests.barrier.wants ∷ t.inside.early.requests.thread_ids.wants ∷ t.inside.early.requests.printer.wants ∷ []) k
      at k e =
          get_or-append_right t.inside.early.requests.banks.wants _ (length t.inside.early.requests.banks.wants) n 0 refl (subst (λ z. z ≤ n) (sym (wants_count shape code plan m t served)) past)
          ∙ ap
          (λ z. slice_index
          (t.inside.early.requests.mutex.wants ∷ t.inside.early.requests.barrier.wants ∷ t.inside.early.requests.thread_ids.wants ∷ t.inside.early.requests.printer.wants ∷ [])
          (n - z)) (wants_count shape code plan m t served)
          ∙ ap
          (slice_index
          (t.inside.early.requests.mutex.wants ∷ t.inside.early.requests.barrier.wants ∷ t.inside.early.requests.thread_ids.wants ∷ t.inside.early.requests.printer.wants ∷ [])) e

      by : (k : ℕ) → n - banks ≡ k → k < 4 → (s : Service) × (slice_index asked n ≡ (group t.inside.early.requests s).wants)
      by zero e lt = (Mutex, at 0 e)
      by (suc zero) e lt = (Barrier, at 1 e)
      by (suc (suc zero)) e lt = (ThreadIds, at 2 e)
      by (suc (suc (suc zero))) e lt = (Printer, at 3 e)
      by (suc (suc (suc (suc k)))) e lt = absurd (omega arith)

  asked_wide : (n : ℕ) → n < wants_all → width m (slice_index asked n) ≡ 1
  asked_wide n less =
      ⊎_elim (λ (h : n < banks). ap (width m) (asked_bank n h) ∙ want_wide shape code plan m t served n h)
      (λ (h : banks ≤ n). let kind = asked_kind n h less in ap (width m) kind.1 ∙ ask_wide shape code plan m t served kind.0) (cases_lt n banks)

  pub need_wide : width m t.inside.early.need ≡ 1
  need_wide =
      earlier_wide m t.laid.with_early _ t.inside.early.need 1 (from_early shape code plan m t served) (wired shape code plan m t served).early.need

  module _ (r : Reading) (o : Obeys m r) where
    abbrev now : ℕ
    now = r.signal t.inside.slot.stage.register

    -- what is asked, whatever it is
    abbrev pub asked_now : ℕ → Bool
    asked_now n = nat_eq (r.signal (slice_index asked n)) 1

    asked_bits : HaveBits m r asked (length asked) asked_now
    asked_bits n less =
        let wide = asked_wide n (subst (λ k. n < k) asked_count less) in
        let bit = wide_bit m r (slice_index asked n) o wide in
        record { wide = wide; shows = bit_told (r.signal (slice_index asked n)) bit.0 bit.1 }

    -- where none is wanted no core that acts ask is
    pub service_off : ((n : ℕ) → n < wants_all → asked_now n ≡ false) → (s : Service) → HasBit m r (group t.inside.early.requests s).wants false
    service_off quiet s =
        let wide = ask_wide shape code plan m t served s in
        let bit = wide_bit m r (group t.inside.early.requests s).wants o wide in
        let at = kind_place s in
        record {
          wide = wide;
          shows =
              bit_told (r.signal (group t.inside.early.requests s).wants) bit.0 bit.1
              ∙ ap (λ z. bit_of (nat_eq (r.signal z) 1)) (sym at.1) ∙ ap bit_of (quiet (banks + at.0) at.2);
        }
      where
        there : (k : ℕ) → k < 4 → slice_index asked (banks + k) ≡ slice_index
            (t.inside.early.requests.mutex.wants ∷ t.inside.early.requests.barrier.wants ∷ t.inside.early.requests.thread_ids.wants ∷ t.inside.early.requests.printer.wants ∷ []) k
        there k less =
            let count = wants_count shape code plan m t served in
            get_or-append_right t.inside.early.requests.banks.wants _ (length t.inside.early.requests.banks.wants) (banks + k) 0 refl (omega arith)
            ∙ ap
            (slice_index
            (t.inside.early.requests.mutex.wants ∷ t.inside.early.requests.barrier.wants ∷ t.inside.early.requests.thread_ids.wants ∷ t.inside.early.requests.printer.wants ∷ []))
            (let z : banks + k - length t.inside.early.requests.banks.wants ≡ k = omega arith in z)

        kind_place : (k : Service) → (n : ℕ) × (slice_index asked (banks + n) ≡ (group t.inside.early.requests k).wants) × (banks + n < wants_all)
        kind_place Mutex = (0, there 0 (omega arith), omega arith)
        kind_place Barrier = (1, there 1 (omega arith), omega arith)
        kind_place ThreadIds = (2, there 2 (omega arith), omega arith)
        kind_place Printer = (3, there 3 (omega arith), omega arith)

    end_bit : HasBit m r t.inside.early.done (nat_eq now (length code.stages))
    end_bit = record {
      wide = t.laid.early.asked.asks.done_wide m (from_whole shape code plan m t served);
      shows = t.laid.early.asked.asks.done_is m r (from_whole shape code plan m t served) o (knows shape code plan m t served r o);
    }

    -- NEED, of what is known of the stages
    pub need_bit : (u : Bool) → IsNeedOfFirst t.inside.slot code plan (length code.stages) m r u
        → HasBit m r t.inside.early.need ((nat_eq now (length code.stages) || u) || any_below (λ k. true && asked_now k) (length asked))
    need_bit u place =
        t.laid.early.needs.shows m r (nat_eq now (length code.stages) || u) asked_now (from_early shape code plan m t served) o
        (t.laid.early.holds.shows m r (nat_eq now (length code.stages)) u (from_needs shape code plan m t served) o end_bit place) asked_bits

    abbrev needs_now : ℕ → ℕ → Bool
    needs_now state l = needs_at (length code.stages) l (slice_get code.stages l) (slice_get plan.stages l) state now

    abbrev at_stages : ℕ → Bool
    at_stages state = any_below (needs_now state) (length code.stages)

    -- the place of a reading, whose state is s wherever its stage is a block
    abbrev Placed : ℕ → Type 0
    Placed s = (l : ℕ) (b : Block) (p : BlockPlan) → slice_get code.stages l ≡ Some (stage.Run b) → slice_get plan.stages l ≡ Some (planned.Run p) → now ≡ l →
        IsInPlan t.inside.slot b p m r s

    at_place : (s : ℕ) → Placed s → HasBit m r t.inside.early.need ((nat_eq now (length code.stages) || at_stages s) || any_below (λ k. true && asked_now k) (length asked))
    at_place s inside =
        need_bit (at_stages s)
        (record {
          knows = knows shape code plan m t served r o;
          state = s;
          inside = inside;
          is = refl;
        })

    held_bit : (c : Bool) × (r.signal t.laid.early.held ≡ bit_of c)
    held_bit =
        wide_bit m r t.laid.early.held o
        (t.laid.early.holds.wide m (from_needs shape code plan m t served) (t.laid.early.asked.asks.done_wide m (from_whole shape code plan m t served)))

    -- where no core is needed none is asked
    pub unneeded_asks : r.signal t.inside.early.need ≡ 0 → (n : ℕ) → n < wants_all → asked_now n ≡ false
    unneeded_asks none n less =
        let need =
        t.laid.early.needs.shows m r held_bit.0 asked_now (from_early shape code plan m t served) o
        (record {
          wide = t.laid.early.holds.wide m (from_needs shape code plan m t served) (t.laid.early.asked.asks.done_wide m (from_whole shape code plan m t served));
          shows = held_bit.1;
        }) asked_bits in
        let off : (held_bit.0 || any_below (λ k. true && asked_now k) (length asked)) ≡ false = bit_false _ (sym need.shows ∙ none) in
        not_some (λ k. true && asked_now k) (length asked) (or_parts held_bit.0 _ off).1 n (subst (λ k. n < k) (sym asked_count) less)

    -- and one is needed nowhere else
    unneeded : (s l : ℕ) → Placed s → now ≡ l → l < length code.stages → needs_in (slice_get code.stages l) (slice_get plan.stages l) s ≡ false
        → ((n : ℕ) → n < wants_all → asked_now n ≡ false) → r.signal t.inside.early.need ≡ 0
    unneeded s l placed here below none quiet =
        let at : at_stages s ≡ false =
        none_below (needs_now s) (length code.stages)
        (λ k less.
        or_from (nat_eq now k && needs_in (slice_get code.stages k) (slice_get plan.stages k) s) (meets_at (length code.stages) k (slice_get code.stages k) now)
        (⊎_elim
        (λ (same : k ≡ l).
        ap (λ z. nat_eq now z && needs_in (slice_get code.stages z) (slice_get plan.stages z) s) same
        ∙ ap (λ z. nat_eq now l && z) none ∙ and-false (nat_eq now l))
        (λ (ne : k ≢ l). and_left (nat_eq now k) _ (ne_eqb now k (λ is. ne (sym is ∙ here)))) (cases_eq k l))
        (meets_none (length code.stages) k now (slice_get code.stages k) (λ is. absurd (let same = sym here ∙ is in omega arith)))) in
        let end : nat_eq now (length code.stages) ≡ false =
        ne_eqb now (length code.stages) (λ is. absurd (let same : l ≡ length code.stages = sym here ∙ is in omega arith)) in
        let ask : any_below (λ k. true && asked_now k) (length asked) ≡ false =
        none_below (λ k. true && asked_now k) (length asked) (λ k less. quiet k (subst (λ z. k < z) asked_count less)) in
        (at_place s placed).shows
        ∙ ap bit_of (or_from (nat_eq now (length code.stages) || at_stages s) (any_below (λ k. true && asked_now k) (length asked))
        (or_from (nat_eq now (length code.stages)) (at_stages s) end at) ask)

    -- and where a stage needs one
    stage_needs : (s l : ℕ) → now ≡ l → l < length code.stages → needs_in (slice_get code.stages l) (slice_get plan.stages l) s ≡ true → at_stages s ≡ true
    stage_needs s l here below needs =
        some_tells (needs_now s) (length code.stages) l below
        (or_left (nat_eq now l && needs_in (slice_get code.stages l) (slice_get plan.stages l) s) (meets_at (length code.stages) l (slice_get code.stages l) now)
        (and_from (nat_eq now l) (needs_in (slice_get code.stages l) (slice_get plan.stages l) s) (eq-eqb now l here) needs))

    -- AT A RETURN no core is needed
    pub return_needs : (next : ℕ) → slice_get code.stages now ≡ Some (stage.Act Return next) → ((n : ℕ) → n < wants_all → asked_now n ≡ false) → r.signal t.inside.early.need ≡ 0
    return_needs next listed quiet =
        unneeded 0 now
        (λ l b p e f is.
        absurd (let own : slice_get code.stages now ≡ Some (stage.Run b) = ap (slice_get code.stages) is ∙ e in cc))
        refl (slice_get_within code.stages now (stage.Act Return next) listed)
        (ap (λ k. needs_in k (slice_get plan.stages now) 0) listed) quiet

    -- WHERE THE THREAD WAITS FOREVER a core is needed
    pub idle_needs_so : (s : Stage) → slice_get code.stages now ≡ Some s → is_idle s (slice_get plan.stages now) ≡ true →
        r.signal t.inside.early.need ≡ 1
    idle_needs_so s listed idle =
        let less = slice_get_within code.stages now s listed in
        let here : at_stages 0 ≡ true =
        stage_needs 0 now refl less (ap (λ k. needs_in k (slice_get plan.stages now) 0) listed ∙ idle_needs s (slice_get plan.stages now) 0 idle) in
        (at_place 0 (λ l b p e f is. absurd (runs_idle l b p e f is))).shows
        ∙ ap (λ k. bit_of ((nat_eq now (length code.stages) || k) || any_below (λ k. true && asked_now k) (length asked))) here
        ∙ ap (λ k. bit_of (k || any_below (λ k. true && asked_now k) (length asked))) (or-true (nat_eq now (length code.stages)))
      where
        runs_idle : (l : ℕ) (b : Block) (p : BlockPlan) → slice_get code.stages l ≡ Some (stage.Run b) → slice_get plan.stages l ≡ Some (planned.Run p) → now ≡ l → ⊥
        runs_idle l b p e f is =
            let run : s ≡ stage.Run b = (let own : slice_get code.stages now ≡ Some (stage.Run b) = ap (slice_get code.stages) is ∙ e in cc) in
            let planned_so : slice_get plan.stages now ≡ Some (planned.Run p) = ap (slice_get plan.stages) is ∙ f in
            let clash : false ≡ true =
            ap (λ k. is_idle (stage.Run b) k) (sym planned_so)
            ∙ ap (λ (k : Stage). is_idle k (slice_get plan.stages now)) (sym run) ∙ idle in
            absurd cc

    -- WHERE THE THREAD MEETS OTHERS a core is needed
    pub meeting_needs : (l : ℕ) (s : Stage) → slice_get code.stages l ≡ Some s → is_wait s ≡ true → now ≡ meeting (length code.stages) l → r.signal t.inside.early.need ≡ 1
    meeting_needs l s listed waits here =
        let below = slice_get_within code.stages l s listed in
        let at : at_stages 0 ≡ true =
        some_tells (needs_now 0) (length code.stages) l below
        (ap (λ z. needs_at (length code.stages) l z (slice_get plan.stages l) 0 now) listed
        ∙ meets_so (length code.stages) l now s (nat_eq now l && needs_in (Some s) (slice_get plan.stages l) 0) waits here) in
        (at_place 0
        (λ k b p e f is. absurd (let less = slice_get_within code.stages k (stage.Run b) e in let same = sym here ∙ is in omega arith))).shows
        ∙ ap (λ k. bit_of ((nat_eq now (length code.stages) || k) || any_below (λ k. true && asked_now k) (length asked))) at
        ∙ ap (λ k. bit_of (k || any_below (λ k. true && asked_now k) (length asked))) (or-true (nat_eq now (length code.stages)))

    -- AT THE END a core is needed
    pub end_needs : now ≡ length code.stages → r.signal t.inside.early.need ≡ 1
    end_needs end =
        (at_place 0
        (λ l b p e f is. absurd (let less = slice_get_within code.stages l (stage.Run b) e in let same : length code.stages ≡ l = sym end ∙ is in omega arith))).shows
        ∙ ap (λ k. bit_of ((k || at_stages 0) || any_below (λ k. true && asked_now k) (length asked))) (eq-eqb now (length code.stages) end)

    -- within a block
    module _ (q : Slot) (b : Block) (p : BlockPlan)
        (inside : IsInside shape.globals shape.spreads code plan (places_of (inputs_of shape) code plan) r q b p) where
      here_now : now ≡ q.stage
      here_now = (in_stage shape code plan m t served r o q b p inside.runs inside.state inside.shown).stage

      read_at : (k : ℕ) → takes_word (slice_get b.operations k) ≡ true → (op : Operation) × (slice_get b.operations k ≡ Some op) × (k < size (planned_view b))
          × (x : ℕ) × ((operation_at (planned_view b) k).kind ≡ BankRead x)
      read_at k e =
          let op = some_operation (slice_get b.operations k) e in
          let is = reads op.0 (ap takes_word (sym op.1) ∙ e) in (
            op.0,
            op.1,
            subst (λ n. k < n) (sym (size-view b.operations)) (slice_get_within b.operations k op.0 op.1),
            is.0,
            ap (λ (z : PlannedOperation). z.kind) (listed_view b.operations k op.0 op.1) ∙ is.1,
          )

      -- its last state is the one behind that in which it starts
      last_of_read : (k x : ℕ) → (operation_at (planned_view b) k).kind ≡ BankRead x → last_state (planned_view b) (plan_view b p) k ≡ suc (slice_index p.starts k)
      last_of_read k x kind =
          ap (λ z. slice_index p.starts k + further_states z) kind ∙ (let next : slice_index p.starts k + 1 ≡ suc (slice_index p.starts k) = omega arith in next)

      in_plan : IsInPlan t.inside.slot b p m r q.state
      in_plan =
          let own = in_stage shape code plan m t served r o q b p inside.runs inside.state inside.shown in
          record {
            wide = own.wide;
            is = own.state;
            below = own.below;
            room = own.room;
            small = t.laid.slot.states_fit q.stage p inside.runs.planned_so;
            taken = λ k e.
                let read = read_at k e in
                subst (λ n. n < p.states) (last_of_read k read.3 read.4) (inside.runs.keeps.ends k read.2);
          }

      placed_here : Placed q.state
      placed_here l d u e f is =
          let same : l ≡ q.stage = sym is ∙ here_now in
          let one : d ≡ b = (let mine = inside.runs.listed in let its : slice_get code.stages q.stage ≡ Some (stage.Run d) = ap (slice_get code.stages) (sym same) ∙ e in cc) in
          let two : u ≡ p = (let mine = inside.runs.planned_so in let its : slice_get plan.stages q.stage ≡ Some (planned.Run u) = ap (slice_get plan.stages) (sym same) ∙ f in
          cc) in
          subst (λ (z : Block). IsInPlan t.inside.slot z u m r q.state) (sym one) (subst (λ (z : BlockPlan). IsInPlan t.inside.slot b z m r q.state) (sym two) in_plan)

      below_end : q.stage < length code.stages
      below_end = slice_get_within code.stages q.stage (stage.Run b) inside.runs.listed

      -- what the stages need is what the block needs
      stage_need : needs_in (slice_get code.stages q.stage) (slice_get plan.stages q.stage) q.state ≡ any_below (takes_at b p q.state)
          (length b.operations)
      stage_need =
          ap (λ k. needs_in k (slice_get plan.stages q.stage) q.state) inside.runs.listed
          ∙ ap (λ k. needs_in (Some (stage.Run b)) k q.state) inside.runs.planned_so

      -- WHERE A READ TAKES ITS WORD a core is needed
      pub taken_needs : (k x : ℕ) → k < size (planned_view b) → last_state (planned_view b) (plan_view b p) k ≡ q.state → (operation_at (planned_view b) k).kind ≡ BankRead x
          → r.signal t.inside.early.need ≡ 1
      taken_needs k x below last kind =
          let less : k < length b.operations = subst (λ n. k < n) (size-view b.operations) below in
          let op = get_there b.operations k less in
          let takes : takes_word (slice_get b.operations k) ≡ true =
          ap takes_word op.1 ∙ read_takes op.0 x (ap (λ (z : PlannedOperation). z.kind) (sym (listed_view b.operations k op.0 op.1)) ∙ kind) in
          let hit : takes_at b p q.state k ≡ true =
          and_from (takes_word (slice_get b.operations k)) (nat_eq q.state (suc (slice_index p.starts k))) takes
          (eq-eqb q.state (suc (slice_index p.starts k)) (sym last ∙ last_of_read k x kind)) in
          let at : at_stages q.state ≡ true =
          stage_needs q.state q.stage here_now below_end (stage_need ∙ some_tells (takes_at b p q.state) (length b.operations) k less hit) in
          (at_place q.state placed_here).shows
          ∙ ap (λ z. bit_of ((nat_eq now (length code.stages) || z) || any_below (λ k. true && asked_now k) (length asked))) at
          ∙ ap (λ z. bit_of (z || any_below (λ k. true && asked_now k) (length asked))) (or-true (nat_eq now (length code.stages)))
        where
          read_takes : (o : Operation) (x : ℕ) → (operation_view o).kind ≡ BankRead x → takes_word (Some o) ≡ true
          read_takes (Unary operator ty a) x e = absurd cc
          read_takes (Binary operator ty a b) x e = absurd (no_read operator _ x e)
          read_takes (ReadGlobal y n i) x e = refl
          read_takes (WriteGlobal y n i a) x e = absurd cc
          read_takes (ReadArray y n i) x e = absurd cc
          read_takes (WriteArray y n i a) x e = absurd cc

      -- IN A CLOSED STATE no core is needed
      pub closed_needs : IsClosed (planned_view b) (plan_view b p) q → ((n : ℕ) → n < wants_all → asked_now n ≡ false) → r.signal t.inside.early.need ≡ 0
      closed_needs closed quiet =
          let none : any_below (takes_at b p q.state) (length b.operations) ≡ false =
          none_below (takes_at b p q.state) (length b.operations)
          (λ k less. no_take k (takes_at b p q.state k) refl) in
          unneeded q.state q.stage placed_here here_now below_end (stage_need ∙ none) quiet
        where
          no_take : (k : ℕ) (c : Bool) → takes_at b p q.state k ≡ c → takes_at b p q.state k ≡ false
          no_take k false e = e
          no_take k true e =
              absurd
              (let two = and_parts (takes_word (slice_get b.operations k)) (nat_eq q.state (suc (slice_index p.starts k))) e in
              let read = read_at k two.0 in
              let last : last_state (planned_view b) (plan_view b p) k ≡ q.state = last_of_read k read.3 read.4 ∙ sym (eqb-true q.state (suc (slice_index p.starts k)) two.1) in
              closed.takes_none k read.3 read.2 last read.4)
