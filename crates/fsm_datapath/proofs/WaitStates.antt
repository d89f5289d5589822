-- What a thread's module does where it meets others, and where it rests.
use Rattle.std.proofs.Common.{◌≡◌, ℕ, suc, ◌+◌, ◌<◌, ◌≤◌, ◌^◌, Bool, true, false, not, ◌&&◌}
use Rattle.std.proofs.Common.{nat_eq, if◌then◌else◌, min, List, [], ◌∷◌, length, slice_get, slice_index, Option, Some, None, pos}
use Rattle.std.proofs.Common.{refl, sym, ap, subst, ◌∙◌, arith}
use Rattle.std.proofs.Math.Nat.{mod-eq_of_lt}
use Rattle.std.proofs.lemmas.Option.{slice_get_within}
use Rattle.std.proofs.lemmas.Bool.{eq-eqb, ne_eqb, eqb-true}
use Rattle.hls_ints.specs.Residues.{residue_of, bit_of}
use Rattle.hls_ints.specs.Types.{IntegerType, HasType, width_of, long_int, wrapped}
use Rattle.hls_ints.specs.Words.{signed_word}
use Rattle.hls_ints.proofs.Conversions.{wrapped-range, residue_of-wrapped}
use Rattle.planned_block.specs.Advance.{any_below}
use Rattle.planned_block.specs.Slot.{Slot}
use Rattle.block_ir.specs.declared.code.Act.{Act}
use Rattle.block_ir.specs.declared.code.Act.TheVariants.{BarrierWait}
use Rattle.block_ir.specs.declared.code.ActOperand.{ActOperand}
use Rattle.block_ir.specs.declared.code.Stage.{Stage}
use Rattle.block_ir.specs.declared.code.Stage.TheVariants as stage
use Rattle.block_ir.specs.declared.code.ThreadCode.{ThreadCode}
use Rattle.block_ir.specs.declared.plan.Planned.{Planned}
use Rattle.block_ir.specs.Asked.{barrier_core, thread_ids_core, act_value}
use Rattle.block_ir.specs.declared.service.Service.TheVariants.{Barrier}
use Rattle.netlist.specs.declared.netlist.Module.{Module}
use Rattle.verilog_meaning.specs.Readings.{Reading, next_reading}
use Rattle.circuit.specs.Modules.{Obeys}
use Rattle.thread_promise.specs.Moves.{meeting, is_variable, set_out, asked_in, core_asked}
use Rattle.thread_promise.specs.Promise.{is_run, went_on}
use Rattle.block_datapath.specs.Chains.{next_number}
use Rattle.thread_slots.specs.declared.shape.Shape.{Shape}
use Rattle.thread_slots.specs.Bits.{HasBit, HaveBits}
use Rattle.thread_slots.specs.Cells.{AreOff}
use Rattle.thread_slots.specs.Links.{ShowSame}
use Rattle.thread_layout.specs.Asking.{call_of}
use Rattle.thread_layout.specs.Acts.{LeavesFor, SetsOut}
use Rattle.thread_layout.proofs.ActLinks.{leaves_later}
use Rattle.thread_layout.specs.Leaf.{served_ports}
use Rattle.thread_layout.specs.Modules.{IsModule}
use Rattle.thread_layout.specs.Telling.{heard_place}
use Rattle.thread_layout.specs.Thread.{numbers_of, IsServed}
use Rattle.thread_layout.proofs.LostRequests.{unasked_not_lost}
use Rattle.thread_layout.proofs.Needed.{meeting_needs, end_needs}
use Rattle.thread_layout.proofs.News.{news_input, bar_told, thread_ids_told, HasNews, news_held, news_shown, news_bit}
use Rattle.thread_layout.proofs.Opened.{from_acts, has_object}
use Rattle.thread_layout.proofs.Placed.{stands_fits, from_inside, from_rest, from_told}
use Rattle.thread_layout.proofs.Quiet.{ask_now, target, from_start as first_later}
use Rattle.thread_layout.proofs.RaisedAsks.{from_whole}
use Rattle.thread_layout.proofs.Shown.{Shows}
use Rattle.thread_layout.proofs.Sight.{shown_last, waits_last, stored, does, still, knows, stage_shown, sees_variables, enabled}
use Rattle.thread_layout.proofs.Tellings.{bar_wide, run_wide, argument_wide}
use Rattle.fsm_datapath.proofs.LeftStates.{only_one, act_leave, act_moved}
use Rattle.fsm_datapath.proofs.ActStates.{stays_off, arrays_stay, shows_next, act_left, off_waiting, still_waiting}

-- ---- the argument

argument_typed : (a : ℕ) → HasType long_int (signed_word 64 a)
unfolding wrapped residue_of
argument_typed a = wrapped-range long_int (pos a)

argument_word : (a : ℕ) → a < 2 ^ 64 → residue_of 64 (signed_word 64 a) ≡ a
unfolding wrapped residue_of
argument_word a less = residue_of-wrapped long_int (pos a) ∙ mod-eq_of_lt less

bit_is : (b c : Bool) (n : ℕ) → n ≡ bit_of b → n ≡ bit_of c → b ≡ c
bit_is true true n e f = refl
bit_is true false n e f = absurd (let same : 1 ≡ 0 = sym e ∙ f in cc)
bit_is false true n e f = absurd (let same : 0 ≡ 1 = sym e ∙ f in cc)
bit_is false false n e f = refl

which_variable : (argument : Option ℕ) (x : ℕ) → is_variable argument x ≡ true → argument ≡ Some x
which_variable None x e = absurd cc
which_variable (Some y) x e = ap Some (sym (eqb-true x y e))

module _ (shape : Shape) (code : ThreadCode) (plan : Planned) (m : Module) (t : IsModule shape code plan m) (served : IsServed shape code plan) where
  abbrev rest : ℕ
  rest = length code.stages

  module _ (r : Reading) (q : Slot) (o : Obeys m r) (shows : Shows shape code plan m t served r q) (past : rest ≤ q.stage) where
    nothing_there : slice_get code.stages q.stage ≡ None
    nothing_there = by (slice_get code.stages q.stage) refl
      where
        by : (s : Option Stage) → slice_get code.stages q.stage ≡ s → slice_get code.stages q.stage ≡ None
        by None e = e
        by (Some s) e = absurd (let less = slice_get_within code.stages q.stage s e in omega arith)

    here : r.signal t.inside.slot.stage.register ≡ q.stage
    here = stage_shown shape code plan m t served r o q shows

    asks_nobody : ask_now shape code plan m t served r q o shows ≡ None
    asks_nobody = ap (λ s. asked_in shape.is_main s q.variables) nothing_there

    nobody : target shape code plan m t served r q o shows ≡ None
    nobody = ap (core_asked (numbers_of shape)) asks_nobody

    not_lost : r.signal t.inside.early.lost ≡ 0
    not_lost = unasked_not_lost shape code plan m t served r q o shows asks_nobody

    unlost : ShowSame r t.laid.rested t.inside.chains
    unlost = shown_last shape code plan m t served r o not_lost

    no_run : is_run (slice_get code.stages q.stage) ≡ false
    no_run = ap is_run nothing_there

    -- nothing is stored
    off : AreOff r (stored shape code plan m t served).added
    off =
        (stored shape code plan m t served).still m r (from_inside shape code plan m t served) o (knows shape code plan m t served r o)
        (let z : rest ≤ rest = omega arith in z) (λ k less is. absurd (let same : q.stage ≡ k = sym here ∙ is in omega arith))

    -- whoever waits stays
    pub waits_on : r.signal t.laid.rested.waits ≡ 1 → Shows shape code plan m t served (next_reading m r) q
    waits_on held =
        let e = enabled shape code plan m t served r o in
        let waits = waits_last shape code plan m t served r o true false held not_lost in
        stays_off shape code plan m t served r q o shows
        (act_leave shape code plan m t served r q o shows no_run true false e.0 false None nobody refl waits e.1 ∙ off_waiting e.0 false false)
        (act_moved shape code plan m t served r q o shows no_run true false e.0 false None nobody refl waits e.1 ∙ still_waiting e.0 false)

    -- and whoever does not leaves
    pub leaves_now : r.signal 1 ≡ 1 → r.signal t.inside.chains.waits ≡ 0 → r.signal t.edge.leave ≡ 1
    leaves_now on goes = act_leave shape code plan m t served r q o shows no_run false false true false None nobody refl goes on

  -- ---- a meeting

  module _ (r : Reading) (q : Slot) (l next n : ℕ) (b : ActOperand) (o : Obeys m r) (shows : Shows shape code plan m t served r q) (at : q.stage ≡ meeting rest l)
      (listed : slice_get code.stages l ≡ Some (stage.Act (BarrierWait b) next)) (names : residue_of 64 (act_value q.variables b) ≡ n) (inside : n < shape.served.barriers) where
    behind : rest ≤ q.stage
    behind = let is = at in omega arith

    meets_here : r.signal t.inside.slot.stage.register ≡ meeting rest l
    meets_here = stage_shown shape code plan m t served r o q shows ∙ at

    below : l < rest
    below = slice_get_within code.stages l (stage.Act (BarrierWait b) next) listed

    needed : r.signal t.inside.early.need ≡ 1
    needed = meeting_needs shape code plan m t served r o l (stage.Act (BarrierWait b) next) listed refl meets_here

    -- the barrier is named
    named : r.signal t.inside.early.requests.barrier.object ≡ n
    named =
        ((t.laid.early.asked.asks.beyond m r (from_whole shape code plan m t served) o t.laid.early.asked.begins.bits (knows shape code plan m t served r o)
        (λ k less is. absurd (let same : meeting rest l ≡ k = sym meets_here ∙ is in omega arith))).requests Barrier).object
        ∙ t.laid.early.asked.met l (stage.Act (BarrierWait b) next) below listed b next refl m r q.variables
        (first_later shape code plan m t served) o (knows shape code plan m t served r o) meets_here (sees_variables shape code plan m t served r o q shows)
        (served.typed l (BarrierWait b) next (call_of Barrier 1 (b ∷ [])) listed refl 0 b refl)
        ∙ names

    -- of each barrier what it tells
    told_of : (k : ℕ) → k < shape.served.barriers → (c : Bool) × (r.signal (news_input shape code plan m t served k) ≡ bit_of c) × HasBit m r (heard_place t.inside.news k) c
    told_of k less = news_bit shape code plan m t served r o needed k (news_held shape code plan m t served k 1 (bar_wide shape.served k less))

    abbrev holds : ℕ → Bool
    holds k = nat_eq (r.signal (news_input shape code plan m t served k)) 1

    hold_is : (k : ℕ) → k < shape.served.barriers → HasBit m r (heard_place t.inside.news k) (holds k)
    hold_is k less = subst (HasBit m r (heard_place t.inside.news k)) (test (told_of k less).0 (told_of k less).1) (told_of k less).2
      where
        test : (c : Bool) → r.signal (news_input shape code plan m t served k) ≡ bit_of c → c ≡ nat_eq (r.signal (news_input shape code plan m t served k)) 1
        test true e = sym (ap (λ z. nat_eq z 1) e)
        test false e = sym (ap (λ z. nat_eq z 1) e)

    bars : length t.inside.early.barriers ≡ shape.served.barriers
    bars = ap length t.laid.early.barriers_are ∙ t.laid.early.opens_acts.barriers_count

    names_are : HaveBits m r t.inside.early.barriers (length t.inside.early.barriers) (λ k. nat_eq n k)
    names_are k less =
        let own =
        t.laid.early.opens_acts.names m r (from_acts shape code plan m t served) o (has_object shape code plan m t served r Barrier o) k (subst (λ z. k < z) bars less) in
        subst (λ z. HasBit m r z (nat_eq n k)) (sym (ap (λ (y : List ℕ). slice_index y k) t.laid.early.barriers_are))
        (subst (λ z. HasBit m r (slice_index t.laid.early.acts.barriers k) (nat_eq z k)) named own)

    barred : HasBit m r t.laid.acts.barred (holds n)
    barred =
        subst (HasBit m r t.laid.acts.barred) (ap (any_below (λ k. nat_eq n k && holds k)) bars ∙ one ∙ ap (λ z. z && holds n) (eq-eqb n n refl))
        (t.laid.tells.barred m r (λ k. nat_eq n k) holds (from_told shape code plan m t served) o names_are (λ k less. hold_is k (subst (λ z. k < z) bars less)))
      where
        one : any_below (λ k. nat_eq n k && holds k) shape.served.barriers ≡ (nat_eq n n && holds n)
        one =
            only_one (λ k. nat_eq n k && holds k) shape.served.barriers n inside
            (λ k less ne. ap (λ z. z && holds k) (ne_eqb n k (λ same. ne (sym same))))

    leads : LeavesFor (min next rest) (holds n) r t.laid.start t.laid.rested
    leads =
        (does shape code plan m t served l (stage.Act (BarrierWait b) next) listed).meets b next refl m r (holds n) (from_rest shape code plan m t served) o
        (knows shape code plan m t served r o) (still shape code plan m t served r o) meets_here barred

    -- WHO MEETS waits while the barrier says so
    pub waits_so : (r.signal (((served_ports shape m).core (barrier_core (numbers_of shape) n)).told 0) ≡ 1 → Shows shape code plan m t served (next_reading m r) q)
        × (r.signal 1 ≡ 1 → r.signal (((served_ports shape m).core (barrier_core (numbers_of shape) n)).told 0) ≡ 0
        → Shows shape code plan m t served (next_reading m r) (went_on next q))
    waits_so = (
      λ held.
          waits_on r q o shows behind
          (leads.waits ∙ ap (λ z. bit_of (nat_eq z 1)) (ap r.signal (sym (bar_told shape code plan m t served n inside)) ∙ held)),
      λ on free.
          let goes : holds n ≡ false = ap (λ z. nat_eq z 1) (ap r.signal (sym (bar_told shape code plan m t served n inside)) ∙ free) in
          let least : min next rest ≡ next = (let le = served.leads l (BarrierWait b) next listed (λ e. absurd cc) in omega arith) in
          let left =
          leaves_later next false r t.laid.start t.laid.rested t.inside.chains (unlost r q o shows behind)
          (subst (λ z. LeavesFor next z r t.laid.start t.laid.rested) goes (subst (λ z. LeavesFor z (holds n) r t.laid.start t.laid.rested) least leads)) in
          act_left shape code plan m t served r q next o shows (off r q o shows behind) on (leaves_now r q o shows behind on left.waits) left,
    )

  -- ---- the rest of another thread

  module _ (other : shape.is_main ≡ false) (thread_ids : shape.served.thread_ids ≡ true) (r : Reading) (q : Slot) (o : Obeys m r) (shows : Shows shape code plan m t served r q)
      (at : q.stage ≡ rest) where
    ended : rest ≤ q.stage
    ended = let is = at in omega arith

    rests_here : r.signal t.inside.slot.stage.register ≡ rest
    rests_here = stage_shown shape code plan m t served r o q shows ∙ at

    end_needed : r.signal t.inside.early.need ≡ 1
    end_needed = end_needs shape code plan m t served r o rests_here

    runs_news : HasNews shape code plan m t served shape.served.barriers 1
    runs_news = news_held shape code plan m t served shape.served.barriers 1 (run_wide shape.served thread_ids)

    argument_news : HasNews shape code plan m t served (suc shape.served.barriers) 64
    argument_news = news_held shape code plan m t served (suc shape.served.barriers) 64 (argument_wide shape.served thread_ids)

    runs_bit : (c : Bool) × (r.signal (news_input shape code plan m t served shape.served.barriers) ≡ bit_of c) × HasBit m r t.laid.acts.runs c
    runs_bit =
        let own = news_bit shape code plan m t served r o end_needed shape.served.barriers runs_news in
        (own.0, own.1, subst (λ z. HasBit m r z own.0) (sym (t.laid.tells.runs thread_ids)) own.2)

    sets : SetsOut code.argument t.laid.acts runs_bit.0 r t.laid.start t.laid.rested
    sets =
        t.laid.walks.begins other m r runs_bit.0 (from_rest shape code plan m t served) o t.laid.begins.bits (knows shape code plan m t served r o)
        (still shape code plan m t served r o) rests_here runs_bit.2

    runs_told : r.signal (((served_ports shape m).core (thread_ids_core (numbers_of shape))).told 0) ≡ bit_of runs_bit.0
    runs_told =
        ap r.signal (thread_ids_told shape code plan m t served 0) ∙ ap (λ z. r.signal (news_input shape code plan m t served z))
        (let z : shape.served.barriers + 0 ≡ shape.served.barriers = omega arith in z)
        ∙ runs_bit.1

    pub idles_so : r.signal (((served_ports shape m).core (thread_ids_core (numbers_of shape))).told 0) ≡ 0 → Shows shape code plan m t served (next_reading m r) q
    idles_so idle =
        let stays : runs_bit.0 ≡ false = bit_is runs_bit.0 false _ runs_told idle in
        waits_on r q o shows ended (sets.waits ∙ ap (λ z. bit_of (not z)) stays)

    argument_told : r.signal t.laid.acts.argument ≡ r.signal (((served_ports shape m).core (thread_ids_core (numbers_of shape))).told 1)
    argument_told =
        ap r.signal (t.laid.tells.argument thread_ids) ∙ news_shown shape code plan m t served r o end_needed (suc shape.served.barriers) 64 argument_news
        ∙ ap (λ z. r.signal (news_input shape code plan m t served z)) (let z : suc shape.served.barriers ≡ shape.served.barriers + 1 = omega arith in z)
        ∙ ap r.signal (sym (thread_ids_told shape code plan m t served 1))

    argument_fits : r.signal (((served_ports shape m).core (thread_ids_core (numbers_of shape))).told 1) < 2 ^ 64
    argument_fits =
        subst (λ z. r.signal z < 2 ^ 64)
        (ap (news_input shape code plan m t served) (let z : suc shape.served.barriers ≡ shape.served.barriers + 1 = omega arith in z) ∙ sym (thread_ids_told shape code plan m t served 1))
        (stands_fits m r (news_input shape code plan m t served (suc shape.served.barriers)) 64 _ o argument_news.stands)

    -- WHO RUNS sets out, with the argument
    pub begins_so : r.signal 1 ≡ 1 → r.signal (((served_ports shape m).core (thread_ids_core (numbers_of shape))).told 0) ≡ 1
        → Shows shape code plan m t served (next_reading m r) (set_out code.argument (r.signal (((served_ports shape m).core (thread_ids_core (numbers_of shape))).told 1)) q)
    begins_so on run =
        let a = r.signal (((served_ports shape m).core (thread_ids_core (numbers_of shape))).told 1) in
        let goes : runs_bit.0 ≡ true = bit_is runs_bit.0 true _ runs_told run in
        let same = unlost r q o shows ended in
        let next : Slot = set_out code.argument a q in
        let waits : r.signal t.inside.chains.waits ≡ 0 = same.waits false (sets.waits ∙ ap (λ z. bit_of (not z)) goes) in
        shows_next shape code plan m t served r q next true o shows on (leaves_now r q o shows ended on waits) (same.is_last true sets.is_last) (same.stage ∙ sets.stage) refl refl
        (λ x ty declared. by_variable a x ty declared (is_variable code.argument x) refl)
        (λ x ty declared. by_type a x ty declared (is_variable code.argument x) refl)
        (arrays_stay shape code plan m t served r q next o shows (off r q o shows ended) (λ l. refl))
      where
        declared_so : (x : ℕ) (ty : IntegerType) → slice_get code.variables x ≡ Some ty → is_variable code.argument x ≡ true → long_int ≡ ty
        declared_so x ty declared is = (let own = served.argument other x (which_variable code.argument x is) in cc)

        by_type : (a x : ℕ) (ty : IntegerType) → slice_get code.variables x ≡ Some ty → (is : Bool) → is_variable code.argument x ≡ is
            → HasType ty (if is_variable code.argument x then signed_word 64 a else q.variables x)
        by_type a x ty declared true is =
            subst (λ (z : Bool). HasType ty (if z then signed_word 64 a else q.variables x)) (sym is)
            (subst (λ (z : IntegerType). HasType z (signed_word 64 a)) (declared_so x ty declared is) (argument_typed a))
        by_type a x ty declared false is =
            subst (λ (z : Bool). HasType ty (if z then signed_word 64 a else q.variables x)) (sym is) (shows.typed x ty declared)

        in_start : (x : ℕ) (ty : IntegerType) → slice_get code.variables x ≡ Some ty → x < length t.laid.start.variables
        in_start x ty declared =
            subst (λ n. x < n) (sym (t.laid.begins.variables ∙ t.laid.slot.variables_count)) (slice_get_within code.variables x ty declared)

        by_variable : (a x : ℕ) (ty : IntegerType) → slice_get code.variables x ≡ Some ty → (is : Bool) → is_variable code.argument x ≡ is
            → next_number r t.inside.chains.variables x
            ≡ residue_of (width_of ty)
            (if is_variable code.argument x then signed_word 64 (r.signal (((served_ports shape m).core (thread_ids_core (numbers_of shape))).told 1)) else q.variables x)
        by_variable a x ty declared true is =
            let told = r.signal (((served_ports shape m).core (thread_ids_core (numbers_of shape))).told 1) in
            let less : x < length t.laid.start.variables = in_start x ty declared in
            (unlost r q o shows ended).variables x ∙ sets.variables x less ∙ ap (λ z. if z then r.signal t.laid.acts.argument else next_number r t.laid.start.variables x) is
            ∙ argument_told ∙ sym (argument_word told argument_fits) ∙ ap (λ (z : IntegerType). residue_of (width_of z) (signed_word 64 told)) (declared_so x ty declared is)
            ∙ ap (λ z. residue_of (width_of ty) (if z then signed_word 64 told else q.variables x)) (sym is)
        by_variable a x ty declared false is =
            let told = r.signal (((served_ports shape m).core (thread_ids_core (numbers_of shape))).told 1) in
            let v = sees_variables shape code plan m t served r o q shows x ty declared in
            let less : x < length t.laid.start.variables = in_start x ty declared in
            (unlost r q o shows ended).variables x ∙ sets.variables x less ∙ ap (λ z. if z then r.signal t.laid.acts.argument else next_number r t.laid.start.variables x) is
            ∙ (still shape code plan m t served r o).variables x v.held v.listed ∙ v.shows
            ∙ ap (λ z. residue_of (width_of ty) (if z then signed_word 64 told else q.variables x)) (sym is)
