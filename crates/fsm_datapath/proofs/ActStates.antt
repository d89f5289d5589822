-- What a thread's module does at an act and past the last stage.
use Rattle.std.proofs.Common.{◌≡◌, ℕ, zero, suc, ◌+◌, ◌-◌, ◌%◌, ◌<◌, ◌≤◌, ◌^◌, Bool, true, false, not, ◌&&◌, ◌||◌, nat_eq, nat_lt, if◌then◌else◌, List, length, map}
use Rattle.std.proofs.Common.{slice_get, Option, Some, None, pos, refl, sym, ap, subst, ◌∙◌, arith}
use Rattle.std.proofs.Math.Nat.{mod-eq_of_lt}
use Rattle.std.proofs.lemmas.Option.{slice_get_within, get_or_from_slice_get}
use Rattle.std.proofs.Math.Bool.{and-false}
use Rattle.lists.proofs.Places.{get_there}
use Rattle.interleaving.specs.Memory.{Location}
use Rattle.hls_ints.specs.Residues.{residue_of, bit_of}
use Rattle.hls_ints.specs.Types.{IntegerType, HasType, width_of}
use Rattle.block_ir.specs.declared.code.ActOperand.{ActOperand}
use Rattle.block_ir.specs.declared.code.Act.{Act}
use Rattle.block_ir.specs.declared.code.Act.TheVariants.{Return}
use Rattle.block_ir.specs.declared.code.Array.{Array}
use Rattle.block_ir.specs.declared.code.Stage.{Stage}
use Rattle.block_ir.specs.declared.code.Stage.TheVariants as stage
use Rattle.block_ir.specs.declared.code.ThreadCode.{ThreadCode}
use Rattle.block_ir.specs.declared.plan.Planned.{Planned}
use Rattle.planned_block.specs.Slot.{Slot}
use Rattle.netlist.specs.declared.netlist.Module.{Module}
use Rattle.verilog_meaning.specs.Readings.{Reading, next_reading, word_after}
use Rattle.circuit.specs.Modules.{Obeys}
use Rattle.operator_wires.specs.Words.{resized_word}
use Rattle.thread_promise.specs.Globals.{bank_total}
use Rattle.thread_promise.specs.Slots.{element_at, ShowsData}
use Rattle.thread_promise.specs.Promise.{is_run, went_on}
use Rattle.block_datapath.specs.Chains.{next_number}
use Rattle.thread_slots.specs.declared.shape.Shape.{Shape}
use Rattle.thread_slots.specs.declared.stores.Store.{Store}
use Rattle.thread_slots.specs.Cells.{store_action, AreOff}
use Rattle.block_ir.specs.Asked.{act_value, Request as Call, request_of}
use Rattle.block_ir.specs.declared.service.Service.{Service}
use Rattle.thread_promise.specs.Moves.{asked_in, core_asked}
use Rattle.thread_slots.specs.Requests.{group}
use Rattle.thread_slots.specs.Services.{number_width, value_count}
use Rattle.thread_layout.specs.Fields.{IsTypedActOperand}
use Rattle.thread_layout.specs.Asking.{values_of}
use Rattle.thread_slots.specs.Wired.{field_width}
use Rattle.thread_layout.specs.Acts.{LeavesFor}
use Rattle.thread_layout.specs.Modules.{IsModule}
use Rattle.thread_layout.specs.Thread.{numbers_of, inputs_of, places_of, port_at, done_at, IsServed}
use Rattle.fsm_datapath.proofs.LeftStates.{act_leave, act_moved}
use Rattle.thread_layout.proofs.Cores.{HasService}
use Rattle.thread_layout.proofs.Placed.{stands_copies, from_inside, from_rest, fields_count, field_stands, done_stands}
use Rattle.thread_slots.proofs.PutStores.{off_stores}
use Rattle.thread_layout.proofs.RaisedAsks.{from_whole}
use Rattle.thread_layout.proofs.ActLinks.{leaves_later}
use Rattle.thread_layout.proofs.LostRequests.{unasked_not_lost}
use Rattle.thread_layout.proofs.Quiet.{ask_now, target, called}
use Rattle.thread_layout.proofs.RestingThread.{agrees_off, left_moves, marks_left}
use Rattle.thread_layout.proofs.Shown.{keeps_so}
use Rattle.thread_layout.proofs.Sight.{shown_last, waits_last, stored, all_stored, next_words, does, still, knows, stage_shown, sees_variables, enabled, next_stage, next_state, next_beat}
use Rattle.thread_layout.proofs.Sight.{next_variable, next_mark}

-- a number fits its port
cut : (w n : ℕ) → n < 2 ^ w → n % 2 ^ (w - 1 + 1) ≡ n
cut zero n less = mod-eq_of_lt (let one : n < 1 = less in omega arith)
cut (suc w) n less = let same : suc w - 1 + 1 ≡ suc w = omega arith in ap (λ k. n % 2 ^ k) same ∙ mod-eq_of_lt less

site_kept : (low : Bool) (w n : ℕ) → nat_lt w 32 ≡ low → n < 2 ^ w → resized_word false 32 w n ≡ n
site_kept true w n e less = rw e (cut w n less)
site_kept false w n e less = let f = and-false (nat_lt 32 w) in rw (e, f) refl

pub off_without_grant : (e : Bool) → bit_of (e && not (false || (true && not ((true && e) && false)))) ≡ 0
off_without_grant true = refl
off_without_grant false = refl

pub off_waiting : (e a g : Bool) → bit_of (e && not (true || (a && not ((a && e) && g)))) ≡ 0
off_waiting true a g = refl
off_waiting false a g = refl

pub off_moved : (e : Bool) → bit_of ((e && not (false || (true && not ((true && e) && false)))) || ((true && e) && false)) ≡ 0
off_moved true = refl
off_moved false = refl

pub still_waiting : (e g : Bool) → bit_of ((e && not (true || (false && not ((false && e) && g)))) || ((false && e) && g)) ≡ 0
still_waiting true g = refl
still_waiting false g = refl

module _ (shape : Shape) (code : ThreadCode) (plan : Planned) (m : Module) (t : IsModule shape code plan m) (served : IsServed shape code plan) where
  abbrev banks : ℕ
  banks = bank_total shape.spreads

  abbrev Shows : Reading → Slot → Type 0
  Shows = ShowsData shape.globals code (places_of (inputs_of shape) code plan)

  pub stays_off : (r : Reading) (q : Slot) → Obeys m r → Shows r q → r.signal t.edge.leave ≡ 0 → r.signal t.edge.moved ≡ 0 → Shows (next_reading m r) q
  stays_off r q o shows off still = keeps_so shape code plan m t served r (next_reading m r) q (agrees_off shape code plan m t served r o off still) shows

  -- the stores leave the arrays of a slot
  pub record HoldsArrays (r : Reading) (s : Slot) : Type 0 where
    pub words : (a i : ℕ) (array : Array) → slice_get code.arrays a ≡ Some array → i < array.length →
        (word_after r (map (store_action t.edge.leave) t.inside.stores) a i (r.word a i) ≡ residue_of (width_of array.ty) (s.arrays (element_at a i))) × HasType array.ty
        (s.arrays (element_at a i))
    pub outside : (a : ℕ) (array : Array) → slice_get code.arrays a ≡ Some array → s.arrays (element_at a array.length) ≡ pos 0

  -- where nothing is stored they stay
  pub arrays_stay : (r : Reading) (q s : Slot) → Obeys m r → Shows r q → AreOff r (stored shape code plan m t served).added → ((l : Location) → s.arrays l ≡ q.arrays l) →
      HoldsArrays r s
  arrays_stay r q s o shows off same = record {
    words = λ a i array listed less. (
      ap (λ (l : List Store). word_after r (map (store_action t.edge.leave) l) a i (r.word a i)) (all_stored shape code plan m t served)
          ∙ off_stores r t.edge.leave (stored shape code plan m t served).added a i (r.word a i) off ∙ shows.words a i array listed less
          ∙ ap (residue_of (width_of array.ty)) (sym (same (element_at a i))),
      subst (HasType array.ty) (sym (same (element_at a i))) (shows.typed_words a i array listed less),
    );
    outside = λ a array listed. same (element_at a array.length) ∙ shows.outside a array listed;
  }

  -- at an act nothing is
  pub act_off : (r : Reading) (q : Slot) (a : Act) (next : ℕ) → Obeys m r → Shows r q → slice_get code.stages q.stage ≡ Some (stage.Act a next)
      → AreOff r (stored shape code plan m t served).added
  act_off r q a next o shows listed =
      let inside = slice_get_within code.stages q.stage (stage.Act a next) listed in
      (stored shape code plan m t served).acts m r q.stage a next (from_inside shape code plan m t served) o (knows shape code plan m t served r o)
      (let z : length code.stages ≤ length code.stages = omega arith in z) inside listed (stage_shown shape code plan m t served r o q shows)

  pub shows_next : (r : Reading) (q s : Slot) (last : Bool) (o : Obeys m r) → Shows r q → r.signal 1 ≡ 1 → r.signal t.edge.leave ≡ 1 →
      r.signal t.inside.chains.is_last ≡ bit_of last
      → r.signal t.inside.chains.stage ≡ s.stage → (if last then 0 else (q.state + 1) % 2 ^ t.inside.slot.state.width) ≡ s.state → s.beat ≡ not q.beat
      → ((x : ℕ) (ty : IntegerType) → slice_get code.variables x ≡ Some ty → next_number r t.inside.chains.variables x ≡ residue_of (width_of ty) (s.variables x))
      → ((x : ℕ) (ty : IntegerType) → slice_get code.variables x ≡ Some ty → HasType ty (s.variables x)) → HoldsArrays r s → Shows (next_reading m r) s
  shows_next r q s last o shows enable on is_last stage_is state_is beat_is variables typed arrays =
      let moved = left_moves shape code plan m t served r o true enable on in
      record {
        stage = next_stage shape code plan m t served r o on ∙ stage_is;
        state =
            next_state shape code plan m t served r o on last is_last
            ∙ ap (λ n. if last then 0 else (n + 1) % 2 ^ t.inside.slot.state.width) shows.state ∙ state_is;
        beat = next_beat shape code plan m t served r o q.beat moved shows.beat ∙ ap bit_of (sym beat_is);
        variables = λ x ty declared. next_variable shape code plan m t served r o on x ty declared ∙ variables x ty declared;
        typed = typed;
        words = λ a i array listed less. next_words shape code plan m t served r o a i ∙ (arrays.words a i array listed less).0;
        typed_words = λ a i array listed less. (arrays.words a i array listed less).1;
        outside = arrays.outside;
        none_granted = λ none x less. next_mark shape code plan m t served r o x moved less ∙ marks_left shape code plan m t served r o true x enable on less;
      }

  -- an act that is left
  pub act_left : (r : Reading) (q : Slot) (target : ℕ) (o : Obeys m r) → Shows r q → AreOff r (stored shape code plan m t served).added → r.signal 1 ≡ 1 →
      r.signal t.edge.leave ≡ 1 →
      LeavesFor target false r t.laid.start t.inside.chains
      → Shows (next_reading m r) (went_on target q)
  act_left r q target o shows off enable on left =
      shows_next r q (went_on target q) true o shows enable on left.is_last left.stage refl refl
      (λ x ty declared.
      let v = sees_variables shape code plan m t served r o q shows x ty declared in
      left.variables x ∙ (still shape code plan m t served r o).variables x v.held v.listed ∙ v.shows)
      shows.typed (arrays_stay r q (went_on target q) o shows off (λ l. refl))

  -- ---- what a core is asked that acts ask

  run_of : (r : Reading) (q : Slot) (a : Act) (next : ℕ) → slice_get code.stages q.stage ≡ Some (stage.Act a next) → is_run (slice_get code.stages q.stage) ≡ false
  run_of r q a next listed = ap is_run listed

  module _ (s : Service) (k : ℕ) (own : HasService banks shape.served s k) where
    field_is : (r : Reading) (j : ℕ) → Obeys m r → j < suc (value_count shape.served s) → r.signal (port_at shape m k (suc j)) ≡ next_number r (group t.inside.early.requests s).fields j
    field_is r j o less =
        let fields = (group t.inside.early.requests s).fields in
        let long : length fields ≡ suc (value_count shape.served s) = fields_count shape code plan m t served s in
        let found = get_there fields j (subst (λ (n : ℕ). j < n) (sym long) less) in
        ap (λ z. r.signal (port_at shape m z (suc j))) own.at
        ∙ stands_copies m r (port_at shape m (banks + own.number) (suc j)) (field_width (number_width shape.served s) j) found.0 o
        (field_stands shape code plan m t served own.number s own.listed j found.0 found.1)
        ∙ ap r.signal (sym (get_or_from_slice_get fields j found.0 0 found.1))

  -- an act that asks core k
  module _ (r : Reading) (q : Slot) (a : Act) (next : ℕ) (call : Call) (k : ℕ) (o : Obeys m r) (shows : Shows r q)
      (listed : slice_get code.stages q.stage ≡ Some (stage.Act a next)) (is_call : request_of shape.is_main a ≡ Some call) (own : HasService banks shape.served call.service k) where
    start_fields : length (group t.laid.early.asked.start call.service).fields ≡ suc (value_count shape.served call.service)
    start_fields = t.laid.early.asked.begins.counts call.service

    pub number_is : call.number < 2 ^ number_width shape.served call.service → r.signal (port_at shape m k 1) ≡ call.number
    number_is fits =
        let some : 0 < suc (value_count shape.served call.service) = omega arith in
        field_is call.service k own r 0 o some
        ∙ (called shape code plan m t served r q o shows a next call listed is_call).number_is (subst (λ (n : ℕ). 0 < n) (sym start_fields) some)
        ∙ site_kept (nat_lt (number_width shape.served call.service) 32) (number_width shape.served call.service) call.number refl fits

    pub value_is : (j : ℕ) (v : ActOperand) → slice_get (values_of call.service call.operands) j ≡ Some v → IsTypedActOperand code v → j < value_count shape.served call.service
        → r.signal (port_at shape m k (suc (suc j))) ≡ residue_of 64 (act_value q.variables v)
    value_is j v there typed few =
        let less : suc j < suc (value_count shape.served call.service) = omega arith in
        field_is call.service k own r (suc j) o less
        ∙ (called shape code plan m t served r q o shows a next call listed is_call).values_are j v there typed (subst (λ (n : ℕ). suc j < n) (sym start_fields) less)

  pub returns_so : shape.is_main ≡ true → (r : Reading) (q : Slot) (next : ℕ) → Obeys m r → Shows r q → slice_get code.stages q.stage ≡ Some (stage.Act Return next) → r.signal 1 ≡ 1
      → Shows (next_reading m r) (went_on (length code.stages) q)
  returns_so main r q next o shows listed on =
      let asks_none : ask_now shape code plan m t served r q o shows ≡ None =
      ap (λ s. asked_in shape.is_main s q.variables) listed ∙ ap (λ b. asked_in b (Some (stage.Act Return next)) q.variables) main in
      let left =
      leaves_later (length code.stages) false r t.laid.start t.laid.rested t.inside.chains
      (shown_last shape code plan m t served r o (unasked_not_lost shape code plan m t served r q o shows asks_none))
      ((does shape code plan m t served q.stage (stage.Act Return next) listed).acts Return next refl m r (from_rest shape code plan m t served) o
      (knows shape code plan m t served r o) (still shape code plan m t served r o) (stage_shown shape code plan m t served r o q shows))
      in
      let nobody : target shape code plan m t served r q o shows ≡ None =
      ap (λ s. core_asked (numbers_of shape) (asked_in shape.is_main s q.variables)) listed
      ∙ ap (λ b. core_asked (numbers_of shape) (asked_in b (Some (stage.Act Return next)) q.variables)) main in
      act_left r q (length code.stages) o shows (act_off r q Return next o shows listed) on
      (act_leave shape code plan m t served r q o shows (run_of r q Return next listed) false false true false None nobody refl left.waits on) left

  pub done_so : (r : Reading) (q : Slot) → Obeys m r → Shows r q → r.signal (done_at shape m)
      ≡ bit_of (nat_eq q.stage (length code.stages))
  done_so r q o shows =
      stands_copies m r (done_at shape m) 1 t.inside.early.done o (done_stands shape code plan m t served)
      ∙ t.laid.early.asked.asks.done_is m r (from_whole shape code plan m t served) o (knows shape code plan m t served r o)
      ∙ ap (λ n. bit_of (nat_eq n (length code.stages))) (stage_shown shape code plan m t served r o q shows)

  -- past the last stage nothing follows
  none_there : (q : Slot) → q.stage ≡ length code.stages → slice_get code.stages q.stage ≡ None
  none_there q at = by (slice_get code.stages q.stage) refl
    where
      by : (s : Option Stage) → slice_get code.stages q.stage ≡ s → slice_get code.stages q.stage ≡ None
      by None e = e
      by (Some s) e = absurd (let less = slice_get_within code.stages q.stage s e in omega arith)

  pub ends_so : shape.is_main ≡ true → (r : Reading) (q : Slot) → Obeys m r → Shows r q → q.stage ≡ length code.stages → Shows (next_reading m r) q
  ends_so main r q o shows at =
      let here = stage_shown shape code plan m t served r o q shows ∙ at in
      let none = none_there q at in
      let waits =
      waits_last shape code plan m t served r o true false
      (t.laid.walks.stays main m r (from_rest shape code plan m t served) o t.laid.begins.bits (knows shape code plan m t served r o)
      (still shape code plan m t served r o) here)
      (unasked_not_lost shape code plan m t served r q o shows (ap (λ s. asked_in shape.is_main s q.variables) none))
      in
      let e = enabled shape code plan m t served r o in
      let nobody : target shape code plan m t served r q o shows ≡ None = ap (λ s. core_asked (numbers_of shape) (asked_in shape.is_main s q.variables)) none in
      stays_off r q o shows
      (act_leave shape code plan m t served r q o shows (ap is_run none) true false e.0 false None nobody refl waits e.1 ∙ off_waiting e.0 false false)
      (act_moved shape code plan m t served r q o shows (ap is_run none) true false e.0 false None nobody refl waits e.1 ∙ still_waiting e.0 false)
