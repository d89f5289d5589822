-- An act asks the core of its object, and goes on when that grants; an act whose object has no core stays.
use Rattle.std.proofs.Common.{◌≡◌, ℕ, zero, suc, ◌+◌, ◌<◌, ◌≤◌, ◌^◌, Bool, true, false, ◌&&◌, min, List, [], ◌∷◌, length, slice_get, Option, Some, None, ℤ}
use Rattle.std.proofs.Common.{refl, sym, ap, subst, ◌∙◌, arith}
use Rattle.std.proofs.lemmas.Option.{slice_get_within}
use Rattle.std.proofs.lemmas.Bool.{eq-eqb}
use Rattle.hls_ints.specs.Residues.{residue_of, bit_of}
use Rattle.block_ir.specs.declared.code.Act.{Act}
use Rattle.block_ir.specs.declared.code.Act.TheVariants as act
use Rattle.block_ir.specs.declared.code.ActOperand.{ActOperand}
use Rattle.block_ir.specs.declared.code.Stage.{Stage}
use Rattle.block_ir.specs.declared.code.Stage.TheVariants as stage
use Rattle.block_ir.specs.declared.code.ThreadCode.{ThreadCode}
use Rattle.block_ir.specs.declared.plan.Planned.{Planned}
use Rattle.block_ir.specs.Asked.{act_value, Request as Call, Asked, request_of, operand_words, asked_with, value_of, asked_at}
use Rattle.block_ir.specs.declared.service.Service.{Service}
use Rattle.block_ir.specs.declared.service.Service.TheVariants.{Mutex, Barrier, ThreadIds, Printer}
use Rattle.planned_block.specs.Slot.{Slot}
use Rattle.netlist.specs.declared.netlist.Module.{Module}
use Rattle.verilog_meaning.specs.Readings.{Reading, next_reading}
use Rattle.circuit.specs.Modules.{Obeys}
use Rattle.thread_promise.specs.Globals.{bank_total}
use Rattle.thread_promise.specs.Moves.{stage_after, asked_in, core_asked}
use Rattle.thread_promise.specs.Promise.{is_run, went_on}
use Rattle.thread_promise.specs.Serving.{AsksCore}
use Rattle.thread_slots.specs.declared.shape.Served.{Served}
use Rattle.thread_slots.specs.declared.shape.Shape.{Shape}
use Rattle.thread_slots.specs.Services.{number_width, value_count}
use Rattle.thread_layout.specs.Asking.{call_of, values_of}
use Rattle.thread_layout.specs.Acts.{LeavesFor}
use Rattle.thread_layout.proofs.ActLinks.{leaves_later}
use Rattle.thread_layout.specs.Leaf.{served_ports}
use Rattle.thread_layout.specs.Modules.{IsModule}
use Rattle.thread_layout.specs.Thread.{numbers_of, cores_of, is_core, IsServed}
use Rattle.thread_layout.proofs.Cores.{HasService, service_there}
use Rattle.thread_layout.proofs.LostRequests.{found_not_lost, lost_there}
use Rattle.thread_layout.proofs.Placed.{from_rest}
use Rattle.thread_layout.proofs.Quiet.{target, service_kept}
use Rattle.thread_layout.proofs.Shown.{Shows}
use Rattle.thread_layout.proofs.Sight.{shown_last, waits_last, does, still, knows, stage_shown, enabled}
use Rattle.fsm_datapath.proofs.LeftStates.{IsTarget, act_leave, act_moved}
use Rattle.fsm_datapath.proofs.ActStates.{act_left, act_off, number_is, value_is, stays_off, off_without_grant, off_moved, off_waiting, still_waiting}
use Rattle.fsm_datapath.proofs.Targets.{target_within}
use Rattle.fsm_datapath.proofs.Unasked.{asked_as}

-- ---- what a call says

-- the number and the values of a call have ports
pub record Fits (served : Served) (call : Call) : Type 0 where
  pub number : call.number < 2 ^ number_width served call.service
  pub values : length (values_of call.service call.operands) ≤ value_count served call.service

call_fits : (served : Served) (main : Bool) (a : Act) (call : Call) → request_of main a ≡ Some call
    → ((site : ℕ) (values : List ActOperand) → a ≡ act.Print site values → Fits served (call_of Printer site values)) → Fits served call
call_fits served main (act.Print site values) call e prints = let same : call_of Printer site values ≡ call = cc in subst (Fits served) same (prints site values refl)
call_fits served main (act.Create thread argument) call e prints =
    let same : call_of ThreadIds 0 (thread ∷ argument ∷ []) ≡ call = cc in subst (Fits served) same (record { number = omega arith; values = omega arith })
call_fits served main (act.Join thread) call e prints =
    let same : call_of ThreadIds 1 (thread ∷ []) ≡ call = cc in subst (Fits served) same (record { number = omega arith; values = omega arith })
call_fits served main (act.MutexInit mutex) call e prints =
    let same : call_of Mutex 0 (mutex ∷ []) ≡ call = cc in subst (Fits served) same (record { number = omega arith; values = omega arith })
call_fits served main (act.MutexLock mutex) call e prints =
    let same : call_of Mutex 1 (mutex ∷ []) ≡ call = cc in subst (Fits served) same (record { number = omega arith; values = omega arith })
call_fits served main (act.MutexUnlock mutex) call e prints =
    let same : call_of Mutex 2 (mutex ∷ []) ≡ call = cc in subst (Fits served) same (record { number = omega arith; values = omega arith })
call_fits served main (act.MutexDestroy mutex) call e prints =
    let same : call_of Mutex 3 (mutex ∷ []) ≡ call = cc in subst (Fits served) same (record { number = omega arith; values = omega arith })
call_fits served main (act.BarrierInit barrier count) call e prints =
    let same : call_of Barrier 0 (barrier ∷ count ∷ []) ≡ call = cc in subst (Fits served) same (record { number = omega arith; values = omega arith })
call_fits served main (act.BarrierWait barrier) call e prints =
    let same : call_of Barrier 1 (barrier ∷ []) ≡ call = cc in subst (Fits served) same (record { number = omega arith; values = omega arith })
call_fits served main (act.BarrierDestroy barrier) call e prints =
    let same : call_of Barrier 2 (barrier ∷ []) ≡ call = cc in subst (Fits served) same (record { number = omega arith; values = omega arith })
call_fits served true act.Return call e prints = absurd cc
call_fits served false act.Return call e prints = let same : call_of ThreadIds 2 [] ≡ call = cc in subst (Fits served) same (record { number = omega arith; values = omega arith })

number_kept : (s : Service) (number : ℕ) (ws : List ℕ) → (asked_with s number ws).number ≡ number
number_kept Mutex number ws = refl
number_kept Barrier number ws = refl
number_kept ThreadIds number ws = refl
number_kept Printer number ws = refl

-- a word is that of an operand
abbrev Back : (ℕ → ℤ) → List ActOperand → ℕ → ℕ → Type 0
Back variables os j w = (v : ActOperand) × (slice_get os j ≡ Some v) × (w ≡ residue_of 64 (act_value variables v))

words_back : (variables : ℕ → ℤ) (os : List ActOperand) (j w : ℕ) → slice_get (operand_words variables os) j ≡ Some w → Back variables os j w
words_back variables [] j w e = absurd cc
words_back variables (o ∷ os) zero w e = let same : residue_of 64 (act_value variables o) ≡ w = cc in (o, refl, sym same)
words_back variables (o ∷ os) (suc j) w e = words_back variables os j w e

value_back : (variables : ℕ → ℤ) (s : Service) (number : ℕ) (os : List ActOperand) (j w : ℕ) → slice_get (asked_with s number (operand_words variables os)).values j ≡ Some w
    → Back variables (values_of s os) j w
value_back variables Mutex number [] j w e = absurd cc
value_back variables Mutex number (o ∷ os) j w e = words_back variables os j w e
value_back variables Barrier number [] j w e = absurd cc
value_back variables Barrier number (o ∷ os) j w e = words_back variables os j w e
value_back variables ThreadIds number os j w e = words_back variables os j w e
value_back variables Printer number os j w e = words_back variables os j w e

-- the values are among the operands
among : (s : Service) (os : List ActOperand) (j : ℕ) (v : ActOperand) → slice_get (values_of s os) j ≡ Some v → (i : ℕ) × (slice_get os i ≡ Some v)
among Mutex [] j v e = absurd cc
among Mutex (o ∷ os) j v e = (suc j, e)
among Barrier [] j v e = absurd cc
among Barrier (o ∷ os) j v e = (suc j, e)
among ThreadIds os j v e = (j, e)
among Printer os j v e = (j, e)

-- ---- where an act leads

to_stage : (n l next : ℕ) (a : Act) → ((a ≡ act.Return → ⊥) → next ≤ n) → stage_after n l a (min next n) ≡ stage_after n l a next
to_stage n l next act.Return le = refl
to_stage n l next (act.BarrierWait barrier) le = refl
to_stage n l next (act.Print site values) le = let h = le (λ e. absurd cc) in omega arith
to_stage n l next (act.Create thread argument) le = let h = le (λ e. absurd cc) in omega arith
to_stage n l next (act.Join thread) le = let h = le (λ e. absurd cc) in omega arith
to_stage n l next (act.MutexInit mutex) le = let h = le (λ e. absurd cc) in omega arith
to_stage n l next (act.MutexLock mutex) le = let h = le (λ e. absurd cc) in omega arith
to_stage n l next (act.MutexUnlock mutex) le = let h = le (λ e. absurd cc) in omega arith
to_stage n l next (act.MutexDestroy mutex) le = let h = le (λ e. absurd cc) in omega arith
to_stage n l next (act.BarrierInit barrier count) le = let h = le (λ e. absurd cc) in omega arith
to_stage n l next (act.BarrierDestroy barrier) le = let h = le (λ e. absurd cc) in omega arith

module _ (shape : Shape) (code : ThreadCode) (plan : Planned) (m : Module) (t : IsModule shape code plan m) (served : IsServed shape code plan) where
  abbrev banks : ℕ
  banks = bank_total shape.spreads

  abbrev rest : ℕ
  rest = length code.stages

  abbrev asks_now : Slot → Option Asked
  asks_now q = asked_in shape.is_main (slice_get code.stages q.stage) q.variables

  module _ (r : Reading) (q : Slot) (a : Act) (next : ℕ) (o : Obeys m r) (shows : Shows shape code plan m t served r q)
      (listed : slice_get code.stages q.stage ≡ Some (stage.Act a next)) where
    here : r.signal t.inside.slot.stage.register ≡ q.stage
    here = stage_shown shape code plan m t served r o q shows

    not_so : is_run (slice_get code.stages q.stage) ≡ false
    not_so = ap is_run listed

    -- the links before the last one
    leads : LeavesFor (stage_after rest q.stage a (min next rest)) false r t.laid.start t.laid.rested
    leads =
        (does shape code plan m t served q.stage (stage.Act a next) listed).acts a next refl m r (from_rest shape code plan m t served) o
        (knows shape code plan m t served r o) (still shape code plan m t served r o) here

    -- ---- its core is there

    module _ (call : Call) (is_call : request_of shape.is_main a ≡ Some call) (k : ℕ) (found : core_asked (numbers_of shape) (Some (value_of q.variables call)) ≡ Some k) where
      asks : asks_now q ≡ Some (value_of q.variables call)
      asks = ap (λ s. asked_in shape.is_main s q.variables) listed ∙ ap (asked_at q.variables) is_call

      aimed : target shape code plan m t served r q o shows ≡ Some k
      aimed = ap (core_asked (numbers_of shape)) asks ∙ found

      within : (banks ≤ k) × (k < cores_of shape)
      within = target_within shape.is_main (slice_get code.stages q.stage) q.variables banks shape.served k aimed

      own : HasService banks shape.served call.service k
      own =
          subst (λ (s : Service). HasService banks shape.served s k) (service_kept call.service call.number (operand_words q.variables call.operands))
          (service_there banks shape.served (value_of q.variables call).service (value_of q.variables call).core k found)

      fits : Fits shape.served call
      fits =
          call_fits shape.served shape.is_main a call is_call
          (λ site values e.
          let can = served.prints q.stage site next values (listed ∙ ap (λ (z : Act). Some (stage.Act z next)) e) in record { number = can.site_fits; values = can.few })

      -- IT IS ASKED so
      pub asked_so : AsksCore r 1 ((served_ports shape m).core k) (value_of q.variables call)
      asked_so = record {
        ask =
            let e = enabled shape code plan m t served r o in
            asked_as shape code plan m t served r q k o shows not_so within.1 e.0 e.1
            ∙ ap (λ c. bit_of (is_core c k && e.0)) aimed ∙ ap (λ z. bit_of (z && e.0)) (eq-eqb k k refl) ∙ sym e.1;
        number =
            number_is shape code plan m t served r q a next call k o shows listed is_call own fits.number
            ∙ sym (number_kept call.service call.number (operand_words q.variables call.operands));
        values = λ j w there.
            let back = value_back q.variables call.service call.number call.operands j w there in
            let from = among call.service call.operands j back.0 back.1 in
            let less = slice_get_within (values_of call.service call.operands) j back.0 back.1 in
            let few = fits.values in
            value_is shape code plan m t served r q a next call k o shows listed is_call own j back.0 back.1 (served.typed q.stage a next call listed is_call from.0 back.0 from.1)
            (omega arith)
            ∙ sym back.2;
      }

      leaves : LeavesFor (stage_after rest q.stage a next) false r t.laid.start t.inside.chains
      leaves =
          subst (λ n. LeavesFor n false r t.laid.start t.inside.chains) (to_stage rest q.stage next a (served.leads q.stage a next listed))
          (leaves_later (stage_after rest q.stage a (min next rest)) false r t.laid.start t.laid.rested t.inside.chains
          (shown_last shape code plan m t served r o (found_not_lost shape code plan m t served r q o shows k aimed within.0 within.1)) leads)

      aims : (g : Bool) → r.signal (2 + k) ≡ bit_of g → IsTarget shape code plan m t served r (Some k) true g
      aims g e = (refl, within.0, within.1, e)

      pub granted_so : r.signal 1 ≡ 1 → r.signal (2 + k) ≡ 1 → Shows shape code plan m t served (next_reading m r) (went_on (stage_after rest q.stage a next) q)
      granted_so on grant =
          act_left shape code plan m t served r q (stage_after rest q.stage a next) o shows (act_off shape code plan m t served r q a next o shows listed) on
          (act_leave shape code plan m t served r q o shows not_so false true true true (Some k) aimed (aims true grant) leaves.waits on) leaves

      pub ungranted_so : r.signal (2 + k) ≡ 0 → Shows shape code plan m t served (next_reading m r) q
      ungranted_so none =
          let e = enabled shape code plan m t served r o in
          stays_off shape code plan m t served r q o shows
          (act_leave shape code plan m t served r q o shows not_so false true e.0 false (Some k) aimed (aims false none) leaves.waits e.1 ∙ off_without_grant e.0)
          (act_moved shape code plan m t served r q o shows not_so false true e.0 false (Some k) aimed (aims false none) leaves.waits e.1 ∙ off_moved e.0)

    -- ---- it is not

    pub lost_so : (ask : Asked) → asks_now q ≡ Some ask → core_asked (numbers_of shape) (Some ask) ≡ None → Shows shape code plan m t served (next_reading m r) q
    lost_so ask is none =
        let e = enabled shape code plan m t served r o in
        let nobody : target shape code plan m t served r q o shows ≡ None = ap (core_asked (numbers_of shape)) is ∙ none in
        let waits = waits_last shape code plan m t served r o false true leads.waits (lost_there shape code plan m t served r q o shows ask is none) in
        stays_off shape code plan m t served r q o shows
        (act_leave shape code plan m t served r q o shows not_so true false e.0 false None nobody refl waits e.1 ∙ off_waiting e.0 false false)
        (act_moved shape code plan m t served r q o shows not_so true false e.0 false None nobody refl waits e.1 ∙ still_waiting e.0 false)

  -- ---- both, of what the stage asks

  pub acts_so : (r : Reading) (q : Slot) (a : Act) (next k : ℕ) (ask : Asked) → Obeys m r → Shows shape code plan m t served r q → q.state ≡ 0 →
      slice_get code.stages q.stage ≡ Some (stage.Act a next) → asks_now q ≡ Some ask → core_asked (numbers_of shape) (Some ask) ≡ Some k
      → AsksCore r 1 ((served_ports shape m).core k) ask
      × (r.signal 1 ≡ 1 → r.signal (2 + k) ≡ 1 → Shows shape code plan m t served (next_reading m r) (went_on (stage_after rest q.stage a next) q))
      × (r.signal (2 + k) ≡ 0 → Shows shape code plan m t served (next_reading m r) q)
  acts_so r q a next k ask o shows at listed asks found = by (request_of shape.is_main a) refl (ap (λ s. asked_in shape.is_main s q.variables) (sym listed) ∙ asks)
    where
      by : (call : Option Call) → request_of shape.is_main a ≡ call → asked_at q.variables call ≡ Some ask
          → AsksCore r 1 ((served_ports shape m).core k) ask
          × (r.signal 1 ≡ 1 → r.signal (2 + k) ≡ 1 → Shows shape code plan m t served (next_reading m r) (went_on (stage_after rest q.stage a next) q))
          × (r.signal (2 + k) ≡ 0 → Shows shape code plan m t served (next_reading m r) q)
      by None is_call e = absurd cc
      by (Some call) is_call e =
          let same : value_of q.variables call ≡ ask = cc in
          let found_call : core_asked (numbers_of shape) (Some (value_of q.variables call)) ≡ Some k = ap (λ (z : Asked). core_asked (numbers_of shape) (Some z)) same ∙ found in (
            subst (λ (z : Asked). AsksCore r 1 ((served_ports shape m).core k) z) same (asked_so r q a next o shows listed call is_call k found_call),
            granted_so r q a next o shows listed call is_call k found_call,
            ungranted_so r q a next o shows listed call is_call k found_call,
          )

  pub lost_acts : (r : Reading) (q : Slot) (ask : Asked) → Obeys m r → Shows shape code plan m t served r q → q.state ≡ 0 → asks_now q ≡ Some ask →
      core_asked (numbers_of shape) (Some ask) ≡ None → Shows shape code plan m t served (next_reading m r) q
  lost_acts r q ask o shows at asks none = by (slice_get code.stages q.stage) refl asks
    where
      by : (s : Option Stage) → slice_get code.stages q.stage ≡ s → asked_in shape.is_main s q.variables ≡ Some ask → Shows shape code plan m t served (next_reading m r) q
      by None listed e = absurd cc
      by (Some (stage.Run b)) listed e = absurd cc
      by (Some (stage.Act a next)) listed e = lost_so r q a next o shows listed ask asks none
