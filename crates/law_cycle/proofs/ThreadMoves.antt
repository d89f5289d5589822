-- THREAD MOVES.
use Rattle.std.specs.Prelude.{nat_lt, Bool, true, false, not, ◌&&◌, if◌then◌else◌, Option, Some, None, slice_get, ℤ}
use Rattle.std.proofs.Common.{◌≡◌, ℕ, ◌+◌, ◌%◌, ◌<◌, ◌⊎◌, refl, sym, ap, ap₂, ◌∙◌, subst, inl, inr, ⊎_elim, arith}
use Rattle.std.proofs.lemmas.Bool.{ltb-true}
use Rattle.std.proofs.lemmas.Option.{cond_some}
use Rattle.hls_ints.specs.Residues.{residue_of, bit_of}
use Rattle.interleaving.specs.Memory.{Memory}
use Rattle.bank_partition.specs.declared.banks.Spread.{Spread}
use Rattle.block_ir.specs.declared.block.Block.{Block}
use Rattle.block_ir.specs.declared.code.Act.{Act}
use Rattle.block_ir.specs.declared.code.Act.TheVariants as act
use Rattle.block_ir.specs.declared.code.ActOperand.{ActOperand}
use Rattle.block_ir.specs.declared.code.Stage.{Stage}
use Rattle.block_ir.specs.declared.code.Stage.TheVariants as stage
use Rattle.block_ir.specs.declared.plan.BlockPlan.{BlockPlan}
use Rattle.planned_block.specs.Block.{operation_at, size}
use Rattle.planned_block.specs.Plan.{NoTarget, OfGlobal, OfArray, Target, target_of}
use Rattle.planned_block.specs.Slot.{Slot}
use Rattle.planned_block.specs.Advance.{advance}
use Rattle.planned_block.proofs.Bits.{both_true, less_is}
use Rattle.plan_blocks.specs.View.{planned_view, plan_view}
use Rattle.verilog_meaning.specs.Readings.{Reading, next_reading, initial_reading}
use Rattle.block_ir.specs.Asked.{act_value, Asked, asked, Numbers, core_in, core_of, mutex_core, barrier_core, thread_ids_core, printer_core}
use Rattle.block_ir.specs.declared.service.Service.{Service}
use Rattle.block_ir.specs.declared.service.Service.TheVariants.{Mutex, Barrier, ThreadIds, Printer}
use Rattle.thread_promise.specs.Globals.{bank_at, bank_total, bank_of, place_now, bank_now, IsOpen}
use Rattle.thread_promise.specs.Promise.{BankPorts, went_on}
use Rattle.thread_promise.specs.Moves.{meeting, stage_after, set_out, first_slot, asked_in, core_asked}
use Rattle.thread_promise.specs.Serving.{IsActCore, HearsBanks}
use Rattle.law_cycle.specs.Thread.{Thread, rest, cores, Shows, Runs, Inside, Through, IsThread, Where, InBlock, AtAct, AtRest, AtMeeting, Stands, IsNews, ActLeads}
use Rattle.law_cycle.specs.Moved.{Lost, Ungranted, Moved, Rests, Works, Stays, Acted, Returned, Ended, Idles, Sets_out, Holds_on, Goes_on}
use Rattle.law_cycle.specs.OneThread.{Move, ThreadMoves, Beats}
use Rattle.law_banks.proofs.StateAccesses.{spread_of}
use Rattle.law_cycle.proofs.SlotStands.{outcome, outcome_beats, outcome_routine, where_on, at_stage, at_first, advanced}

-- ---- beats

turned_or_same : (t : Thread) (enabled : Bool) (granted : ℕ → Bool) (news : ℕ → ℕ → ℕ) (memory : Memory ℤ) (q r : Slot) → Moved t enabled granted news memory q r →
    (r.beat ≡ not q.beat) ⊎ (r ≡ q)
turned_or_same t enabled granted news memory q r (Rests off slot) = inr slot
turned_or_same t enabled granted news memory q r (Works on b p runs inside grant within heard slot) =
    let out = outcome (bank_of t.spreads) (planned_view b) (plan_view b p) q memory grant in
    subst (λ (x : Slot). (x.beat ≡ not q.beat) ⊎ (x ≡ q)) (sym slot)
    (outcome_beats (bank_of t.spreads) (planned_view b) (plan_view b p) q memory grant (advance (bank_of t.spreads) (planned_view b) (plan_view b p) q memory grant) (out inside))
turned_or_same t enabled granted news memory q r (Stays on a next ask listed asks refused slot) = inr slot
turned_or_same t enabled granted news memory q r (Acted on a next k ask listed asks core won slot) = inl (ap (λ (x : Slot). x.beat) slot)
turned_or_same t enabled granted news memory q r (Returned on main next listed slot) = inl (ap (λ (x : Slot). x.beat) slot)
turned_or_same t enabled granted news memory q r (Ended on main at slot) = inr slot
turned_or_same t enabled granted news memory q r (Idles on thread at none slot) = inr slot
turned_or_same t enabled granted news memory q r (Sets_out on thread at one slot) = inl (ap (λ (x : Slot). x.beat) slot)
turned_or_same t enabled granted news memory q r (Holds_on on l next b at listed below one slot) = inr slot
turned_or_same t enabled granted news memory q r (Goes_on on l next b at listed below none slot) = inl (ap (λ (x : Slot). x.beat) slot)

other_bit : (b : Bool) → not b ≡ b → ⊥
other_bit true e = cc
other_bit false e = cc

pub beats : Beats
beats t enabled granted news memory q r moved =
    ⊎_elim
    (λ (e : r.beat ≡ not q.beat). inl (e, λ same. other_bit q.beat (sym e ∙ ap (λ (x : Slot). x.beat) same)))
    (λ (e : r ≡ q). inr e)
    (turned_or_same t enabled granted news memory q r moved)

-- ---- acts

-- main's return alone asks nothing
asks_nothing : (main : Bool) (a : Act) (variables : ℕ → ℤ) → asked main a variables ≡ None → (main ≡ true) × (a ≡ act.Return)
asks_nothing true act.Return variables e = (refl, refl)
asks_nothing false act.Return variables e = absurd cc
asks_nothing main (act.Print site values) variables e = absurd cc
asks_nothing main (act.Create thread argument) variables e = absurd cc
asks_nothing main (act.Join thread) variables e = absurd cc
asks_nothing main (act.MutexInit m) variables e = absurd cc
asks_nothing main (act.MutexLock m) variables e = absurd cc
asks_nothing main (act.MutexUnlock m) variables e = absurd cc
asks_nothing main (act.MutexDestroy m) variables e = absurd cc
asks_nothing main (act.BarrierInit b count) variables e = absurd cc
asks_nothing main (act.BarrierWait b) variables e = absurd cc
asks_nothing main (act.BarrierDestroy b) variables e = absurd cc

-- ---- cores

barrier_is : (N : Numbers) (n : ℕ) → n < N.barriers → IsActCore N (barrier_core N n)
barrier_is N n lt = (omega arith, omega arith)

mutex_is : (N : Numbers) (n : ℕ) → n < N.mutexes → IsActCore N (mutex_core N n)
mutex_is N n lt = (omega arith, omega arith)

thread_ids_is : (N : Numbers) → IsActCore N (thread_ids_core N)
thread_ids_is N = (omega arith, omega arith)

printer_is : (N : Numbers) → IsActCore N (printer_core N)
printer_is N = (omega arith, omega arith)

-- what is asked is a core of acts
pub core_in_is : (N : Numbers) (service : Service) (n k : ℕ) → core_in N service n ≡ Some k → IsActCore N k
core_in_is N Mutex n k e =
    let c = cond_some (nat_lt n N.mutexes) (mutex_core N n) k e in subst (IsActCore N) c.1 (mutex_is N n (ltb-true n N.mutexes c.0))
core_in_is N Barrier n k e =
    let c = cond_some (nat_lt n N.barriers) (barrier_core N n) k e in subst (IsActCore N) c.1 (barrier_is N n (ltb-true n N.barriers c.0))
core_in_is N ThreadIds n k e = let c = cond_some N.thread_ids (thread_ids_core N) k e in subst (IsActCore N) c.1 (thread_ids_is N)
core_in_is N Printer n k e = let s : printer_core N ≡ k = cc in subst (IsActCore N) s (printer_is N)

-- a barrier that has a core
barrier_there : (N : Numbers) (n k : ℕ) → core_in N Barrier n ≡ Some k → n < N.barriers
barrier_there N n k e = ltb-true n N.barriers (cond_some (nat_lt n N.barriers) (barrier_core N n) k e).0

zero_or_one : (n : ℕ) → n < 2 → (n ≡ 0) ⊎ (n ≡ 1)
zero_or_one n lt = grind arith

module _ (t : Thread) (is : IsThread t) where
  pub thread_starts : Stands t (initial_reading (Some t.body)) (first_slot t.main t.routine (rest t))
  thread_starts = record { own = refl; at = by t.main refl }
    where
      by : (c : Bool) → t.main ≡ c → Where t (initial_reading (Some t.body)) (first_slot t.main t.routine (rest t))
      by true e =
          at_first t is (initial_reading (Some t.body)) (first_slot t.main t.routine (rest t)) (ap (λ (c : Bool). if c then 0 else rest t) e) refl (λ k. refl) is.runs.starts
      by false e = AtRest (ap (λ (c : Bool). if c then 0 else rest t) e) refl is.runs.starts

  -- an open access asks a bank that is there
  pub bank_below : (q : Slot) (b : Block) (p : BlockPlan) → Runs t q.stage b p → (k x : ℕ) (w : Bool) → IsOpen t.spreads b p q k x w →
      bank_now t.spreads b p q k x < t.numbers.banks
  bank_below q b p runs k x w o =
      let spread = spread_of t.globals t.spreads t.code t.plan t.places q b p runs k x w o.below o.target in
      let some = is.spread.some x spread.0 spread.1 in
      let place : bank_now t.spreads b p q k x ≡ spread.0.first + (place_now t.spreads b p q k x).index % spread.0.count =
      ap (λ (z : Option Spread). bank_at (bank_total t.spreads) z (place_now t.spreads b p q k x)) spread.1 in
      subst (λ n. n < t.numbers.banks) (sym place)
      (is.spread.below x ((place_now t.spreads b p q k x).index % spread.0.count) spread.0 spread.1 (omega (arith, some)))

  -- where a granted act leads
  act_leads : (r : Reading) (q : Slot) (a : Act) (next k : ℕ) (ask : Asked) → slice_get t.code.stages q.stage ≡ Some (stage.Act a next) → asked t.main a q.variables ≡ Some ask →
      core_of t.numbers ask ≡ Some k → ActLeads (rest t) a next → Shows t r (went_on (stage_after (rest t) q.stage a next) q) →
      Where t r (went_on (stage_after (rest t) q.stage a next) q)
  act_leads r q act.Return next k ask listed asks core leads shown = AtRest refl refl shown
  act_leads r q (act.BarrierWait b) next k ask listed asks core leads shown =
      AtMeeting q.stage next b refl listed
      (barrier_there t.numbers (residue_of 64 (act_value q.variables b)) k (ap (core_asked t.numbers) asks ∙ core)) refl shown
  act_leads r q a next k ask listed asks core leads shown = at_stage t is r (went_on next q) leads refl (λ k. refl) shown

  module _ (s r : Reading) (enabled : Bool) (granted : ℕ → Bool) (news : ℕ → ℕ → ℕ) (memory : Memory ℤ) (q : Slot) (go : Through t s enabled granted news r)
      (told : IsNews t news q) (own : q.routine ≡ t.routine) where
    abbrev Result : Type 0
    Result = Move t s enabled granted news memory q

    abbrev after : Reading
    after = next_reading t.body r

    enable_is : (b : Bool) → enabled ≡ b → r.signal t.ports.enable ≡ bit_of b
    enable_is b e = ap r.signal is.ports.enable ∙ go.hears.enables ∙ ap bit_of e

    core_grant : (k : ℕ) (b : Bool) → IsActCore t.numbers k → granted k ≡ b → r.signal (t.ports.core k).grant ≡ bit_of b
    core_grant k b a e = ap r.signal (is.ports.core k a).grant ∙ go.hears.grants k a.1 (is.ports.uses k a.1) ∙ ap bit_of e

    core_told : (k j : ℕ) → IsActCore t.numbers k → j < t.told k → r.signal ((t.ports.core k).told j) ≡ news k j
    core_told k j a lt = ap r.signal ((is.ports.core k a).told j lt) ∙ go.hears.tells k j a.1 (is.ports.uses k a.1) lt

    -- the next reading stands at this slot
    result : (x : Slot) → Moved t enabled granted news memory q x → x.routine ≡ q.routine → Where t after x → Result
    result x moved same at = record {
      next = x;
      moved = moved;
      stands = record { own = same ∙ own; at = subst (λ (y : Reading). Where t y x) (sym go.advances) at };
    }

    -- ---- acts

    module _ (on : enabled ≡ true) (a : Act) (next : ℕ) (listed : slice_get t.code.stages q.stage ≡ Some (stage.Act a next)) (state : q.state ≡ 0) (shown : Shows t r q) where
      asks_at : (o : Option Asked) → asked t.main a q.variables ≡ o → asked_in t.main (slice_get t.code.stages q.stage) q.variables ≡ o
      asks_at o e = ap (λ (z : Option Stage). asked_in t.main z q.variables) listed ∙ e

      of_core : (ask : Asked) → asked t.main a q.variables ≡ Some ask → (k : ℕ) → core_of t.numbers ask ≡ Some k → (won : Bool) → granted k ≡ won → Result
      of_core ask asks k core true e =
          let acts = is.runs.acts r q a next k ask go.obeys shown state listed (asks_at (Some ask) asks) core in
          let core_act = core_in_is t.numbers ask.service ask.core k core in
          result (went_on (stage_after (rest t) q.stage a next) q) (Acted on a next k ask listed asks core e refl) refl
          (act_leads after q a next k ask listed asks core (is.leads q.stage (stage.Act a next) listed) (acts.1 (enable_is true on) (core_grant k true core_act e)))
      of_core ask asks k core false e =
          let acts = is.runs.acts r q a next k ask go.obeys shown state listed (asks_at (Some ask) asks) core in
          let core_act = core_in_is t.numbers ask.service ask.core k core in
          result q (Stays on a next ask listed asks (Ungranted k core e) refl) refl (AtAct a next listed state (acts.2 (core_grant k false core_act e)))

      of_asked : (ask : Asked) → asked t.main a q.variables ≡ Some ask → (k : Option ℕ) → core_of t.numbers ask ≡ k → Result
      of_asked ask asks (Some k) core = of_core ask asks k core (granted k) refl
      of_asked ask asks None core =
          result q (Stays on a next ask listed asks (Lost core) refl) refl
          (AtAct a next listed state (is.runs.lost r q ask go.obeys shown state (asks_at (Some ask) asks) core))

      at_act : (o : Option Asked) → asked t.main a q.variables ≡ o → Result
      at_act (Some ask) asks = of_asked ask asks (core_of t.numbers ask) refl
      at_act None asks =
          let none = asks_nothing t.main a q.variables asks in
          let here : slice_get t.code.stages q.stage ≡ Some (stage.Act act.Return next) = subst (λ z. slice_get t.code.stages q.stage ≡ Some (stage.Act z next)) none.1 listed in
          result (went_on (rest t) q) (Returned on none.0 next here refl) refl
          (AtRest refl refl (is.runs.returns none.0 r q next go.obeys shown state here (enable_is true on)))

    -- ---- rest

    at_rest : enabled ≡ true → q.stage ≡ rest t → q.state ≡ 0 → Shows t r q → (main : Bool) → t.main ≡ main → Result
    at_rest on at state shown true e = result q (Ended on e at refl) refl (AtRest at state (is.runs.ends e r q go.obeys shown at))
    at_rest on at state shown false e =
        let thread_ids = is.thread_ids e in
        let told_thread_ids = is.wide.ids_tell thread_ids in
        let core = thread_ids_is t.numbers in
        let told_zero = core_told (thread_ids_core t.numbers) 0 core (omega (arith, told_thread_ids)) in
        let told_one = core_told (thread_ids_core t.numbers) 1 core told_thread_ids in
        ⊎_elim
        (λ (none : news (thread_ids_core t.numbers) 0 ≡ 0). result q (Idles on e at none refl) refl (AtRest at state (is.runs.idles e thread_ids r q go.obeys shown at (told_zero ∙ none))))
        (λ (one : news (thread_ids_core t.numbers) 0 ≡ 1).
        result (set_out t.code.argument (news (thread_ids_core t.numbers) 1) q) (Sets_out on e at one refl) refl
        (at_first t is after (set_out t.code.argument (news (thread_ids_core t.numbers) 1) q) refl refl (λ k. refl)
        (subst (λ z. Shows t after (set_out t.code.argument z q)) told_one
        (is.runs.begins e thread_ids r q go.obeys shown state at (enable_is true on) (told_zero ∙ one)))))
        (zero_or_one (news (thread_ids_core t.numbers) 0) (told.runs thread_ids))

    -- ---- a meeting

    at_meeting : enabled ≡ true → (l next : ℕ) (b : ActOperand) → q.stage ≡ meeting (rest t) l → slice_get t.code.stages l ≡ Some (stage.Act (act.BarrierWait b) next) →
        residue_of 64 (act_value q.variables b) < t.numbers.barriers → q.state ≡ 0 → Shows t r q → Result
    at_meeting on l next b at listed below state shown =
        let n = residue_of 64 (act_value q.variables b) in
        let core = barrier_is t.numbers n below in
        let told_zero = core_told (barrier_core t.numbers n) 0 core (is.wide.barrier_tells n below) in
        let waits = is.runs.waits r q l next n b go.obeys shown state at listed refl below in
        ⊎_elim
        (λ (none : news (barrier_core t.numbers n) 0 ≡ 0).
        result (went_on next q) (Goes_on on l next b at listed below none refl) refl
        (at_stage t is after (went_on next q) (is.leads l (stage.Act (act.BarrierWait b) next) listed) refl (λ k. refl) (waits.1 (enable_is true on) (told_zero ∙ none))))
        (λ (one : news (barrier_core t.numbers n) 0 ≡ 1).
        result q (Holds_on on l next b at listed below one refl) refl (AtMeeting l next b at listed below state (waits.0 (told_zero ∙ one))))
        (zero_or_one (news (barrier_core t.numbers n) 0) (told.waits n below))

    -- ---- a block

    module _ (b : Block) (p : BlockPlan) (inside : Inside t r q b p) where
      port_is : (f : BankPorts → ℕ) (n : ℕ) → n < t.numbers.banks → r.signal (f (t.ports.bank n))
          ≡ r.signal (f (record {
            grant = t.leaf.grant n;
            word = t.leaf.told n 0;
            ask = t.leaf.ask n 0;
            writes = t.leaf.ask n 1;
            address = t.leaf.ask n 2;
            value = t.leaf.ask n 3;
          }))
      port_is f n l = ap (λ (z : BankPorts). r.signal (f z)) (is.ports.bank n l)

      bank_core : (n : ℕ) → n < t.numbers.banks → n < cores t
      bank_core n l = omega arith

      open_below : (k x : ℕ) (w : Bool) → IsOpen t.spreads b p q k x w → bank_now t.spreads b p q k x < t.numbers.banks
      open_below = bank_below q b p inside.runs

      grants_at : Target → ℕ → Bool
      grants_at NoTarget k = false
      grants_at (OfGlobal x w) k = granted (bank_now t.spreads b p q k x)
      grants_at (OfArray x w) k = false

      grant : ℕ → Bool
      grant k = nat_lt k (size (planned_view b)) && grants_at (target_of (operation_at (planned_view b) k).kind) k

      within : (k : ℕ) → grant k ≡ true → k < size (planned_view b)
      unfolding grant
      within k e = ltb-true k (size (planned_view b)) (both_true (nat_lt k (size (planned_view b))) (grants_at (target_of (operation_at (planned_view b) k).kind) k) e).0

      grant_is : (k x : ℕ) (w : Bool) → IsOpen t.spreads b p q k x w → grant k ≡ granted (bank_now t.spreads b p q k x)
      unfolding grant grants_at
      grant_is k x w o = ap₂ (λ (c d : Bool). c && d) (less_is k (size (planned_view b)) o.below) (ap (λ (z : Target). grants_at z k) o.target)

      hears : HearsBanks t.globals t.spreads t.ports r q b p grant
      hears = record {
        grants = λ k x w o.
            let n = bank_now t.spreads b p q k x in
            let below = open_below k x w o in
            port_is (λ (z : BankPorts). z.grant) n below ∙ go.hears.grants n (bank_core n below) (is.ports.uses n (bank_core n below)) ∙ ap bit_of (sym (grant_is k x w o));
        words = λ x n s ty e d l.
            let below = is.spread.below x n s e l in
            port_is (λ (z : BankPorts). z.word) (s.first + n) below
            ∙ go.hears.tells (s.first + n) 0 (bank_core (s.first + n) below) (is.ports.uses (s.first + n) (bank_core (s.first + n) below)) (is.wide.bank_tells (s.first + n) below)
            ∙ told.words x n s ty e d l;
        typed = told.typed;
      }

      in_block : enabled ≡ true → Result
      in_block on =
          let x = advance (bank_of t.spreads) (planned_view b) (plan_view b p) q memory grant in
          result x (Works on b p inside.runs inside.state grant within grant_is refl)
          (outcome_routine (bank_of t.spreads) (planned_view b) (plan_view b p) q memory grant x
          (outcome (bank_of t.spreads) (planned_view b) (plan_view b p) q memory grant inside.state))
          (advanced t is (bank_of t.spreads) memory grant after q b p inside.runs inside.state
          (is.runs.moves memory grant r q b p go.obeys inside hears (enable_is true on)))

    -- ---- all

    moved_from : (c : Bool) → enabled ≡ c → Where t r q → Result
    moved_from false off at = result q (Rests off refl) refl (where_on t is r after q (is.runs.rests r go.obeys (enable_is false off)) at)
    moved_from true on (InBlock b p inside) = in_block b p inside on
    moved_from true on (AtAct a next listed state shown) = at_act on a next listed state shown (asked t.main a q.variables) refl
    moved_from true on (AtRest at state shown) = at_rest on at state shown t.main refl
    moved_from true on (AtMeeting l next b at listed below state shown) = at_meeting on l next b at listed below state shown

pub thread_moves : ThreadMoves
thread_moves t s r enabled granted news memory q is go told stands =
    moved_from t is s r enabled granted news memory q go told stands.own enabled refl (where_on t is s r q go.shown stands.at)
