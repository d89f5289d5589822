-- A thread that asks a core which is not there waits.
use Rattle.std.proofs.Common.{◌≡◌, ℕ, ◌+◌, ◌-◌, ◌<◌, ◌≤◌, Bool, true, false, not, ◌&&◌, ◌||◌, length, slice_get, Option, Some, None, ℤ}
use Rattle.std.proofs.Common.{refl, sym, ap, subst, ◌∙◌, arith}
use Rattle.std.proofs.lemmas.Bool.{eq-eqb}
use Rattle.hls_ints.specs.Residues.{bit_of}
use Rattle.block_ir.specs.declared.code.Stage.{Stage}
use Rattle.block_ir.specs.declared.code.Stage.TheVariants as stage
use Rattle.block_ir.specs.declared.code.ThreadCode.{ThreadCode}
use Rattle.block_ir.specs.declared.plan.Planned.{Planned}
use Rattle.block_ir.specs.Asked.{Numbers, Asked, Request as Call, request_of, asked_at, printer_core}
use Rattle.block_ir.specs.declared.service.Service.{Service}
use Rattle.block_ir.specs.declared.service.Service.TheVariants.{Mutex, Barrier, ThreadIds, Printer}
use Rattle.planned_block.specs.Slot.{Slot}
use Rattle.planned_block.specs.Advance.{any_below}
use Rattle.planned_block.proofs.Advances.{some_tells}
use Rattle.netlist.specs.declared.netlist.Module.{Module}
use Rattle.verilog_meaning.specs.Readings.{Reading}
use Rattle.circuit.specs.Modules.{Obeys}
use Rattle.thread_promise.specs.Globals.{bank_total}
use Rattle.thread_promise.specs.Moves.{asked_in, core_asked}
use Rattle.thread_promise.specs.Promise.{is_run}
use Rattle.thread_slots.specs.declared.shape.Shape.{Shape}
use Rattle.thread_slots.specs.Bits.{HasBit, HaveBits}
use Rattle.thread_slots.specs.Requests.{group}
use Rattle.thread_asks.specs.Asking.{same_service, is_for, is_asked}
use Rattle.thread_layout.specs.Modules.{IsModule}
use Rattle.thread_layout.specs.Thread.{numbers_of, cores_of, is_core, IsServed}
use Rattle.thread_requests.specs.Early.{act_count}
use Rattle.thread_layout.proofs.Needed.{none_below}
use Rattle.thread_layout.proofs.Opened.{acts_by, has_object, from_lost, from_acts, all_count}
use Rattle.thread_layout.proofs.Quiet.{service_bit, block_bit, ask_now, target, asks_kind, raises}
use Rattle.thread_layout.proofs.Shown.{Shows}

-- ---- bits

never : (t : Bool) → bit_of (t && false) ≡ 0
never true = refl
never false = refl

-- ---- what a stage asks

-- a stage that asks nobody asks no cores of any kind
no_kind : (main : Bool) (s : Option Stage) (variables : ℕ → ℤ) → asked_in main s variables ≡ None → (k : Service) → is_asked main s k ≡ false
no_kind main None variables e k = refl
no_kind main (Some (stage.Run b)) variables e k = refl
no_kind main (Some (stage.Act a next)) variables e k = by (request_of main a) e
  where
    by : (call : Option Call) → asked_at variables call ≡ None → is_for k call ≡ false
    by None f = refl
    by (Some call) f = absurd cc

-- who asks a core that is not there asks for an object or for an id
abbrev objects : (Service → Bool) → Bool
objects wants = (wants Mutex || wants Barrier) || wants ThreadIds

lost_kind : (N : Numbers) (variables : ℕ → ℤ) (call : Call) → core_asked N (asked_at variables (Some call)) ≡ None → objects (same_service call.service) ≡ true
lost_kind N variables call e = by call.service refl
  where
    by : (s : Service) → call.service ≡ s → objects (same_service call.service) ≡ true
    by Mutex is = ap (λ k. objects (same_service k)) is
    by Barrier is = ap (λ k. objects (same_service k)) is
    by ThreadIds is = ap (λ k. objects (same_service k)) is
    by Printer is = absurd (let there : Some (printer_core N) ≡ None = subst (λ (c : Call). core_asked N (asked_at variables (Some c)) ≡ None) (printed is) e in cc)
      where
        printed : call.service ≡ Printer → call ≡ record { service = Printer; number = call.number; operands = call.operands }
        printed same = ap (λ k. record { service = k; number = call.number; operands = call.operands }) same

lost_asks : (main : Bool) (s : Option Stage) (variables : ℕ → ℤ) (N : Numbers) (ask : Asked) → asked_in main s variables ≡ Some ask → core_asked N (Some ask) ≡ None
    → objects (is_asked main s) ≡ true
lost_asks main None variables N ask e f = absurd cc
lost_asks main (Some (stage.Run b)) variables N ask e f = absurd cc
lost_asks main (Some (stage.Act a next)) variables N ask e f = by (request_of main a) e
  where
    by : (call : Option Call) → asked_at variables call ≡ Some ask → objects (λ k. is_for k call) ≡ true
    by None g = absurd cc
    by (Some call) g = lost_kind N variables call (ap (core_asked N) g ∙ f)

module _ (shape : Shape) (code : ThreadCode) (plan : Planned) (m : Module) (t : IsModule shape code plan m) (served : IsServed shape code plan) where
  abbrev banks : ℕ
  banks = bank_total shape.spreads

  abbrev open_count : ℕ
  open_count = length t.laid.early.acts.opens

  -- LOST, of what is wanted
  lost_bit : (r : Reading) → Obeys m r → (asks : Service → Bool) → ((s : Service) → HasBit m r (group t.inside.early.requests s).wants (asks s))
      → HasBit m r t.inside.early.lost (objects asks && not (any_below (λ k. true && acts_by shape code plan m t served r asks k) open_count))
  lost_bit r o asks wanted =
      t.laid.early.loses.shows m r asks (acts_by shape code plan m t served r asks) (from_lost shape code plan m t served) o wanted
      (subst (λ n. HaveBits m r t.laid.early.acts.opens n (acts_by shape code plan m t served r asks)) (sym t.laid.early.opens_acts.count)
      (t.laid.early.opens_acts.shows m r asks (from_acts shape code plan m t served) o wanted (λ s. has_object shape code plan m t served r s o)))

  -- where nothing is wanted nothing is lost
  pub quiet_not_lost : (r : Reading) → Obeys m r → ((s : Service) → HasBit m r (group t.inside.early.requests s).wants false) → r.signal t.inside.early.lost ≡ 0
  quiet_not_lost r o wanted = (lost_bit r o (λ s. false) wanted).shows

  module _ (r : Reading) (q : Slot) (o : Obeys m r) (shows : Shows shape code plan m t served r q) where
    now : HasBit m r t.inside.early.lost
        (objects (asks_kind shape code plan m t served r q o shows)
        && not (any_below (λ k. true && acts_by shape code plan m t served r (asks_kind shape code plan m t served r q o shows) k) open_count))
    now = lost_bit r o (asks_kind shape code plan m t served r q o shows) (service_bit shape code plan m t served r q o shows)

    -- whoever asks nobody is not lost
    pub unasked_not_lost : ask_now shape code plan m t served r q o shows ≡ None → r.signal t.inside.early.lost ≡ 0
    unasked_not_lost none =
        quiet_not_lost r o
        (λ s. subst (λ b. HasBit m r (group t.inside.early.requests s).wants b) (no_kind shape.is_main (slice_get code.stages q.stage) q.variables none s)
        (service_bit shape code plan m t served r q o shows s))

    -- nor who asks a core that is there
    pub found_not_lost : (c : ℕ) → target shape code plan m t served r q o shows ≡ Some c → banks ≤ c → c < cores_of shape → r.signal t.inside.early.lost ≡ 0
    found_not_lost c is behind inside =
        now.shows
        ∙ ap (λ b. bit_of (objects (asks_kind shape code plan m t served r q o shows) && not b))
        (some_tells (λ k. true && acts_by shape code plan m t served r (asks_kind shape code plan m t served r q o shows) k) open_count (c - banks)
        (subst (λ n. c - banks < n) (sym t.laid.early.opens_acts.count) few) opened)
        ∙ never (objects (asks_kind shape code plan m t served r q o shows))
      where
        few : c - banks < act_count shape.served
        few = let all = all_count shape code plan m t served in omega arith

        opened : acts_by shape code plan m t served r (asks_kind shape code plan m t served r q o shows) (c - banks) ≡ true
        opened =
            raises shape code plan m t served r q o shows (c - banks) few
            ∙ ap (λ z. is_core z (banks + (c - banks))) is ∙ eq-eqb (banks + (c - banks)) c (let e : banks + (c - banks) ≡ c = omega arith in e)

    -- WHO ASKS A CORE THAT IS NOT THERE is
    pub lost_there : (ask : Asked) → ask_now shape code plan m t served r q o shows ≡ Some ask → core_asked (numbers_of shape) (Some ask) ≡ None → r.signal t.inside.early.lost ≡ 1
    lost_there ask is none =
        now.shows
        ∙ ap (λ b. bit_of (b && not (any_below (λ k. true && acts_by shape code plan m t served r (asks_kind shape code plan m t served r q o shows) k) open_count)))
        (lost_asks shape.is_main (slice_get code.stages q.stage) q.variables (numbers_of shape) ask is none)
        ∙ ap (λ b. bit_of (not b))
        (none_below (λ k. true && acts_by shape code plan m t served r (asks_kind shape code plan m t served r q o shows) k) open_count
        (λ k less.
        raises shape code plan m t served r q o shows k (subst (λ n. k < n) t.laid.early.opens_acts.count less)
        ∙ ap (λ z. is_core z (banks + k)) (ap (core_asked (numbers_of shape)) is ∙ none)))

    -- within a block nothing is lost
    pub block_not_lost : is_run (slice_get code.stages q.stage) ≡ true → r.signal t.inside.early.lost ≡ 0
    block_not_lost run = quiet_not_lost r o (block_bit shape code plan m t served r q o shows run)
