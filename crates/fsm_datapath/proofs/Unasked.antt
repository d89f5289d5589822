-- Cores that are not asked: banks outside of blocks, and of those that acts ask all but the one of the act.
use Rattle.std.proofs.Common.{◌≡◌, ◌≢◌, ℕ, ◌<◌, ◌≤◌, Bool, true, false, ◌&&◌, slice_get, Option, Some, None, refl, sym, ap, ◌∙◌, arith}
use Rattle.std.proofs.lemmas.Bool.{ne_eqb}
use Rattle.thread_promise.specs.Moves.{asked_in, core_asked}
use Rattle.hls_ints.specs.Residues.{bit_of}
use Rattle.block_ir.specs.declared.code.ThreadCode.{ThreadCode}
use Rattle.block_ir.specs.declared.plan.Planned.{Planned}
use Rattle.planned_block.specs.Slot.{Slot}
use Rattle.netlist.specs.declared.netlist.Module.{Module}
use Rattle.verilog_meaning.specs.Readings.{Reading}
use Rattle.circuit.specs.Modules.{Obeys}
use Rattle.thread_promise.specs.Globals.{bank_total}
use Rattle.thread_promise.specs.Promise.{is_run}
use Rattle.thread_slots.specs.declared.shape.Shape.{Shape}
use Rattle.thread_layout.specs.Modules.{IsModule}
use Rattle.thread_layout.specs.Thread.{numbers_of, cores_of, is_core, port_at, IsServed}
use Rattle.fsm_datapath.proofs.LeftStates.{IsTarget, core_asks}
use Rattle.fsm_datapath.proofs.Targets.{target_within}
use Rattle.thread_layout.proofs.Placed.{ask_copied}
use Rattle.fsm_datapath.proofs.Targets.{block_quiet}
use Rattle.thread_layout.proofs.Shown.{Shows}
use Rattle.thread_layout.proofs.Sight.{enabled, enable_bit, heard, waiting}

module _ (shape : Shape) (code : ThreadCode) (plan : Planned) (m : Module) (t : IsModule shape code plan m) (served : IsServed shape code plan) where
  abbrev banks : ℕ
  banks = bank_total shape.spreads

  -- whatever the core is that is asked
  aim : (r : Reading) (q : Slot) → Obeys m r → (c : Option ℕ) → core_asked (numbers_of shape) (asked_in shape.is_main (slice_get code.stages q.stage) q.variables) ≡ c
      → (a : Bool) × (g : Bool) × IsTarget shape code plan m t served r c a g
  aim r q o None e = (false, false, refl)
  aim r q o (Some c) e =
      let inside = target_within shape.is_main (slice_get code.stages q.stage) q.variables banks shape.served c e in
      let g = heard shape code plan m t served r o c inside.1 in
      (true, g.0, (refl, inside.0, inside.1, g.1))

  -- a core is asked as it is the one of the stage
  pub asked_as : (r : Reading) (q : Slot) (n : ℕ) → Obeys m r → Shows shape code plan m t served r q → is_run (slice_get code.stages q.stage) ≡ false → n < cores_of shape
      → (e : Bool) → r.signal 1 ≡ bit_of e
      → r.signal (port_at shape m n 0)
      ≡ bit_of (is_core (core_asked (numbers_of shape) (asked_in shape.is_main (slice_get code.stages q.stage) q.variables)) n && e)
  asked_as r q n o shows not_so less e on =
      let w = waiting shape code plan m t served r o in
      let c = core_asked (numbers_of shape) (asked_in shape.is_main (slice_get code.stages q.stage) q.variables) in
      let aims = aim r q o c refl in
      ask_copied shape code plan m t served r n o less
      ∙ core_asks shape code plan m t served r q o shows not_so w.0 aims.0 e aims.1 c refl aims.2 w.1 on n less

  pub asks_outside_so : (r : Reading) (q : Slot) (n : ℕ) → Obeys m r → Shows shape code plan m t served r q → is_run (slice_get code.stages q.stage) ≡ false → n < banks
      → r.signal (port_at shape m n 0) ≡ 0
  asks_outside_so r q n o shows not_so less =
      let e = enabled shape code plan m t served r o in
      let c = core_asked (numbers_of shape) (asked_in shape.is_main (slice_get code.stages q.stage) q.variables) in
      asked_as r q n o shows not_so (omega arith) e.0 e.1 ∙ ap (λ z. bit_of (z && e.0)) (before c refl)
    where
      before : (c : Option ℕ) → core_asked (numbers_of shape) (asked_in shape.is_main (slice_get code.stages q.stage) q.variables) ≡ c → is_core c n ≡ false
      before None is = refl
      before (Some c) is =
          let inside = target_within shape.is_main (slice_get code.stages q.stage) q.variables banks shape.served c is in
          let past = inside.0 in
          ne_eqb n c (λ same. absurd (omega arith))

  -- no other core of acts is asked, and in a block none is
  pub asks_alone_so : (r : Reading) (q : Slot) (k : ℕ) → Obeys m r → Shows shape code plan m t served r q → banks ≤ k → k < cores_of shape
      → core_asked (numbers_of shape) (asked_in shape.is_main (slice_get code.stages q.stage) q.variables) ≢ Some k → r.signal (port_at shape m k 0) ≡ 0
  asks_alone_so r q k o shows past less other = by (is_run (slice_get code.stages q.stage)) refl
    where
      e : (b : Bool) × (r.signal 1 ≡ bit_of b)
      e = enabled shape code plan m t served r o

      not_it : (c : Option ℕ) → c ≢ Some k → is_core c k ≡ false
      not_it None ne = refl
      not_it (Some c) ne = ne_eqb k c (λ same. ne (ap Some (sym same)))

      by : (run : Bool) → is_run (slice_get code.stages q.stage) ≡ run → r.signal (port_at shape m k 0) ≡ 0
      by true is =
          ask_copied shape code plan m t served r k o less
          ∙ block_quiet shape code plan m t served r q o shows is k past less e.0 (enable_bit shape code plan m t served r o e.0 e.1)
      by false is = asked_as r q k o shows is less e.0 e.1 ∙ ap (λ z. bit_of (z && e.0)) (not_it _ other)
