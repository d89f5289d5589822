-- Which core a stage asks.
use Rattle.std.proofs.Common.{◌≡◌, ℕ, ◌-◌, ◌<◌, ◌≤◌, Bool, true, not, ◌&&◌, nat_eq}
use Rattle.std.proofs.Common.{slice_get, slice_index, ℤ, Option, Some, None, sym, ap, subst, ◌∙◌}
use Rattle.hls_ints.specs.Residues.{bit_of}
use Rattle.block_ir.specs.declared.code.Stage.{Stage}
use Rattle.block_ir.specs.declared.code.Stage.TheVariants as stage
use Rattle.block_ir.specs.declared.code.ThreadCode.{ThreadCode}
use Rattle.block_ir.specs.declared.plan.Planned.{Planned}
use Rattle.block_ir.specs.Asked.{Asked}
use Rattle.planned_block.specs.Slot.{Slot}
use Rattle.netlist.specs.declared.netlist.Module.{Module}
use Rattle.verilog_meaning.specs.Readings.{Reading}
use Rattle.circuit.specs.Modules.{Obeys}
use Rattle.thread_promise.specs.Globals.{bank_total}
use Rattle.thread_promise.specs.Moves.{asked_in, core_asked}
use Rattle.thread_promise.specs.Promise.{is_run}
use Rattle.thread_slots.specs.declared.shape.Served.{Served}
use Rattle.thread_slots.specs.declared.shape.Shape.{Shape}
use Rattle.thread_slots.specs.Bits.{HasBit}
use Rattle.thread_slots.specs.Services.{numbers_with, core_count}
use Rattle.thread_layout.specs.Modules.{IsModule}
use Rattle.thread_layout.specs.Thread.{cores_of, IsServed}
use Rattle.thread_slots.specs.Requests.{group}
use Rattle.thread_layout.proofs.OpenCores.{joined_back}
use Rattle.thread_layout.proofs.Cores.{none_open, core_within}
use Rattle.thread_layout.proofs.Opened.{raised_by, acts_by, no_service, all_count, marked_now, mark_bit, open_bits, want_wide, bit_told}
use Rattle.thread_layout.proofs.Placed.{wide_bit, from_control, opens_count}
use Rattle.thread_layout.proofs.Quiet.{block_bit}
use Rattle.thread_layout.proofs.Shown.{Shows}

-- the core of an act is one of those that acts ask
pub target_within : (main : Bool) (s : Option Stage) (variables : ℕ → ℤ) (banks : ℕ) (served : Served) (c : ℕ) → core_asked (numbers_with banks served) (asked_in main s variables) ≡ Some c
    → (banks ≤ c) × (c < core_count banks served)
target_within main s variables banks served c e = by (asked_in main s variables) e
  where
    by : (a : Option Asked) → core_asked (numbers_with banks served) a ≡ Some c → (banks ≤ c) × (c < core_count banks served)
    by None e = absurd cc
    by (Some a) e = core_within banks served a.service a.core c e

-- ---- in a block

module _ (shape : Shape) (code : ThreadCode) (plan : Planned) (m : Module) (t : IsModule shape code plan m) (served : IsServed shape code plan) where
  abbrev banks : ℕ
  banks = bank_total shape.spreads

  pub block_quiet : (r : Reading) (q : Slot) (o : Obeys m r) → Shows shape code plan m t served r q → is_run (slice_get code.stages q.stage) ≡ true → (k : ℕ) → banks ≤ k
      → k < cores_of shape → (e : Bool) → HasBit m r t.inside.inputs.enable e → r.signal (slice_index t.edge.asks k) ≡ 0
  block_quiet r q o shows run k past less e on =
      let wants_now : ℕ → Bool = λ n. nat_eq (r.signal (slice_index t.inside.early.requests.banks.wants n)) 1 in
      let none = no_service shape code plan m t served in
      let opened =
      open_bits shape code plan m t served r o wants_now (marked_now shape code plan m t served r) none
      (λ n below.
      let wide = want_wide shape code plan m t served n below in
      let bit = wide_bit m r (slice_index t.inside.early.requests.banks.wants n) o wide in
      record { wide = wide; shows = bit_told (r.signal (slice_index t.inside.early.requests.banks.wants n)) bit.0 bit.1 })
      (λ n below. mark_bit shape code plan m t served r n o below) (block_bit shape code plan m t served r q o shows run) in
      let count = opens_count shape code plan m t served in
      let asked =
      t.closed.controls.asks m r (raised_by shape code plan m t served wants_now (marked_now shape code plan m t served r) (acts_by shape code plan m t served r none)) e
      (from_control shape code plan m t served) o (λ n below. opened n (subst (λ j. n < j) (count ∙ sym (all_count shape code plan m t served)) below)) on k
      (subst (λ j. k < j) (sym count) less) in
      asked.shows
      ∙ ap (λ z. bit_of (z && e)) (joined_back banks (λ n. wants_now n && not (marked_now shape code plan m t served r n)) (acts_by shape code plan m t served r none) k past
      ∙ none_open shape.served (λ s. r.signal (group t.inside.early.requests s).object) (k - banks))
