use Rattle.std.proofs.Common.{◌≡◌, ◌∙◌}
use Rattle.operator_wires.proofs.MadeWords.{of_two}
use Rattle.thread_slots.specs.Bits.{BothOf, MakesBits, AddsBoths}
use Rattle.std.proofs.Common.{length}
use Rattle.thread_requests.specs.Early.{spread_out, OpensBanks}
use Rattle.thread_slots.proofs.BitLists.{both_as, adds_both_as, not_as, adds_not_as}
use Rattle.std.proofs.Common.{refl}
use Rattle.thread_requests.proofs.early.open_banks.Goals as goal

pub returns : goal.returns
returns c =
    let a = c.args.wires.now.signals in
    let b = c.not_each.new.wires.signals in
    let d = c.both_each.new.wires.signals in
    let marks : c.as_slice.result.now ≡ spread_out c.args.spreads.now c.args.granted.now = c.as_slice.ensures ∙ c.in_ok-marks.ensures in
    of_two c.both_each.result (λ opens. MakesBits b d (length c.args.wants.now) opens (BothOf c.args.wants.now c.as_slice-2.result.now))
    (AddsBoths b d c.args.wants.now c.as_slice-2.result.now)
    (OpensBanks c.args.spreads.now c.args.granted.now c.args.wants.now a d)
    (λ opens shows wired. record {
      free = c.in_ok-free.free;
      with_free = b;
      frees = not_as a b c.as_slice.result.now (spread_out c.args.spreads.now c.args.granted.now) c.in_ok-free.free marks c.in_ok-free.ensures.shows;
      frees_wired = adds_not_as a b c.as_slice.result.now (spread_out c.args.spreads.now c.args.granted.now) c.in_ok-free.free marks c.in_ok-free.ensures.wired;
      shows = both_as b d c.args.wants.now c.as_slice-2.result.now c.args.wants.now c.in_ok-free.free opens refl c.as_slice-2.ensures shows;
      wired = adds_both_as b d c.args.wants.now c.as_slice-2.result.now c.args.wants.now c.in_ok-free.free opens refl c.as_slice-2.ensures wired;
    })
    c.both_each.ensures.shows c.both_each.ensures.wired
