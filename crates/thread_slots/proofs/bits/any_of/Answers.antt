use Rattle.std.proofs.Common.{true}
use Rattle.std.proofs.lemmas.Option.{slice_get-get_or}
use Rattle.operator_wires.proofs.BuiltWires.{wires_none}
use Rattle.thread_slots.proofs.BitLists.{any_none, any_more, either_all, adds_any}
use Rattle.thread_slots.proofs.bits.any_of.Goals as goal

pub loop-bit-preserved : goal.loop-bit-preserved
loop-bit-preserved c =
    let here = slice_get-get_or c.args.bits.now c.loop-bit.bit-index _ c.loop-bit-test.true in
    record {
      shows =
          any_more c.args.wires.now.signals c.loop-bit.wires.signals c.either.new.self.signals c.args.first c.args.bits.now
          (λ k. true) c.loop-bit.bit-index _ c.loop-bit.any c.in_ok-next.next
          c.loop-bit.invariant.shows here (either_all c.loop-bit.wires.signals c.either.new.self.signals c.loop-bit.any _ c.in_ok-next.next c.in_ok-next.ensures.shows);
      wired =
          adds_any c.args.wires.now.signals c.loop-bit.wires.signals c.either.new.self.signals c.args.first c.loop-bit.any c.in_ok-next.next _ c.loop-bit.bit-index c.args.bits.now
          c.loop-bit.invariant.wired here c.in_ok-next.ensures.wired;
    }

pub loop-bit-init : goal.loop-bit-init
loop-bit-init c = record {
  shows = any_none c.args.wires.now.signals c.args.first c.args.bits.now (λ k. true);
  wired = λ base stand one. record { wires = wires_none base c.args.wires.now.signals; stands = one };
}
