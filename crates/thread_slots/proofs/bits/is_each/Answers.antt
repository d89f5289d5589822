use Rattle.std.proofs.Common.{◌<◌, ◌^◌, arith}
use Rattle.operator_wires.proofs.BuiltWires.{stands_after}
use Rattle.thread_slots.specs.Bits.{NumberOf}
use Rattle.thread_slots.proofs.BitLists.{bits_none, number_more, adds_none, adds_more}
use Rattle.thread_slots.proofs.bits.is_each.Goals as goal

pub loop-number-preserved : goal.loop-number-preserved
loop-number-preserved c = record {
  shows =
      number_more c.args.wires.now.signals c.loop-number.wires.signals c.is_number.new.self.signals c.args.of c.loop-number.number c.in_ok-out.out c.loop-number.outs
      c.push.new.self c.loop-number.invariant.shows c.in_ok-out.ensures.shows c.in_ok-push.ensures.ok;
  wired = λ base stand.
      let before = c.loop-number.invariant.wired base stand in
      let less = c.loop-number-test.true in
      let high = c.ranges.count.fits in
      let small : c.loop-number.number < 2 ^ 64 = omega arith in
      adds_more base c.args.wires.now.signals c.loop-number.wires.signals c.is_number.new.self.signals c.loop-number.outs c.push.new.self c.in_ok-out.out before
      (c.in_ok-out.ensures.wired base (stands_after c.args.wires.now.signals c.loop-number.wires.signals base c.args.of 64 before.wires.grows stand) small)
      c.in_ok-push.ensures.ok;
}

pub loop-number-init : goal.loop-number-init
loop-number-init c = record {
  shows = bits_none (NumberOf c.args.of) c.args.wires.now.signals c.new-outs.result c.new-outs.ensures;
  wired = λ base stand. adds_none base c.args.wires.now.signals c.new-outs.result c.new-outs.ensures;
}
