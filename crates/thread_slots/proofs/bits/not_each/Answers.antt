use Rattle.std.proofs.lemmas.Option.{slice_get-get_or}
use Rattle.operator_wires.proofs.BuiltWires.{stands_after}
use Rattle.thread_slots.specs.Bits.{NotOf}
use Rattle.thread_slots.proofs.BitLists.{bits_none, not_more, adds_none, adds_more}
use Rattle.thread_slots.proofs.bits.not_each.Goals as goal

pub loop-bit-preserved : goal.loop-bit-preserved
loop-bit-preserved c =
    let here = slice_get-get_or c.args.bits.now c.loop-bit.bit-index _ c.loop-bit-test.true in
    record {
      shows =
          not_more c.args.wires.now.signals c.loop-bit.wires.signals c.not.new.self.signals c.args.bits.now c.loop-bit.bit-index _ c.in_ok-out.out c.loop-bit.outs c.push.new.self
          c.loop-bit.invariant.shows here c.in_ok-out.ensures.shows c.in_ok-push.ensures.ok;
      wired = λ base stand.
          let before = c.loop-bit.invariant.wired base stand in
          adds_more base c.args.wires.now.signals c.loop-bit.wires.signals c.not.new.self.signals c.loop-bit.outs c.push.new.self c.in_ok-out.out before
          (c.in_ok-out.ensures.wired base (stands_after c.args.wires.now.signals c.loop-bit.wires.signals base _ 1 before.wires.grows (stand c.loop-bit.bit-index _ here)))
          c.in_ok-push.ensures.ok;
    }

pub loop-bit-init : goal.loop-bit-init
loop-bit-init c = record {
  shows = bits_none (NotOf c.args.bits.now) c.args.wires.now.signals c.new-outs.result c.new-outs.ensures;
  wired = λ base stand. adds_none base c.args.wires.now.signals c.new-outs.result c.new-outs.ensures;
}
