use Rattle.std.proofs.lemmas.Option.{slice_get-get_or}
use Rattle.operator_wires.proofs.BuiltWires.{stands_after}
use Rattle.thread_slots.specs.Bits.{WithOf}
use Rattle.thread_slots.proofs.BitLists.{bits_none, with_more, laid_none, laid_more, adds_none, adds_more}
use Rattle.thread_slots.proofs.bits.both_with.Goals as goal

pub loop-bit-preserved : goal.loop-bit-preserved
loop-bit-preserved c =
    let here = slice_get-get_or c.args.bits.now c.loop-bit.bit-index _ c.loop-bit-test.true in
    record {
      shows =
          with_more c.args.wires.now.signals c.loop-bit.wires.signals c.both.new.self.signals c.args.bits.now c.loop-bit.bit-index _ c.args.other c.in_ok-out.out c.loop-bit.outs
          c.push.new.self
          c.loop-bit.invariant.shows here c.in_ok-out.ensures.shows c.in_ok-push.ensures.ok;
      laid =
          laid_more c.args.wires.now.signals c.loop-bit.wires.signals c.both.new.self.signals c.args.bits.now c.args.other c.loop-bit.bit-index _ c.in_ok-out.out c.loop-bit.outs
          c.push.new.self
          c.loop-bit.invariant.laid here c.in_ok-out.ensures.laid c.in_ok-push.ensures.ok;
      wired = λ base stand other.
          let before = c.loop-bit.invariant.wired base stand other in
          adds_more base c.args.wires.now.signals c.loop-bit.wires.signals c.both.new.self.signals c.loop-bit.outs c.push.new.self c.in_ok-out.out before
          (c.in_ok-out.ensures.wired base (stands_after c.args.wires.now.signals c.loop-bit.wires.signals base _ 1 before.wires.grows (stand c.loop-bit.bit-index _ here))
          (stands_after c.args.wires.now.signals c.loop-bit.wires.signals base c.args.other 1 before.wires.grows other)) c.in_ok-push.ensures.ok;
    }

pub loop-bit-init : goal.loop-bit-init
loop-bit-init c = record {
  shows = bits_none (WithOf c.args.bits.now c.args.other) c.args.wires.now.signals c.new-outs.result c.new-outs.ensures;
  laid = laid_none c.args.wires.now.signals c.args.bits.now c.args.other c.new-outs.result c.new-outs.ensures;
  wired = λ base stand other. adds_none base c.args.wires.now.signals c.new-outs.result c.new-outs.ensures;
}
