use Rattle.std.proofs.Common.{◌∙◌}
use Rattle.std.proofs.lemmas.Option.{slice_get-get_or}
use Rattle.operator_wires.proofs.BuiltWires.{stands_after}
use Rattle.thread_states.specs.Control.{Remembered}
use Rattle.thread_states.proofs.LeftStates.{marks_more}
use Rattle.thread_slots.proofs.BitLists.{bits_none, adds_none, adds_more, of_bits_later}
use Rattle.thread_states.proofs.control.remember.Goals as goal

pub loop-number-preserved : goal.loop-number-preserved
loop-number-preserved c =
    let here = slice_get-get_or c.args.granted.now c.loop-number.number _ c.loop-number-test.true in
    record {
      shows =
          marks_more c.args.wires.now.signals c.loop-number.wires.signals c.remember_one.new.wires.signals c.args.granted.now c.args.got.now c.args.spreads.now c.copied-spread.result
          c.args.stay
          c.loop-number.number _ c.in_ok-next.next c.loop-number.nexts c.push.new.self c.loop-number.invariant.shows here (c.copied-spread.ensures ∙ c.at.ensures) c.in_ok-next.ensures.shows
          c.in_ok-push.ensures.ok;
      wired = λ base granted wins stay.
          let before = c.loop-number.invariant.wired base granted wins stay in
          let more = before.wires.grows in
          adds_more base c.args.wires.now.signals c.loop-number.wires.signals c.remember_one.new.wires.signals c.loop-number.nexts c.push.new.self c.in_ok-next.next before
          (c.in_ok-next.ensures.wired base (stands_after c.args.wires.now.signals c.loop-number.wires.signals base _ 1 more (granted c.loop-number.number _ here))
          (of_bits_later base c.args.wires.now.signals c.loop-number.wires.signals c.args.got.now more wins)
          (stands_after c.args.wires.now.signals c.loop-number.wires.signals base c.args.stay 1 more stay)) c.in_ok-push.ensures.ok;
    }

pub loop-number-init : goal.loop-number-init
loop-number-init c = record {
  shows = bits_none (Remembered c.args.granted.now c.args.got.now c.args.spreads.now c.args.stay) c.args.wires.now.signals c.new-nexts.result c.new-nexts.ensures;
  wired = λ base granted wins stay. adds_none base c.args.wires.now.signals c.new-nexts.result c.new-nexts.ensures;
}
