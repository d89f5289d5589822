use Rattle.std.proofs.Common.{rules, ◌≡◌, ◌<◌, length, slice_index, subst, sym}
use Rattle.std.proofs.lemmas.Option.{slice_get_within, slice_get-get_or}
use Rattle.operator_wires.proofs.BuiltWires.{stands_after}
use Rattle.operator_wires.specs.Built.{IsEarlier}
use Rattle.thread_slots.specs.Bits.{BothOf}
use Rattle.thread_slots.proofs.BitLists.{bits_none, both_more, adds_none, adds_more}
use Rattle.thread_slots.proofs.bits.both_each.Goals as goal

pub loop-number-preserved : goal.loop-number-preserved
loop-number-preserved c =
    let there : c.unwrap_or-other.result ≡ slice_index c.args.right.now c.loop-number.number = search rules in
    let here = slice_get-get_or c.args.left.now c.loop-number.number _ c.loop-number-test.true in
    record {
      shows =
          both_more c.args.wires.now.signals c.loop-number.wires.signals c.both.new.self.signals c.args.left.now c.args.right.now c.loop-number.number _ c.unwrap_or-other.result
          c.in_ok-out.out
          c.loop-number.outs c.push.new.self c.loop-number.invariant.shows here there c.in_ok-out.ensures.shows c.in_ok-push.ensures.ok;
      wired = λ base left right same.
          let before = c.loop-number.invariant.wired base left right same in
          let less : c.loop-number.number < length c.args.right.now =
          subst (λ n. c.loop-number.number < n) same (slice_get_within c.args.left.now c.loop-number.number _ here) in
          let other = right c.loop-number.number _ (slice_get-get_or c.args.right.now c.loop-number.number 0 less) in
          adds_more base c.args.wires.now.signals c.loop-number.wires.signals c.both.new.self.signals c.loop-number.outs c.push.new.self c.in_ok-out.out before
          (c.in_ok-out.ensures.wired base (stands_after c.args.wires.now.signals c.loop-number.wires.signals base _ 1 before.wires.grows (left c.loop-number.number _ here))
          (subst (λ p. IsEarlier c.loop-number.wires.signals base p 1) (sym there)
          (stands_after c.args.wires.now.signals c.loop-number.wires.signals base _ 1 before.wires.grows other))) c.in_ok-push.ensures.ok;
    }

pub loop-number-init : goal.loop-number-init
loop-number-init c = record {
  shows = bits_none (BothOf c.args.left.now c.args.right.now) c.args.wires.now.signals c.new-outs.result c.new-outs.ensures;
  wired = λ base left right same. adds_none base c.args.wires.now.signals c.new-outs.result c.new-outs.ensures;
}
