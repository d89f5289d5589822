use Rattle.std.proofs.Common.{◌≡◌, length, subst, arith}
use Rattle.std.proofs.lemmas.Option.{slice_get-get_or}
use Rattle.operator_wires.proofs.BuiltWires.{wires_none}
use Rattle.thread_slots.specs.Bits.{MakesAny, is_in}
use Rattle.thread_slots.proofs.BitLists.{any_none, any_more, adds_any}
use Rattle.thread_slots.proofs.bits.any_within.Goals as goal

pub loop-number-preserved : goal.loop-number-preserved
loop-number-preserved c =
    let here = slice_get-get_or c.args.bits.now c.loop-number.number _ c.loop-number-test.true in
    record {
      shows =
          any_more c.args.wires.now.signals c.loop-number.wires.signals c.either_within.new.wires.signals c.args.first c.args.bits.now
          (is_in c.args.spread) c.loop-number.number _ c.loop-number.any
          c.in_ok-next.next c.loop-number.invariant.shows here c.in_ok-next.ensures.shows;
      wired =
          adds_any c.args.wires.now.signals c.loop-number.wires.signals c.either_within.new.wires.signals c.args.first c.loop-number.any c.in_ok-next.next _ c.loop-number.number
          c.args.bits.now c.loop-number.invariant.wired here c.in_ok-next.ensures.wired;
    }

pub loop-number-init : goal.loop-number-init
loop-number-init c = record {
  shows = any_none c.args.wires.now.signals c.args.first c.args.bits.now (is_in c.args.spread);
  wired = λ base stand one. record { wires = wires_none base c.args.wires.now.signals; stands = one };
}

pub returns-clause-shows : goal.returns-clause-shows
returns-clause-shows c =
    let all : c.loop-number.number ≡ length c.args.bits.now = omega arith in
    subst (λ n. MakesAny c.args.wires.now.signals c.loop-number.wires.signals c.args.first c.args.bits.now (is_in c.args.spread) n c.loop-number.any) all
    c.loop-number.invariant.shows
