use Rattle.std.proofs.Common.{arith, length, refl}
use Rattle.std.proofs.lemmas.Option.{slice_get_read}
use Rattle.loop_plans.proofs.UseLists.{are_uses, are_carried, uses_next, uses_whole}
use Rattle.loop_plans.proofs.carried.carried_of.Goals as goal

pub loop-number-preserved : goal.loop-number-preserved
loop-number-preserved c =
    uses_next c.args.finals.now c.args.operations.now c.loop-number.number c.index-operations-number.result c.loop-number.list.items c.put_uses.new.list.items
    (slice_get_read c.args.operations.now (length c.args.operations.now) c.loop-number.number c.index-operations-number.result refl c.loop-number-test.true c.index-operations-number.is)
    c.loop-number.invariant c.in_ok-put_uses.ensures

pub returns-clause-uses : goal.returns-clause-uses
returns-clause-uses c =
    are_uses c.args.finals.now c.args.operations.now c.loop-number.list.items
    (uses_whole c.args.finals.now c.args.operations.now c.loop-number.number c.loop-number.list.items (omega (arith, c.loop-number-test.false)) c.loop-number.invariant)

pub returns-clause-carried : goal.returns-clause-carried
returns-clause-carried c =
    are_carried c.args.operations.now c.args.finals.now c.loop-number.list.items c.requires.finals c.requires.few
    (uses_whole c.args.finals.now c.args.operations.now c.loop-number.number c.loop-number.list.items (omega (arith, c.loop-number-test.false)) c.loop-number.invariant)
