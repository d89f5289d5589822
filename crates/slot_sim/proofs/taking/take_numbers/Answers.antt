use Rattle.slot_sim.proofs.Takes.{number_on}
use Rattle.slot_sim.proofs.taking.take_numbers.Goals as goal

pub loop-number-preserved : goal.loop-number-preserved
loop-number-preserved c =
    number_on c.args.sim.now c.loop-number.sim c.put_number.new.self c.args.other.now c.args.base c.loop-number.number c.args.signals.now c.number-word.result c.loop-number-test.true
    c.loop-number.invariant c.number-word.ensures c.put_number.ensures
