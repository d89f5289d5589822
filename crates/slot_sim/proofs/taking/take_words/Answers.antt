use Rattle.slot_sim.proofs.Takes.{word_on}
use Rattle.slot_sim.proofs.taking.take_words.Goals as goal

pub loop-number-preserved : goal.loop-number-preserved
loop-number-preserved c =
    word_on c.args.sim.now c.loop-number.sim c.put_word.new.self c.args.other.now c.args.first c.args.memory c.loop-number.number c.args.stored.now c.word_of-word.result c.loop-number-test.true
    c.loop-number.invariant c.word_of-word.ensures c.put_word.ensures
