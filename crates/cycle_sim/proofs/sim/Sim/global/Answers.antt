use Rattle.cycle_sim.proofs.Elements.{word_is, word_only, word_none}
use Rattle.cycle_sim.proofs.sim.Sim.global.Goals as goal

pub returns-clause-word : goal.returns-clause-word
returns-clause-word c = word_is c.args.self.now c.global_word.ensures.stands c.args.name.now c.args.element c.global_word.result c.global_word.ensures.word

pub returns-clause-only : goal.returns-clause-only
returns-clause-only c = word_only c.args.self.now c.global_word.ensures.stands c.args.name.now c.args.element c.global_word.result c.global_word.ensures.word

pub returns-clause-none : goal.returns-clause-none
returns-clause-none c = word_none c.args.self.now c.global_word.ensures.stands c.args.name.now c.args.element c.global_word.result c.global_word.ensures.word
