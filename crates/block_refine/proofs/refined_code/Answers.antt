use Rattle.block_refine.proofs.RoutineActs.{acts_are_steps, returns_are_steps}
use Rattle.block_refine.proofs.RoutineLaws.{code_follows, blocks_are_steps}
use Rattle.block_refine.proofs.Words.{words_print}
use Rattle.block_refine.proofs.refined_code.Goals as goal

pub returns-clause-code_follows : goal.returns-clause-code_follows
returns-clause-code_follows c = code_follows

pub returns-clause-blocks_are_steps : goal.returns-clause-blocks_are_steps
returns-clause-blocks_are_steps c = blocks_are_steps

pub returns-clause-acts_are_steps : goal.returns-clause-acts_are_steps
returns-clause-acts_are_steps c = acts_are_steps

pub returns-clause-returns_are_steps : goal.returns-clause-returns_are_steps
returns-clause-returns_are_steps c = returns_are_steps

pub returns-clause-words_print : goal.returns-clause-words_print
returns-clause-words_print c = words_print
