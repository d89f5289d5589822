use Rattle.block_datapath.proofs.ConditionalChains.{stage_answer}
use Rattle.block_datapath.proofs.states.at_stage.Goals as goal

pub returns-clause-shows : goal.returns-clause-shows
returns-clause-shows c = stage_answer c.is_number.result c.args.wires.now.signals c.is_number.new.self.signals c.args.registers.now c.args.stage c.is_number.ensures.shows
