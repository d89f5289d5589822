use Rattle.run_command.proofs.CycleCount.{are_its_choices}
use Rattle.run_command.proofs.count.counts_choices.Goals as goal

pub returns : goal.returns
returns c = are_its_choices
