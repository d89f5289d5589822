use Rattle.commands_follow.proofs.CommandsShow.{steps_show, runs_show, replays_show, generated_show}
use Rattle.commands_follow.proofs.commands_follow.Goals as goal

pub returns : goal.returns
returns c = record { steps = steps_show; runs = runs_show; replays = replays_show; generated = generated_show }
