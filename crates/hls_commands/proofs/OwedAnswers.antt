-- What the answers of the commands and their stops owe.
use Rattle.hls_commands.proofs.RunLemmas.{stepped_owes, run_owes, replay_owes}
use Rattle.hls_commands.proofs.RefusalLemmas.{stops_check, stops_check_run, stops_walk, stop_owes}
use Rattle.hls_commands.proofs.SimLemmas.{sim_owes}
use Rattle.hls_commands.proofs.CheckLemmas.{check_owes, check_run_owes}
use Rattle.hls_commands.proofs.GeneratedLemmas.{generated_owes, stops_gen}

pub ruleset owed_steps = (stepped_owes, run_owes, replay_owes, sim_owes, check_owes, check_run_owes, generated_owes, stops_gen, stops_walk, stops_check, stops_check_run, stop_owes)
