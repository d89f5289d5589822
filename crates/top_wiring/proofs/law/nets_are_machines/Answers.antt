use Rattle.top_wiring.proofs.FoundParts.{tops_are_found}
use Rattle.top_wiring.proofs.Netted as netted
use Rattle.top_wiring.proofs.NetStages.{nets_have_stages, nets_settle}
use Rattle.top_wiring.proofs.OneMachine as running
use Rattle.top_wiring.proofs.law.nets_are_machines.Goals as goal

pub returns-clause-is_one_machine : goal.returns-clause-is_one_machine
returns-clause-is_one_machine g c = running.is_one_machine g.M.Machines.threads g.M.Machines.cores g.M.Machines.places

pub returns-clause-tops_are_found : goal.returns-clause-tops_are_found
returns-clause-tops_are_found g c = tops_are_found

pub returns-clause-nets_have_stages : goal.returns-clause-nets_have_stages
returns-clause-nets_have_stages g c = nets_have_stages

pub returns-clause-settles_once : goal.returns-clause-settles_once
returns-clause-settles_once g c = nets_settle

pub returns-clause-nets_are_sound : goal.returns-clause-nets_are_sound
returns-clause-nets_are_sound g c = netted.nets_are_sound
