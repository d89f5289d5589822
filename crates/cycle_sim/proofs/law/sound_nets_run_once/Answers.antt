use Rattle.cycle_sim.proofs.PrinterInstance.{one_printer}
use Rattle.cycle_sim.proofs.Right.{right_of_sound}
use Rattle.cycle_sim.proofs.Enables.{threads_of_sound}
use Rattle.cycle_sim.proofs.TakenChoices.{openable_of_sound}
use Rattle.cycle_sim.proofs.FlatLaws.{settles_alike, cycle_once, cycle_alike, runs_once, shows_once}
use Rattle.cycle_sim.proofs.law.sound_nets_run_once.Goals as goal

pub returns-clause-right_of_sound : goal.returns-clause-right_of_sound
returns-clause-right_of_sound c = right_of_sound

pub returns-clause-one_printer_of_sound : goal.returns-clause-one_printer_of_sound
returns-clause-one_printer_of_sound c = one_printer

pub returns-clause-threads_of_sound : goal.returns-clause-threads_of_sound
returns-clause-threads_of_sound c = threads_of_sound

pub returns-clause-openable_of_sound : goal.returns-clause-openable_of_sound
returns-clause-openable_of_sound c = openable_of_sound

pub returns-clause-settles_alike : goal.returns-clause-settles_alike
returns-clause-settles_alike c = settles_alike

pub returns-clause-cycle_once : goal.returns-clause-cycle_once
returns-clause-cycle_once c = cycle_once

pub returns-clause-cycle_alike : goal.returns-clause-cycle_alike
returns-clause-cycle_alike c = cycle_alike

pub returns-clause-runs_once : goal.returns-clause-runs_once
returns-clause-runs_once c = runs_once

pub returns-clause-shows_once : goal.returns-clause-shows_once
returns-clause-shows_once c = shows_once
