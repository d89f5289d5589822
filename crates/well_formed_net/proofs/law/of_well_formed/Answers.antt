use Rattle.well_formed_net.proofs.Example.{opens}
use Rattle.well_formed_net.proofs.Modules.{fits_of_well_formed}
use Rattle.well_formed_net.proofs.Openable.{openable_of_well_formed}
use Rattle.well_formed_net.proofs.Prints.{modules_apart, stands_earlier, printing}
use Rattle.well_formed_net.proofs.ReadAgain.{read_again}
use Rattle.well_formed_net.proofs.RunsOnce.{runs_alike}
use Rattle.well_formed_net.proofs.Texts.{openable_text}
use Rattle.well_formed_net.proofs.law.of_well_formed.Goals as goal

pub returns-clause-fits : goal.returns-clause-fits
returns-clause-fits c = fits_of_well_formed

pub returns-clause-ordered : goal.returns-clause-ordered
returns-clause-ordered c = λ n is. record { names = modules_apart n is; earlier = stands_earlier n is }

pub returns-clause-printing : goal.returns-clause-printing
returns-clause-printing c = printing

pub returns-clause-openable : goal.returns-clause-openable
returns-clause-openable c = openable_of_well_formed

pub returns-clause-text : goal.returns-clause-text
returns-clause-text c = openable_text

pub returns-clause-one_bit : goal.returns-clause-one_bit
returns-clause-one_bit c = opens

pub returns-clause-again : goal.returns-clause-again
returns-clause-again c = read_again

pub returns-clause-once : goal.returns-clause-once
returns-clause-once c = runs_alike
