use Rattle.core_family.proofs.OffersToAskers as waiting
use Rattle.core_family.proofs.OnePrinter.{each_fits, last_prints, others_silent}
use Rattle.core_family.proofs.ToldFits.{each_keeps_fitting}
use Rattle.core_family.proofs.law.each_core.Goals as goal

pub returns-clause-each_waits : goal.returns-clause-each_waits
returns-clause-each_waits c = waiting.each_waits

pub returns-clause-each_fits : goal.returns-clause-each_fits
returns-clause-each_fits c = each_fits

pub returns-clause-last_prints : goal.returns-clause-last_prints
returns-clause-last_prints c = last_prints

pub returns-clause-others_are_silent : goal.returns-clause-others_are_silent
returns-clause-others_are_silent c = others_silent

pub returns-clause-each_keeps_fitting : goal.returns-clause-each_keeps_fitting
returns-clause-each_keeps_fitting c = each_keeps_fitting
