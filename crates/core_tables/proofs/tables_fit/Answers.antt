use Rattle.core_tables.proofs.CoresFit.{cores_fit}
use Rattle.core_tables.proofs.TablesFit as fitting
use Rattle.core_tables.proofs.CoreNames.{cores_are_named}
use Rattle.core_tables.proofs.Threads.{threads_fit}
use Rattle.core_tables.proofs.Widths.{thread_ports}
use Rattle.core_tables.proofs.OneWriter.{printers_write}
use Rattle.core_tables.proofs.Sound.{tables_are_sound}
use Rattle.core_tables.proofs.TableNets.{tables_are_nets}
use Rattle.core_tables.proofs.TablesKeep.{tables_keep_promises}
use Rattle.core_tables.proofs.tables_fit.Goals as goal

pub returns-clause-cores : goal.returns-clause-cores
returns-clause-cores c = cores_fit

pub returns-clause-tables : goal.returns-clause-tables
returns-clause-tables c = fitting.tables_fit

pub returns-clause-threads : goal.returns-clause-threads
returns-clause-threads c = thread_ports

pub returns-clause-names : goal.returns-clause-names
returns-clause-names c = cores_are_named

pub returns-clause-writer : goal.returns-clause-writer
returns-clause-writer c = printers_write

pub returns-clause-modules : goal.returns-clause-modules
returns-clause-modules c = threads_fit

pub returns-clause-sound : goal.returns-clause-sound
returns-clause-sound c = tables_are_sound

pub returns-clause-promises : goal.returns-clause-promises
returns-clause-promises c = tables_keep_promises

pub returns-clause-nets : goal.returns-clause-nets
returns-clause-nets c = tables_are_nets
