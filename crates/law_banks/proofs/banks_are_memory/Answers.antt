use Rattle.law_banks.proofs.HeldMemory.{holds_after}
use Rattle.law_banks.proofs.BankChanges.{bank_changes}
use Rattle.law_banks.proofs.AskingOperation.{stopped_is_silent}
use Rattle.law_banks.proofs.BankMoves.{bank_moves}
use Rattle.law_banks.proofs.OwnedMemory.{memory_has_all, places_are_owned, answered_is_owned}
use Rattle.law_banks.proofs.Partitioned.{partition_is_banked, start_holds, words_fit}
use Rattle.law_banks.proofs.banks_are_memory.Goals as goal

pub returns-clause-holds_after : goal.returns-clause-holds_after
returns-clause-holds_after c = holds_after

pub returns-clause-bank_changes : goal.returns-clause-bank_changes
returns-clause-bank_changes c = bank_changes

pub returns-clause-stopped_is_silent : goal.returns-clause-stopped_is_silent
returns-clause-stopped_is_silent c = stopped_is_silent

pub returns-clause-bank_moves : goal.returns-clause-bank_moves
returns-clause-bank_moves c = bank_moves

pub returns-clause-memory_has_all : goal.returns-clause-memory_has_all
returns-clause-memory_has_all c = memory_has_all

pub returns-clause-places_are_owned : goal.returns-clause-places_are_owned
returns-clause-places_are_owned c = places_are_owned

pub returns-clause-answered_is_owned : goal.returns-clause-answered_is_owned
returns-clause-answered_is_owned c = answered_is_owned

pub returns-clause-partition_is_banked : goal.returns-clause-partition_is_banked
returns-clause-partition_is_banked c = partition_is_banked

pub returns-clause-start_holds : goal.returns-clause-start_holds
returns-clause-start_holds c = start_holds

pub returns-clause-words_fit : goal.returns-clause-words_fit
returns-clause-words_fit c = words_fit
