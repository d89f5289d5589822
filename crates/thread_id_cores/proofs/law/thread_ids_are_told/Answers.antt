use Rattle.thread_id_cores.proofs.RunnersKept.{runners, in_cycle, stays_told}
use Rattle.thread_id_cores.proofs.ShownTable.{thread_ids_wait}
use Rattle.thread_id_cores.proofs.law.thread_ids_are_told.Goals as goal

pub returns-clause-runners_stay : goal.returns-clause-runners_stay
returns-clause-runners_stay c = runners

pub returns-clause-runners_stay_in_cycle : goal.returns-clause-runners_stay_in_cycle
returns-clause-runners_stay_in_cycle c = in_cycle

pub returns-clause-runners_stay_told : goal.returns-clause-runners_stay_told
returns-clause-runners_stay_told c = stays_told

pub returns-clause-thread_ids_wait : goal.returns-clause-thread_ids_wait
returns-clause-thread_ids_wait c = thread_ids_wait
