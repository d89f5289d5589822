use Rattle.mutex_cores.proofs.MutexWords.{lock_blocked, lock_is_granted, mutex_waits}
use Rattle.mutex_cores.proofs.law.mutexes_are_granted.Goals as goal

pub returns-clause-lock_blocked : goal.returns-clause-lock_blocked
returns-clause-lock_blocked c = lock_blocked

pub returns-clause-lock_is_granted : goal.returns-clause-lock_is_granted
returns-clause-lock_is_granted c = lock_is_granted

pub returns-clause-mutex_waits : goal.returns-clause-mutex_waits
returns-clause-mutex_waits c = mutex_waits
