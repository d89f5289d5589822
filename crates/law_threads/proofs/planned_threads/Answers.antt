use Rattle.law_threads.proofs.Awake.{stands_awake}
use Rattle.law_threads.proofs.WhoBlocks.{marks_threads, what_blocks}
use Rattle.law_threads.proofs.Fits.{fits_threads}
use Rattle.law_threads.proofs.Requests.{all_are_steps}
use Rattle.law_threads.proofs.KeptTold.{runners_stay, passers_stay, waiters_count}
use Rattle.law_threads.proofs.planned_threads.Goals as goal

pub returns-clause-requests_are_steps : goal.returns-clause-requests_are_steps
returns-clause-requests_are_steps c = all_are_steps

pub returns-clause-starts_awake : goal.returns-clause-starts_awake
returns-clause-starts_awake c = stands_awake

pub returns-clause-threads_fit : goal.returns-clause-threads_fit
returns-clause-threads_fit c = fits_threads

pub returns-clause-end_is_marked : goal.returns-clause-end_is_marked
returns-clause-end_is_marked c = marks_threads

pub returns-clause-what_blocks : goal.returns-clause-what_blocks
returns-clause-what_blocks c = what_blocks

pub returns-clause-runners_stay : goal.returns-clause-runners_stay
returns-clause-runners_stay c = runners_stay

pub returns-clause-passers_stay : goal.returns-clause-passers_stay
returns-clause-passers_stay c = passers_stay

pub returns-clause-waiters_count : goal.returns-clause-waiters_count
returns-clause-waiters_count c = waiters_count
