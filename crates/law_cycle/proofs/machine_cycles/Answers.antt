use Rattle.law_cycle.proofs.ThreadMoves.{thread_starts, thread_moves, beats}
use Rattle.law_cycle.proofs.ThreadAsks.{thread_asks}
use Rattle.law_cycle.proofs.GrantedAccesses.{who_stays, granted_accesses, still_reading}
use Rattle.law_cycle.proofs.ThreadSteps.{thread_steps, thread_is_done}
use Rattle.law_cycle.proofs.BodiesFit.{bodies_fit}
use Rattle.law_cycle.proofs.Steps.{built_are_threads, each_steps, threads_are_done}
use Rattle.law_cycle.proofs.BuiltCode.{built_fits}
use Rattle.law_cycle.proofs.Next.{net_goes}
use Rattle.law_cycle.proofs.Granted.{who_wins}
use Rattle.law_cycle.proofs.CoreTurns.{each_turns}
use Rattle.law_cycle.proofs.MachineCycle.{net_cycles}
use Rattle.law_cycle.proofs.Clocked.{net_is_clocked}
use Rattle.law_cycle.proofs.Start.{net_starts}
use Rattle.law_cycle.proofs.machine_cycles.Goals as goal

pub returns-clause-thread_starts : goal.returns-clause-thread_starts
returns-clause-thread_starts c = thread_starts

pub returns-clause-thread_moves : goal.returns-clause-thread_moves
returns-clause-thread_moves c = thread_moves

pub returns-clause-beats : goal.returns-clause-beats
returns-clause-beats c = beats

pub returns-clause-thread_asks : goal.returns-clause-thread_asks
returns-clause-thread_asks c = thread_asks

pub returns-clause-who_stays : goal.returns-clause-who_stays
returns-clause-who_stays c = who_stays

pub returns-clause-granted_accesses : goal.returns-clause-granted_accesses
returns-clause-granted_accesses c = granted_accesses

pub returns-clause-still_reading : goal.returns-clause-still_reading
returns-clause-still_reading c = still_reading

pub returns-clause-thread_steps : goal.returns-clause-thread_steps
returns-clause-thread_steps c = thread_steps

pub returns-clause-thread_is_done : goal.returns-clause-thread_is_done
returns-clause-thread_is_done c = thread_is_done

pub returns-clause-bodies_fit : goal.returns-clause-bodies_fit
returns-clause-bodies_fit c = bodies_fit

pub returns-clause-built_are_threads : goal.returns-clause-built_are_threads
returns-clause-built_are_threads c = built_are_threads

pub returns-clause-each_steps : goal.returns-clause-each_steps
returns-clause-each_steps c = each_steps

pub returns-clause-threads_are_done : goal.returns-clause-threads_are_done
returns-clause-threads_are_done c = threads_are_done

pub returns-clause-built_fits : goal.returns-clause-built_fits
returns-clause-built_fits c = built_fits

pub returns-clause-net_goes : goal.returns-clause-net_goes
returns-clause-net_goes c = net_goes

pub returns-clause-who_wins : goal.returns-clause-who_wins
returns-clause-who_wins c = who_wins

pub returns-clause-each_turns : goal.returns-clause-each_turns
returns-clause-each_turns c = each_turns

pub returns-clause-net_cycles : goal.returns-clause-net_cycles
returns-clause-net_cycles c = net_cycles

pub returns-clause-net_is_clocked : goal.returns-clause-net_is_clocked
returns-clause-net_is_clocked c = net_is_clocked

pub returns-clause-net_starts : goal.returns-clause-net_starts
returns-clause-net_starts c = net_starts
