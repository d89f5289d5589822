-- The laws stand in the files of proofs.
use Rattle.planned_block.proofs.BlockLaw.{block_keeps_to_run}
use Rattle.planned_block.proofs.Tables.{keeps_orders, packed, sequential_meets, sequential_packed, sequential_keeps}
use Rattle.planned_block.proofs.Total.{advance_is, is_closed_alone}
use Rattle.planned_block.proofs.Examples.{run_reads_and_writes, stalls_twice, sequential_rows}
use Rattle.planned_block.proofs.Budget.{followers_are_lowered}
use Rattle.planned_block.proofs.CycleChain.{are_planned, is_chain, somebody_moves, moves_change, planned_runs}
use Rattle.planned_block.proofs.laws.planned_blocks.Goals as goal

pub returns-clause-block_cycles : goal.returns-clause-block_cycles
returns-clause-block_cycles g c = λ bank b p banks keeps. block_keeps_to_run bank banks b p keeps

pub returns-clause-orders_kept : goal.returns-clause-orders_kept
returns-clause-orders_kept g c = λ b p ordered table packed_. keeps_orders b p ordered table packed_

pub returns-clause-rows_pack : goal.returns-clause-rows_pack
returns-clause-rows_pack g c = λ b p row rows. packed b p row rows

pub returns-clause-sequential_meets : goal.returns-clause-sequential_meets
returns-clause-sequential_meets g c = λ b ordered. sequential_meets b ordered

pub returns-clause-sequential_packed : goal.returns-clause-sequential_packed
returns-clause-sequential_packed g c = λ b. sequential_packed b

pub returns-clause-sequential_keeps : goal.returns-clause-sequential_keeps
returns-clause-sequential_keeps g c = λ b ordered. sequential_keeps b ordered

pub returns-clause-advance_advances : goal.returns-clause-advance_advances
returns-clause-advance_advances g c = λ bank b p banks keeps. advance_is bank b p keeps banks

pub returns-clause-closed_alone : goal.returns-clause-closed_alone
returns-clause-closed_alone g c = λ bank b p keeps. is_closed_alone bank b p keeps

pub returns-clause-small_run : goal.returns-clause-small_run
returns-clause-small_run g c = run_reads_and_writes

pub returns-clause-small_stalls : goal.returns-clause-small_stalls
returns-clause-small_stalls g c = stalls_twice

pub returns-clause-small_rows : goal.returns-clause-small_rows
returns-clause-small_rows g c = sequential_rows

pub returns-clause-followers_are_lowered : goal.returns-clause-followers_are_lowered
returns-clause-followers_are_lowered g c = followers_are_lowered g.F.Followed.source g.F.Followed.Typed g.F.Followed.AtAct

pub returns-clause-blocks_are_planned : goal.returns-clause-blocks_are_planned
returns-clause-blocks_are_planned g c = are_planned g.P.Planned.threads

pub returns-clause-cycle_is_chain : goal.returns-clause-cycle_is_chain
returns-clause-cycle_is_chain g c = is_chain g.P.Planned.threads

pub returns-clause-somebody_moves : goal.returns-clause-somebody_moves
returns-clause-somebody_moves g c = somebody_moves g.P.Planned.threads

pub returns-clause-moves_change : goal.returns-clause-moves_change
returns-clause-moves_change g c = moves_change g.P.Planned.threads

pub returns-clause-planned_runs : goal.returns-clause-planned_runs
returns-clause-planned_runs g c = planned_runs g.M.PlannedMachine.program
