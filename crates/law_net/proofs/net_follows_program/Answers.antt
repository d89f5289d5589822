use Rattle.law_net.proofs.ThreadsStart.{threads_start}
use Rattle.law_net.proofs.ThreadsArePlanned.{threads_planned}
use Rattle.law_net.proofs.MachineFollows.{machine_follows, machine_follows_from}
use Rattle.law_net.proofs.NetFollows.{net_follows}
use Rattle.law_net.proofs.NetFollowsFrom.{net_follows_from}
use Rattle.law_net.proofs.WiredFollow.{tables_are_whole, wired_follow}
use Rattle.law_net.proofs.Alike.{runs_as_top, writes_as_top, ends_as_top}
use Rattle.law_net.proofs.Found.{round_is_found}
use Rattle.law_net.proofs.Prefs.{prefs_are_counted}
use Rattle.law_net.proofs.Stepped.{steps_as_round}
use Rattle.law_net.proofs.Rounded.{rounds_stand}
use Rattle.law_net.proofs.Stateless.{arbiter_holds, top_holds}
use Rattle.law_net.proofs.TablesAreThreaded.{net_of_table_is_threaded}
use Rattle.law_net.proofs.TablesGrant.{cores_of_table_are_served, net_of_table_grants}
use Rattle.law_net.proofs.LaidTablesAreWhole.{laid_tables_are_whole}
use Rattle.law_net.proofs.LaidTablesAreGood.{each_thread_stands, laid_tables_are_good, placed_tables_are_laid}
use Rattle.law_net.proofs.TextsAreGood.{texts_are_nets, texts_are_good}
use Rattle.law_net.proofs.PartsAreGood.{parts_are_good}
use Rattle.law_net.proofs.net_follows_program.Goals as goal

pub returns-clause-threads_start : goal.returns-clause-threads_start
returns-clause-threads_start c = threads_start

pub returns-clause-threads_are_planned : goal.returns-clause-threads_are_planned
returns-clause-threads_are_planned c = threads_planned

pub returns-clause-machine_follows : goal.returns-clause-machine_follows
returns-clause-machine_follows c = machine_follows

pub returns-clause-machine_follows_from : goal.returns-clause-machine_follows_from
returns-clause-machine_follows_from c = machine_follows_from

pub returns-clause-net_follows : goal.returns-clause-net_follows
returns-clause-net_follows c = net_follows

pub returns-clause-net_follows_from : goal.returns-clause-net_follows_from
returns-clause-net_follows_from c = net_follows_from

pub returns-clause-tables_are_whole : goal.returns-clause-tables_are_whole
returns-clause-tables_are_whole c = tables_are_whole

pub returns-clause-wired_follow : goal.returns-clause-wired_follow
returns-clause-wired_follow c = wired_follow

pub returns-clause-runs_as_top : goal.returns-clause-runs_as_top
returns-clause-runs_as_top c = runs_as_top

pub returns-clause-writes_as_top : goal.returns-clause-writes_as_top
returns-clause-writes_as_top c = writes_as_top

pub returns-clause-ends_as_top : goal.returns-clause-ends_as_top
returns-clause-ends_as_top c = ends_as_top

pub returns-clause-round_is_found : goal.returns-clause-round_is_found
returns-clause-round_is_found c = round_is_found

pub returns-clause-prefs_are_counted : goal.returns-clause-prefs_are_counted
returns-clause-prefs_are_counted c = prefs_are_counted

pub returns-clause-steps_as_round : goal.returns-clause-steps_as_round
returns-clause-steps_as_round c = steps_as_round

pub returns-clause-rounds_stand : goal.returns-clause-rounds_stand
returns-clause-rounds_stand c = rounds_stand

pub returns-clause-arbiters_hold_nothing : goal.returns-clause-arbiters_hold_nothing
returns-clause-arbiters_hold_nothing c = arbiter_holds

pub returns-clause-tops_hold_nothing : goal.returns-clause-tops_hold_nothing
returns-clause-tops_hold_nothing c = top_holds

pub returns-clause-net_of_table_is_threaded : goal.returns-clause-net_of_table_is_threaded
returns-clause-net_of_table_is_threaded c = net_of_table_is_threaded

pub returns-clause-net_of_table_grants : goal.returns-clause-net_of_table_grants
returns-clause-net_of_table_grants c = net_of_table_grants

pub returns-clause-cores_of_table_are_served : goal.returns-clause-cores_of_table_are_served
returns-clause-cores_of_table_are_served c = cores_of_table_are_served

pub returns-clause-laid_tables_are_whole : goal.returns-clause-laid_tables_are_whole
returns-clause-laid_tables_are_whole c = laid_tables_are_whole

pub returns-clause-threads_stand : goal.returns-clause-threads_stand
returns-clause-threads_stand c = each_thread_stands

pub returns-clause-placed_tables_are_laid : goal.returns-clause-placed_tables_are_laid
returns-clause-placed_tables_are_laid c = placed_tables_are_laid

pub returns-clause-texts_are_nets : goal.returns-clause-texts_are_nets
returns-clause-texts_are_nets c = texts_are_nets

pub returns-clause-texts_are_good : goal.returns-clause-texts_are_good
returns-clause-texts_are_good c = texts_are_good

pub returns-clause-laid_tables_are_good : goal.returns-clause-laid_tables_are_good
returns-clause-laid_tables_are_good c = laid_tables_are_good

pub returns-clause-parts_are_good : goal.returns-clause-parts_are_good
returns-clause-parts_are_good c = parts_are_good
