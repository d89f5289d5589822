use Rattle.loop_plans.proofs.ScheduledLoops.{tables_agree, plan_keeps_loop}
use Rattle.loop_plans.proofs.SameSchedules.{schedules_agree}
use Rattle.loop_plans.proofs.laws.scheduled_loops.Goals as goal

pub returns-clause-tables_agree : goal.returns-clause-tables_agree
returns-clause-tables_agree c = tables_agree

pub returns-clause-plan_keeps_loop : goal.returns-clause-plan_keeps_loop
returns-clause-plan_keeps_loop c = plan_keeps_loop c.table_keeps_loop.ensures

pub returns-clause-schedules_agree : goal.returns-clause-schedules_agree
returns-clause-schedules_agree c = schedules_agree
