use Rattle.fsm_plan.proofs.Orders.{plan_keeps_orders}
use Rattle.fsm_plan.proofs.OrdersAgree.{orders_agree}
use Rattle.fsm_plan.proofs.Right.{planned_is_right}
use Rattle.fsm_plan.proofs.Short.{plan_is_short}
use Rattle.fsm_plan.proofs.law.least_plans.Goals as goal

pub returns-clause-plan_keeps_orders : goal.returns-clause-plan_keeps_orders
returns-clause-plan_keeps_orders c = plan_keeps_orders

pub returns-clause-plan_is_short : goal.returns-clause-plan_is_short
returns-clause-plan_is_short c = plan_is_short

pub returns-clause-planned_is_right : goal.returns-clause-planned_is_right
returns-clause-planned_is_right c = planned_is_right

pub returns-clause-orders_agree : goal.returns-clause-orders_agree
returns-clause-orders_agree c = orders_agree
