-- A planned code is right.
use Rattle.std.proofs.Common.{◌≡◌, ℕ, ◌<◌, ◌≤◌, List, [], ◌∷◌, length, Some, sym, ◌∙◌, arith}
use Rattle.block_ir.specs.declared.block.Block.{Block}
use Rattle.block_ir.specs.declared.code.Stage.{Stage}
use Rattle.block_ir.specs.declared.code.Stage.TheVariants as stage
use Rattle.block_ir.specs.declared.plan.BlockPlan.{BlockPlan}
use Rattle.block_ir.specs.declared.plan.StagePlan.{StagePlan}
use Rattle.block_ir.specs.declared.plan.StagePlan.TheVariants as planned
use Rattle.plan_blocks.specs.View.{planned_view, plan_view, register_at}
use Rattle.plan_conditions.specs.Right.{IsRight, EachRight}
use Rattle.plan_conditions.proofs.RegisterOperands.{works_from_registers}
use Rattle.fsm_plan.specs.Planned.{IsPlannedRun, EachPlanned, PlannedIsRight}
use Rattle.fsm_plan.proofs.Bridge.{length-nodes}
use Rattle.fsm_plan.proofs.Orders.{view_register_is, meets, units_apart, plan_keeps_orders}
use Rattle.fsm_plan.proofs.Short.{plan_is_short}

module _ (registers : ℕ) (b : Block) (q : BlockPlan) (count : ℕ) (run : IsPlannedRun b q count) (most : count ≤ registers) where
  below : (k r : ℕ) → k < length b.operations → register_at q.registers k ≡ Some r → r < registers
  below k r inside kept =
      let n = run.plan.registers.count in
      let m = length-nodes b.operations in
      let there : k < length q.registers = omega (arith, n, m, inside) in
      let low = run.below k r there (sym (view_register_is q.registers k) ∙ kept) in
      omega (arith, low, most)

  right : IsRight registers b q
  right =
      let brief = plan_is_short b q run.plan in
      record {
        keeps = λ order. plan_keeps_orders b q run.plan order;
        registered = λ order. works_from_registers (planned_view b) (plan_view b q) (meets b q run.plan order);
        units = λ order. units_apart b q run.plan order;
        some = brief.0;
        short = brief.1;
        below = below;
      }

each_right : (n : ℕ) (ss : List Stage) (ps : List StagePlan) → EachPlanned n ss ps → EachRight n ss ps
each_right n [] [] h = tt
each_right n (stage.Run b ∷ ss) (planned.Run p ∷ ps) h = ((λ few. (let w = h.0 in right n b p w.0 w.1 w.2)), each_right n ss ps h.1)
each_right n (stage.Act a next ∷ ss) (planned.Act ∷ ps) h = (tt, each_right n ss ps h.1)
each_right n (stage.Run b ∷ ss) (planned.Act ∷ ps) h = absurd h.0
each_right n (stage.Act a next ∷ ss) (planned.Run p ∷ ps) h = absurd h.0
each_right n [] (p ∷ ps) h = absurd h
each_right n (s ∷ ss) [] h = absurd h

pub planned_is_right : PlannedIsRight
planned_is_right code p is = each_right p.registers code.stages p.stages is.each
