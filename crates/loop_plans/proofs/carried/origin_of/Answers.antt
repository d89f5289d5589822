use Rattle.std.proofs.Common.{◌≡◌, length, Some, rules, arith}
use Rattle.std.proofs.lemmas.Grind.{common_steps}
use Rattle.block_ir.specs.declared.operand.Source.TheVariants.{Variable}
use Rattle.loop_plans.specs.Carried.{last_source}
use Rattle.loop_plans.specs.Listed.{origin_of}
use Rattle.loop_plans.proofs.Origins.{walk_step}
use Rattle.loop_plans.proofs.carried.origin_of.Goals as goal

pub loop-turn-preserved : goal.loop-turn-preserved
loop-turn-preserved c =
    let given : last_source c.args.finals.now c.loop-turn.variable ≡ Some (Variable c.in-Some-Variable.next c.in-Some-Variable.field-0-1) =
    first_of (search (rules, c.requires.last c.loop-turn.variable), grind (arith, common_steps, c.requires.last c.loop-turn.variable)) in
    walk_step c.args.finals.now (length c.args.finals.now) c.loop-turn.turn c.loop-turn.variable
    (Some (Variable c.in-Some-Variable.next c.in-Some-Variable.field-0-1)) (origin_of c.args.finals.now c.args.variable) c.loop-turn-test.true given
    c.loop-turn.invariant
