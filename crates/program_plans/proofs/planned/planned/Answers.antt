use Rattle.c_program.specs.Plain.{program_of}
use Rattle.program_plans.proofs.Zipped.{none_begun, begun_next, all_zipped}
use Rattle.program_plans.proofs.planned.planned.Goals as goal

pub loop-function-init : goal.loop-function-init
loop-function-init c = none_begun (program_of c.args.program.now) c.args.functions.now c.args.codes c.args.plans _ c.new-planned.ensures

pub loop-function-preserved : goal.loop-function-preserved
loop-function-preserved c =
    begun_next (program_of c.args.program.now) c.args.functions.now c.args.codes c.args.plans c.loop-function.function-index c.loop-function.codes _ c.loop-function.plans _
    c.loop-function.planned _ (record { name = c.in_ok-name.name; code = c.remove-code.result; plan = c.remove-plan.result }) c.loop-function-test.true
    c.loop-function.invariant c.in_ok-name.ensures c.remove-code.ensures.item c.remove-code.ensures.rest c.remove-plan.ensures.item c.remove-plan.ensures.rest
    c.in_ok-push.ensures.ok

pub returns : goal.returns
returns c =
    all_zipped (program_of c.args.program.now) c.args.functions.now c.args.codes c.args.plans c.loop-function.function-index c.loop-function.codes
    c.loop-function.plans c.loop-function.planned c.loop-function-test.false c.requires.codes c.requires.plans c.loop-function.invariant
