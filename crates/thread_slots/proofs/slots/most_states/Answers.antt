use Rattle.std.proofs.Common.{arith}
use Rattle.std.proofs.lemmas.Option.{slice_get_within}
use Rattle.block_ir.specs.declared.plan.StagePlan.TheVariants.{Run}
use Rattle.thread_slots.proofs.slots.most_states.Goals as goal

pub returns : goal.returns
returns c = λ l p listed.
    let within = slice_get_within c.args.stages.now l (Run p) listed in
    let passed = c.loop-stage-test.false in
    c.loop-stage.invariant l p (omega arith) listed
