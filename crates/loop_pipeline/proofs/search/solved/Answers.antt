use Rattle.std.proofs.Common.{◌+◌, length}
use Rattle.std.specs.Prelude.{IfOk}
use Rattle.schedule_sdc.specs.Solution.{IsAnswer}
use Rattle.loop_pipeline.proofs.SolvedLoop.{solved_result}
use Rattle.loop_pipeline.proofs.search.solved.Goals as goal

pub returns : goal.returns
returns c =
    let answer : IfOk c.solve.result (IsAnswer (length c.args.nodes.now + 2) c.in_ok-list.list.items) = rw c.deref.ensures.value at c.solve.ensures in
    solved_result c.args.nodes.now c.args.comparison c.args.carried.now c.args.interval c.in_ok-list.list.items c.solve.result c.in_ok-list.ensures.rows c.in_ok-list.ensures.same answer
