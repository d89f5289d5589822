use Rattle.std.proofs.Common.{length, ◌+◌}
use Rattle.schedule_sdc.specs.Solution.{IsLeast, IsPositiveCycle, IsUnsolvable}
use Rattle.op_graph.specs.Graph.{time_before}
use Rattle.fsm_plan.proofs.LeastStarts.{solved, fits, least_starts, soon}
use Rattle.fsm_plan.proofs.starts.least_starts.Goals as goal

pub solve-requires-clause-places : goal.solve-requires-clause-places
solve-requires-clause-places c = rw c.deref.ensures.value c.in_ok-list.ensures.places

pub solve-requires-clause-fits : goal.solve-requires-clause-fits
solve-requires-clause-fits c =
    let meets = c.sequential_meets.ensures c.args.nodes.now c.requires.earlier in
    rw c.deref.ensures.value (fits c.args.nodes.now c.in_ok-list.list.items c.in_ok-list.ensures.same meets c.requires.size)

pub unreachable-requires : goal.unreachable-requires
unreachable-requires c =
    let meets = c.sequential_meets.ensures c.args.nodes.now c.requires.earlier in
    let cyclic : IsPositiveCycle c.in_ok-list.list.items c.in-Cyclic.field-0.items × IsUnsolvable c.in_ok-list.list.items =
    rw (c.in-Cyclic.is, c.deref.ensures.value) at c.in_ok-starts.ensures in
    cyclic.1 (time_before c.args.nodes.now) (solved c.args.nodes.now c.in_ok-list.list.items c.in_ok-list.ensures.same meets)

pub returns-clause-least : goal.returns-clause-least
returns-clause-least c =
    let meets = c.sequential_meets.ensures c.args.nodes.now c.requires.earlier in
    let least : IsLeast (length c.args.nodes.now + 1) c.in_ok-list.list.items c.in-Starts.starts.items = rw (c.in-Starts.is, c.deref.ensures.value) at c.in_ok-starts.ensures in
    least_starts c.args.nodes.now c.in_ok-list.list.items c.in_ok-list.ensures.same meets c.in-Starts.starts.items least

pub returns-clause-soon : goal.returns-clause-soon
returns-clause-soon c =
    let meets = c.sequential_meets.ensures c.args.nodes.now c.requires.earlier in
    let least : IsLeast (length c.args.nodes.now + 1) c.in_ok-list.list.items c.in-Starts.starts.items = rw (c.in-Starts.is, c.deref.ensures.value) at c.in_ok-starts.ensures in
    soon c.args.nodes.now c.in_ok-list.list.items c.in_ok-list.ensures.same meets c.in-Starts.starts.items least
