use Rattle.std.proofs.Common.{◌<◌, length, sym, ◌∙◌, arith, rules}
use Rattle.op_graph.specs.Reduced.{global_at}
use Rattle.op_graph.proofs.Neighbours.{last_is}
use Rattle.op_graph.proofs.reduced.put_global.Goals as goal

pub bounds-nodes-i : goal.bounds-nodes-i
bounds-nodes-i c =
    let h = last_is (global_at c.args.nodes.now c.in-Global.object) c.args.j c.in-Some.i (sym (c.requires.last c.in-Global.object) ∙ (sym c.in_ok-i.ensures.old ∙ c.in-Some.is)) in
    omega (arith, h.0)

pub offset_bounds-nodes-i : goal.offset_bounds-nodes-i
offset_bounds-nodes-i c =
    let h = last_is (global_at c.args.nodes.now c.in-Global.object) c.args.j c.in-Some.i (sym (c.requires.last c.in-Global.object) ∙ (sym c.in_ok-i.ensures.old ∙ c.in-Some.is)) in
    let l : c.in-Some.i < length c.args.nodes.now = omega (arith, h.0) in
    search (rules, l)
