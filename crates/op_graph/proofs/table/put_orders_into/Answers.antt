use Rattle.std.proofs.Common.{◌≡◌, ◌++◌, ℕ, Option, suc, ap, ◌∙◌, add-one}
use Rattle.op_graph.specs.Listed.{order_rows, gap_rows, order_gap}
use Rattle.op_graph.specs.Graph.{kind_at}
use Rattle.op_graph.proofs.AppendedRows.{one_step}
use Rattle.op_graph.proofs.table.put_orders_into.Goals as goal

pub loop-i-preserved : goal.loop-i-preserved
loop-i-preserved c =
    let g = order_gap (kind_at c.args.nodes.now c.loop-i.i) (kind_at c.args.nodes.now c.args.j) in
    let h : c.put_gap.new.list.items ≡ c.args.list.now.items ++ order_rows c.args.nodes.now c.args.j (suc c.loop-i.i) =
    one_step c.args.list.now.items (order_rows c.args.nodes.now c.args.j c.loop-i.i) (gap_rows c.loop-i.i c.args.j g) c.loop-i.list.items _ c.loop-i.invariant
    (c.in_ok-put_gap.ensures ∙ ap (λ (o : Option ℕ). c.loop-i.list.items ++ gap_rows c.loop-i.i c.args.j o) c.order_gap.ensures) in
    rw add-one h
