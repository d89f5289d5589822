use Rattle.std.proofs.Common.{List, [], subst, sym}
use Rattle.operator_wires.proofs.MadeWords.{of_ok}
use Rattle.block_ir.specs.declared.plan.Planned.{Planned}
use Rattle.netlist.specs.declared.netlist.Signal.{Signal}
use Rattle.thread_layout.specs.declared.layout.Inside.{Inside}
use Rattle.thread_layout.specs.Modules.{LaysInside, IsModule}
use Rattle.thread_layout.proofs.layout.assembled.Goals as goal

pub returns : goal.returns
returns c =
    let shape = c.args.shape.now in
    let code = c.args.code.now in
    let plan = c.args.planned.now in
    let inside = c.get.result.now in
    let new = c.lay_inside.new.wires.signals in
    of_ok c.closed.result (λ m. (planned : Planned) → LaysInside shape code planned [] new inside → IsModule shape code planned m) (IsModule shape code plan)
    (λ m t.
    t plan
    (subst (λ (z : Inside). LaysInside shape code plan [] new z) (sym c.get.ensures)
    (subst (λ (z : List Signal). LaysInside shape code plan z new c.in_ok-inside.inside) c.new-wires.ensures c.in_ok-inside.ensures))) c.closed.ensures
