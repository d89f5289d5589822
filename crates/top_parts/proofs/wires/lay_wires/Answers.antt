use Rattle.std.proofs.Common.{ℕ, ◌+◌, List, [], ◌∷◌, ◌++◌, ap, ◌∙◌}
use Rattle.top_parts.specs.Parts.{each_from}
use Rattle.top_parts.specs.Wires.{port_wire}
use Rattle.top_parts.proofs.GrownLists.{wires_grow}
use Rattle.top_parts.proofs.wires.lay_wires.Goals as goal

pub loop-instance-preserved : goal.loop-instance-preserved
loop-instance-preserved c =
    let i = c.loop-instance.instance in
    let p = c.index-parts-instance.result in
    wires_grow c.args.modules.now c.args.parts.now c.args.threads c.args.place i c.loop-instance.wires c.push_ports.new.wires c.loop-instance.starts c.push.new.self p
    c.loop-instance.invariant
    (c.in_ok-push.ensures.ok ∙ ap (λ (z : ℕ). c.loop-instance.starts ++ (c.args.place + z) ∷ []) c.len.ensures)
    (c.in_ok-push_ports.ensures
    ∙ ap (λ (l : List ℕ). c.loop-instance.wires ++ each_from (port_wire i c.first_port-first.result) 0 l) c.as_slice.ensures
    ∙ ap (λ (z : ℕ). c.loop-instance.wires ++ each_from (port_wire i z) 0 p.outputs) c.first_port-first.ensures.port)
    c.index-parts-instance.is c.loop-instance-test.true
