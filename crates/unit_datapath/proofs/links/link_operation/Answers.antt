use Rattle.std.proofs.Common.{◌∙◌, refl, sym, ap}
use Rattle.std.proofs.lemmas.Result.{on_ok_weaker}
use Rattle.unit_datapath.specs.Kinds.{is_work}
use Rattle.unit_datapath.proofs.UnitKinds.{no_work}
use Rattle.unit_datapath.proofs.UnitLinks.{operation_linked, nothing_linked}
use Rattle.unit_datapath.proofs.links.link_operation.Goals as goal

pub returns-then-is_shared : goal.returns-then-is_shared
returns-then-is_shared c =
    on_ok_weaker c.link_operands.result
    (λ t.
    operation_linked c.args.code.now c.args.registers.now c.args.kind.now c.args.plan.now c.args.end c.args.number c.args.operation.now c.in-Binary.operator c.in-Binary.ty
    c.in-Binary.left
    c.in-Binary.right c.further_states-further.result c.args.wires.now.signals c.link_operands.new.wires.signals c.args.inputs.now c.link_operands.new.inputs c.in-Binary.is
    c.further_states-further.ensures.value (sym c.is_shared.ensures ∙ c.if-is_shared.true) t)
    c.link_operands.ensures

pub returns-else-is_shared : goal.returns-else-is_shared
returns-else-is_shared c =
    nothing_linked c.args.code.now c.args.registers.now c.args.kind.now c.args.plan.now c.args.end c.args.number c.args.operation.now c.args.wires.now.signals c.args.inputs.now
    c.args.inputs.now refl
    (ap (is_work c.args.kind.now) c.in-Binary.is ∙ sym c.is_shared.ensures ∙ c.if-is_shared.false)

pub returns-in_default : goal.returns-in_default
returns-in_default c =
    nothing_linked c.args.code.now c.args.registers.now c.args.kind.now c.args.plan.now c.args.end c.args.number c.args.operation.now c.args.wires.now.signals c.args.inputs.now
    c.args.inputs.now refl
    (no_work c.args.kind.now c.args.operation.now c.in_default.not-Binary)
