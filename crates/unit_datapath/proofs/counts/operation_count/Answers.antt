use Rattle.std.proofs.Common.{◌+◌, ◌∙◌, refl, sym, ap}
use Rattle.unit_datapath.specs.Counts.{is_made}
use Rattle.unit_datapath.proofs.UnitCount.{operation_counted, operation_none, none_made}
use Rattle.unit_datapath.proofs.counts.operation_count.Goals as goal

pub returns-then-is_made : goal.returns-then-is_made
returns-then-is_made c =
    operation_counted c.args.operator c.args.ty c.args.plan.now c.args.number c.args.operation.now c.unit_of.result (c.unit_of.result + 1)
    (ap (is_made c.args.operator c.args.ty) c.in-Binary.is ∙ sym c.is_made.ensures ∙ c.if-is_made.true) c.unit_of.ensures refl

pub returns-else-is_made : goal.returns-else-is_made
returns-else-is_made c =
    operation_none c.args.operator c.args.ty c.args.plan.now c.args.number c.args.operation.now
    (ap (is_made c.args.operator c.args.ty) c.in-Binary.is ∙ sym c.is_made.ensures ∙ c.if-is_made.false)

pub returns-in_default : goal.returns-in_default
returns-in_default c =
    operation_none c.args.operator c.args.ty c.args.plan.now c.args.number c.args.operation.now
    (none_made c.args.operator c.args.ty c.args.operation.now c.in_default.not-Binary)
