use Rattle.unit_datapath.proofs.Counted.{counts_made}
use Rattle.unit_datapath.proofs.units.kind_counts.Goals as goal

pub returns : goal.returns
returns c =
    counts_made c.args.code.now c.args.planned.now c.args.kind.now c.operator_count-products.result c.operator_count-quotients.result c.operator_count-remainders.result
    c.greater.result
    c.greater-most.result
    (record { of_kind = c.operator_count-products.ensures.kind; counted = c.operator_count-products.ensures.count })
    (record { of_kind = c.operator_count-quotients.ensures.kind; counted = c.operator_count-quotients.ensures.count })
    (record { of_kind = c.operator_count-remainders.ensures.kind; counted = c.operator_count-remainders.ensures.count })
    c.greater.ensures.left c.greater.ensures.right c.greater-most.ensures.left c.greater-most.ensures.right
