use Rattle.std.proofs.Common.{◌∙◌, sym}
use Rattle.unit_datapath.proofs.units.operator_count.Goals as goal

pub returns-then-is_of-clause-kind : goal.returns-then-is_of-clause-kind
returns-then-is_of-clause-kind c = λ some. sym c.is_of.ensures ∙ c.if-is_of.true
