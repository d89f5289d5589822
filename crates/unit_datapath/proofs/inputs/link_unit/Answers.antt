use Rattle.std.proofs.Common.{◌∙◌, sym, ap, List, Bool}
use Rattle.std.specs.Prelude.{slice_get}
use Rattle.std.proofs.lemmas.Result.{on_ok_weaker}
use Rattle.unit_datapath.specs.Inputs.{is_begun}
use Rattle.unit_datapath.proofs.UnitInputs.{unit_begun}
use Rattle.unit_datapath.proofs.inputs.link_unit.Goals as goal

pub returns-then-is_begun : goal.returns-then-is_begun
returns-then-is_begun c =
    on_ok_weaker c.link_begun.result
    (λ t. t (ap (λ (l : List Bool). is_begun (slice_get l c.args.unit)) (sym c.as_slice.ensures) ∙ sym c.is_begun.ensures ∙ c.if-is_begun.true))
    c.link_begun.ensures

pub returns-else-is_begun : goal.returns-else-is_begun
returns-else-is_begun c =
    unit_begun c.args.wires.now.signals c.args.inputs.now c.begin_unit.new.inputs c.args.unit c.args.width c.args.here c.args.left c.args.right c.begin_unit.ensures.begun
    c.begin_unit.ensures.lefts c.begin_unit.ensures.rights
    (ap (λ (l : List Bool). is_begun (slice_get l c.args.unit)) (sym c.as_slice.ensures) ∙ sym c.is_begun.ensures ∙ c.if-is_begun.false)
