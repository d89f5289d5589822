use Rattle.std.proofs.Common.{◌∙◌}
use Rattle.unit_datapath.proofs.UnitInputs.{begun}
use Rattle.unit_datapath.proofs.inputs.UnitInputs.begin.Goals as goal

pub returns : goal.returns
returns c =
    begun c.args.wires.now.signals c.zeros.new.wires.signals c.zeros-2.new.wires.signals c.args.count c.args.width c.as_slice.result.now c.as_slice-2.result.now
    (record { begun = c.in_ok-begun.begun; lefts = c.in_ok-lefts.lefts; rights = c.in_ok-rights.rights }) c.in_ok-begun.ensures
    (c.as_slice.ensures ∙ c.in_ok-widths.ensures) (c.as_slice-2.ensures ∙ c.in_ok-widths.ensures)
    c.in_ok-lefts.ensures.shows c.in_ok-lefts.ensures.wired c.in_ok-rights.ensures.shows c.in_ok-rights.ensures.wired
