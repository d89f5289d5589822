use Rattle.std.proofs.Common.{◌∙◌}
use Rattle.unit_datapath.proofs.UnitsLaid.{inputs_laid}
use Rattle.unit_datapath.proofs.units.lay_inputs.Goals as goal

pub returns : goal.returns
returns c =
    inputs_laid c.args.code.now c.args.registers.now c.args.planned.now c.args.kind.now c.args.count c.from-width.result c.args.wires.now.signals c.begin.new.wires.signals
    c.link_stages.new.wires.signals c.in_ok-inputs.inputs c.link_stages.new.inputs (c.from-width.ensures ∙ c.bits.ensures.value) c.in_ok-inputs.ensures c.in_ok-link_stages.ensures
