use Rattle.std.proofs.Common.{◌∙◌}
use Rattle.loop_datapath.proofs.AheadWires.{low_wired}
use Rattle.loop_datapath.proofs.operands.low_word.Goals as goal

pub returns-clause-wired : goal.returns-clause-wired
returns-clause-wired c =
    low_wired c.args.wires.now.signals c.resized.new.self.signals c.args.held c.args.ty c.from.result c.in_ok-place.place c.of_type.result
    (c.from.ensures ∙ c.bits.ensures.value) c.in_ok-place.ensures.wired c.of_type.ensures.place c.of_type.ensures.width c.of_type.ensures.signed
