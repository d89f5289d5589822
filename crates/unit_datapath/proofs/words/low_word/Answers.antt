use Rattle.std.proofs.Common.{◌∙◌}
use Rattle.unit_datapath.proofs.HeldOperands.{low_shown}
use Rattle.unit_datapath.proofs.words.low_word.Goals as goal

pub returns : goal.returns
returns c =
    low_shown c.args.wires.now.signals c.resized.new.self.signals c.args.held c.args.ty c.from-width.result c.in_ok-place.place c.of_type.result
    (c.from-width.ensures ∙ c.bits.ensures.value)
    c.in_ok-place.ensures.shows c.in_ok-place.ensures.wired c.of_type.ensures.place c.of_type.ensures.width c.of_type.ensures.signed
