use Rattle.std.proofs.Common.{◌∙◌}
use Rattle.operator_wires.proofs.ResizedWords.{converted_at}
use Rattle.operator_wires.proofs.TypedWords.{converted_adds}
use Rattle.operator_wires.proofs.wires.Wires.converted.Goals as goal

pub returns-clause-shows : goal.returns-clause-shows
returns-clause-shows c =
    converted_at c.args.self.now.signals c.resized.new.self.signals c.args.word c.of_type.result c.args.ty c.from-width.result c.in_ok-place.place c.in_ok-place.ensures.shows
    (c.from-width.ensures ∙ c.bits.ensures.value) c.of_type.ensures.place c.of_type.ensures.width c.of_type.ensures.signed

pub returns-clause-wired : goal.returns-clause-wired
returns-clause-wired c =
    converted_adds c.args.self.now.signals c.resized.new.self.signals c.args.word c.of_type.result c.args.ty c.from-width.result c.in_ok-place.place c.in_ok-place.ensures.wired
    (c.from-width.ensures ∙ c.bits.ensures.value) c.of_type.ensures.place c.of_type.ensures.width c.of_type.ensures.signed
