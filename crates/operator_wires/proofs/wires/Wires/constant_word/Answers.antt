use Rattle.std.proofs.Common.{◌∙◌, ap, ◌^◌, ◌<◌, sym, subst}
use mir.Syntax.{w128}
use Rattle.std.proofs.lemmas.Int.{to_z-of_z}
use Rattle.hls_ints.specs.Residues.{residue_of}
use Rattle.operator_wires.proofs.MadeWords.{constant_holds}
use Rattle.operator_wires.proofs.TypedWords.{constant_adds}
use Rattle.operator_wires.proofs.wires.Wires.constant_word.Goals as goal

pub returns-clause-shows : goal.returns-clause-shows
returns-clause-shows c =
    constant_holds c.args.self.now.signals c.constant.new.self.signals c.args.ty c.args.number c.of_type.result c.residue.result c.from.result c.in_ok-place.place c.in_ok-place.ensures.shows
    (c.from.ensures ∙ c.bits.ensures.value)
    (c.residue.ensures.value ∙ ap (residue_of c.bits-2.result) (to_z-of_z w128 c.args.number c.ranges.number) ∙ ap (λ n. residue_of n c.args.number) c.bits-2.ensures.value)
    c.of_type.ensures.place c.of_type.ensures.width c.of_type.ensures.signed

pub returns-clause-wired : goal.returns-clause-wired
returns-clause-wired c =
    constant_adds c.args.self.now.signals c.constant.new.self.signals c.args.ty c.of_type.result c.residue.result c.from.result c.in_ok-place.place c.in_ok-place.ensures.wired
    (c.from.ensures ∙ c.bits.ensures.value)
    (subst (λ n. c.residue.result < 2 ^ n) (c.bits-2.ensures.value ∙ sym c.bits.ensures.value ∙ sym c.from.ensures) c.residue.ensures.below)
    c.of_type.ensures.place c.of_type.ensures.width c.of_type.ensures.signed
