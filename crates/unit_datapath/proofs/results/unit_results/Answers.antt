use Rattle.std.proofs.Common.{◌≡◌, ℕ, ◌+◌, ◌<◌, ◌∙◌, List, length, sym, ap, subst, arith, slice_index}
use Rattle.unit_datapath.specs.Results.{ShowsResults}
use Rattle.unit_datapath.proofs.UnitResults.{results_none, results_more}
use Rattle.unit_datapath.proofs.results.unit_results.Goals as goal

pub loop-number-preserved : goal.loop-number-preserved
loop-number-preserved c =
    let n = c.loop-number.number in
    let left : n < length c.args.inputs.now.lefts = omega arith in
    let right : n < length c.args.inputs.now.rights = omega arith in
    subst (λ (places : List ℕ). ShowsResults c.args.wires.now.signals c.binary_word.new.self.signals c.args.inputs.now c.args.operator c.args.ty (n + 1) places)
    (sym c.in_ok-push.ensures.ok)
    (results_more c.args.wires.now.signals c.loop-number.wires.signals c.binary_word.new.self.signals c.args.inputs.now c.args.operator c.args.ty n c.of_type-left.result
    c.of_type-right.result
    c.in_ok-word.word c.loop-number.places c.loop-number.invariant left right
    (c.of_type-left.ensures.place ∙ c.place_at.ensures ∙ ap (λ (l : List ℕ). slice_index l n) c.as_slice-lefts.ensures) c.of_type-left.ensures.width c.of_type-left.ensures.signed
    (c.of_type-right.ensures.place ∙ c.place_at-in-loop-number.ensures ∙ ap (λ (l : List ℕ). slice_index l n) c.as_slice-rights.ensures) c.of_type-right.ensures.width
    c.of_type-right.ensures.signed
    c.in_ok-word.ensures.shows c.in_ok-word.ensures.wired)

pub loop-number-init : goal.loop-number-init
loop-number-init c = results_none c.args.wires.now.signals c.args.inputs.now c.args.operator c.args.ty c.new-places.result c.new-places.ensures

pub returns : goal.returns
returns c =
    let all : c.loop-number.number ≡ c.args.count = omega arith in
    subst (λ (n : ℕ). ShowsResults c.args.wires.now.signals c.loop-number.wires.signals c.args.inputs.now c.args.operator c.args.ty n c.loop-number.places) all
    c.loop-number.invariant
