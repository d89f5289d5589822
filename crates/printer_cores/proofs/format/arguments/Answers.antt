use Rattle.std.proofs.Common.{◌+◌, ◌++◌, [], ◌∷◌, Some, sym, ap, ◌∙◌, arith, add-zero}
use Rattle.std.proofs.lemmas.List.{append-nil}
use Rattle.std.proofs.lemmas.Option.{slice_get-get_or}
use Rattle.printer_cores.specs.Format.{arguments_of, values_of}
use Rattle.printer_cores.proofs.Sites.{values_grow, next_below}
use Rattle.printer_cores.proofs.format.arguments.Goals.{in-Text, in-Unsigned+in_ok-push-in-Unsigned, in-Signed+in_ok-push-in-Signed}
use Rattle.printer_cores.proofs.format.arguments.Goals as goal

pub overflow_add-place : goal.overflow_add-place
overflow_add-place c =
    let e = slice_get-get_or c.args.parts.now c.loop-i.i _ c.loop-i-test.true ∙ ap Some (sym c.index-parts-i.is) in
    let l = next_below c.args.first c.args.parts.now c.loop-i.i c.index-parts-i.result c.loop-i.arguments c.loop-i.place e c.loop-i.invariant (ap (λ p. values_of (p ∷ [])) c.in-Unsigned.is) in
    let r = c.requires in
    omega arith

pub overflow_add-place-in-Signed : goal.overflow_add-place-in-Signed
overflow_add-place-in-Signed c =
    let e = slice_get-get_or c.args.parts.now c.loop-i.i _ c.loop-i-test.true ∙ ap Some (sym c.index-parts-i.is) in
    let l = next_below c.args.first c.args.parts.now c.loop-i.i c.index-parts-i.result c.loop-i.arguments c.loop-i.place e c.loop-i.invariant (ap (λ p. values_of (p ∷ [])) c.in-Signed.is) in
    let r = c.requires in
    omega arith

pub loop-i-preserved : goal.loop-i-preserved
loop-i-preserved c =
    let e = slice_get-get_or c.args.parts.now c.loop-i.i _ c.loop-i-test.true ∙ ap Some (sym c.index-parts-i.is) in
    let grow = values_grow c.args.first c.args.parts.now c.loop-i.i c.index-parts-i.result c.loop-i.arguments c.match-part.arguments c.loop-i.place c.match-part.place e c.loop-i.invariant in
    elim c.match-part.branch [
      | in-Text w ↦ grow
          (w.arguments-is ∙ sym (append-nil c.loop-i.arguments) ∙ ap (λ p. c.loop-i.arguments ++ arguments_of c.loop-i.place (p ∷ [])) (sym w.in-Text.is))
          (w.place-is ∙ sym (add-zero c.loop-i.place) ∙ ap (λ p. c.loop-i.place + values_of (p ∷ [])) (sym w.in-Text.is))
      | in-Unsigned+in_ok-push-in-Unsigned w ↦ grow
          (w.arguments-is ∙ w.in_ok-push-in-Unsigned.ensures.ok ∙ ap (λ p. c.loop-i.arguments ++ arguments_of c.loop-i.place (p ∷ [])) (sym w.in-Unsigned.is))
          (w.place-is ∙ ap (λ p. c.loop-i.place + values_of (p ∷ [])) (sym w.in-Unsigned.is))
      | in-Signed+in_ok-push-in-Signed w ↦ grow
          (w.arguments-is ∙ w.in_ok-push-in-Signed.ensures.ok ∙ ap (λ p. c.loop-i.arguments ++ arguments_of c.loop-i.place (p ∷ [])) (sym w.in-Signed.is))
          (w.place-is ∙ ap (λ p. c.loop-i.place + values_of (p ∷ [])) (sym w.in-Signed.is))
    ]
