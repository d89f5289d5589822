use Rattle.std.proofs.Common.{◌≡◌, ◌+◌, ◌++◌, [], ◌∷◌, List, length, slice_get, ◌≤◌, Some, sym, ap, ◌∙◌, arith}
use Rattle.std.proofs.lemmas.Option.{slice_get-get_or}
use Rattle.printer_cores.specs.declared.format.Part.{Part}
use Rattle.printer_cores.specs.Printer.{write}
use Rattle.printer_cores.proofs.Sites.{writes_grow}
use Rattle.printer_cores.proofs.printer.actions.Goals as goal

pub loop-site-preserved : goal.loop-site-preserved
loop-site-preserved c =
    let sites = c.args.shape.now.sites in
    let i = c.loop-site.site in
    let first = c.results_place-first.result in
    let hits = c.place-hits.result in
    let all : c.as_slice-parts-items.result.now ≡ sites = c.as_slice-parts-items.ensures in
    let e = slice_get-get_or c.as_slice-parts-items.result.now i _ c.loop-site-test.true ∙ ap Some (sym c.parts-item.is) in
    let at : slice_get sites i ≡ Some c.parts-item.result = sym (ap (λ (l : List (List Part)). slice_get l i) all) ∙ e in
    let l : i ≤ length sites = let n = ap (λ (l : List (List Part)). length l) all in let b = c.loop-site-test.true in omega arith in
    writes_grow hits first sites i c.parts-item.result c.loop-site.actions c.push_write.new.actions at l c.loop-site.invariant
    (c.in_ok-push_write.ensures ∙ ap (λ (p : List Part). c.loop-site.actions ++ write (hits + i) first p ∷ []) c.as_slice.ensures)
