-- A function that runs there marks what it names, and any other nothing.
use Rattle.std.proofs.Common.{◌≡◌, sym, ap, ◌∙◌}
use Rattle.std.specs.Prelude.{Some, slice_get}
use Rattle.std.proofs.lemmas.Option.{slice_get-get_or}
use Rattle.lists.proofs.Places.{get_mapped}
use Rattle.c_program.specs.Plain.{function_of, program_of}
use Rattle.global_naming.proofs.Named.{marked_more, marked_same}
use Rattle.global_naming.proofs.naming.named.Goals as goal
use Rattle.global_naming.proofs.naming.named.Goals.{then-leads+in_ok-mark_globals, else-leads}

pub loop-callee-preserved : goal.loop-callee-preserved
loop-callee-preserved c =
    let P = program_of c.args.program.now in
    let k = c.loop-callee.callee in
    let fs = c.deref-code-items.result.now in
    let here = slice_get-get_or fs k _ c.loop-callee-test.true ∙ ap Some (sym c.code-item.is) in
    let at : slice_get P.functions k ≡ Some (function_of c.code-item.result) = get_mapped function_of c.args.program.now.functions.items k _ (rw c.deref-code-items.ensures.value at here) in
    elim c.if-leads.branch [
      | then-leads+in_ok-mark_globals w ↦
          marked_more P c.args.reach.now.rows c.args.function k (function_of c.code-item.result) _ _ at (sym c.leads.ensures ∙ w.if-leads.true) c.loop-callee.invariant
          (ap (λ v. v.items) w.marks-is ∙ w.in_ok-mark_globals.ensures)
      | else-leads w ↦ marked_same P c.args.reach.now.rows c.args.function k _ _ (sym c.leads.ensures ∙ w.if-leads.false) c.loop-callee.invariant (ap (λ v. v.items) w.marks-is)
    ]
