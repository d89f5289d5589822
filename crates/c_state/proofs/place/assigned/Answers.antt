use Rattle.std.proofs.Common.{rules, ◌≡◌, ◌∙◌, sym, FitsSigned, Ok}
use mir.Syntax.{w128}
use Rattle.std.proofs.lemmas.Int.{to_z-of_z}
use Rattle.c_program.specs.Plain.{expression_of, place_of}
use Rattle.thread_semantics.specs.Value.{value}
use Rattle.thread_semantics.specs.Move.{target_of}
use Rattle.c_evaluation.specs.Outcome.{outcome, memory_of}
use Rattle.c_evaluation.proofs.Outcomes.{outcome_ok}
use Rattle.c_state.specs.Change.{target_view}
use Rattle.c_state.proofs.place.assigned.Goals as goal

pub returns : goal.returns
returns c =
    let m = memory_of c.args.locals.now c.args.globals.now in
    let fits : FitsSigned w128 c.in_ok-value.value = search rules in
    let ev : outcome (value (expression_of c.args.right.now) m) ≡ Ok c.in_ok-value.value = search rules in
    let ep : outcome (target_of (place_of c.args.place.now) m) ≡ Ok (target_view c.in_ok-target.target) = search rules in
    simp to_z-of_z (sym
    (outcome_ok (value (expression_of c.args.right.now) m) _ c.in_ok-value.value ev
    ∙ outcome_ok (target_of (place_of c.args.place.now) m) _ (target_view c.in_ok-target.target) ep))
