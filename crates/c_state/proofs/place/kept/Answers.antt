use Rattle.std.proofs.Common.{rules, ◌≡◌, sym, FitsSigned, Ok}
use mir.Syntax.{w128}
use Rattle.std.proofs.lemmas.Int.{to_z-of_z}
use Rattle.hls_ints.specs.Types.{wrapped}
use Rattle.c_program.specs.Tree.{Expression}
use Rattle.c_program.specs.Plain.{expression_of}
use Rattle.thread_semantics.specs.Value.{value}
use Rattle.c_evaluation.specs.Outcome.{outcome, memory_of}
use Rattle.c_evaluation.proofs.Outcomes.{outcome_ok}
use Rattle.c_state.proofs.place.kept.Goals as goal

pub returns : goal.returns
returns c =
    let m = memory_of c.args.locals.now c.args.globals.now in
    let e = expression_of c.args.operand.now in
    let fits : FitsSigned w128 c.in_ok-v.v = search rules in
    let ev : outcome (value e m) ≡ Ok c.in_ok-v.v = search rules in
    let cast : outcome (value (Expression.Cast c.args.ty e) m) ≡ Ok (wrapped c.args.ty c.in_ok-v.v) = outcome_ok (value e m) _ c.in_ok-v.v ev in
    let result_fits : FitsSigned w128 c.wrap.result = search rules in
    let converted : c.wrap.result ≡ wrapped c.args.ty c.in_ok-v.v = search rules in
    let whole = outcome_ok (value (Expression.Cast c.args.ty e) m) _ (wrapped c.args.ty c.in_ok-v.v) cast in
    simp to_z-of_z (rw converted (sym whole))
