use Rattle.std.proofs.Common.{◌≡◌, [], ◌∷◌, FitsSigned, refl, sym, ap, ◌∙◌, subst, arith, rules}
use mir.Syntax.{w128}
use Rattle.std.proofs.lemmas.Int.{to_z-of_z}
use Rattle.std.proofs.lemmas.Result.{err_from_is_err_and}
use Rattle.hls_ints.specs.Types.{long_int, wrapped}
use Rattle.code_places.specs.Control.{Compares}
use Rattle.ir_lower.specs.Switching.{AreCompared}
use Rattle.ir_lower.proofs.ComparisonChains.{default_compared, case_compared}
use Rattle.ir_lower.proofs.labels.lower_comparison.Goals as goal

pub label_after-next-requires : goal.label_after-next-requires
label_after-next-requires c = let le = c.requires in omega (arith, le)

pub returns-in-None : goal.returns-in-None
returns-in-None c =
    subst (λ v. AreCompared c.args.word (v ∷ []) c.args.cases (record { next = c.label_after-next.result; default = c.or-default.result }) c.args.code.now c.args.code.now) (sym c.in-None.is)
    (default_compared c.args.word c.args.cases _ c.args.code.now c.label_after-next.ensures c.or-default.ensures)

pub returns-in_ok-compare-in-Some : goal.returns-in_ok-compare-in-Some
returns-in_ok-compare-in-Some c =
    let fits : FitsSigned w128 c.in-Some.value = search rules in
    let value : c.wrap.result ≡ wrapped long_int c.in-Some.value = c.wrap.ensures.value ∙ ap (wrapped long_int) (to_z-of_z w128 c.in-Some.value fits) in
    let compares =
    subst (λ v. Compares c.args.word v c.args.cases.next c.args.code.now c.compare.new.self) (to_z-of_z w128 c.wrap.result (search rules)) c.in_ok-compare-in-Some.ensures.after in
    subst (λ v. AreCompared c.args.word (v ∷ []) c.args.cases (record { next = c.label_after-next.result; default = c.args.cases.default }) c.args.code.now c.compare.new.self) (sym c.in-Some.is)
    (case_compared c.args.word c.in-Some.value c.wrap.result c.args.cases _ c.args.code.now c.compare.new.self value c.label_after-next.ensures refl compares)

pub returns-in_err-compare-in-Some : goal.returns-in_err-compare-in-Some
returns-in_err-compare-in-Some c =
    let p = err_from_is_err_and c.from_residual.result c.from_residual.ensures.1 in
    rw (p.1, p.2) c.in_err-compare-in-Some.ensures.full
