use Rattle.std.proofs.Common.{◌≡◌, ◌∙◌, sym, ap, ℕ, ◌+◌, ◌<◌, List, length, take, get_or, map, fold, arith}
use Rattle.std.proofs.lemmas.Grind.{common_steps}
use Rattle.c_tree.specs.declared.expression.Term.{Term, out-Term}
use Rattle.c_tree.specs.declared.expression.Argument.TheFolds.{fold_out-Term}
use Rattle.c_rules.specs.declared.constants.Constancy.{Constancy}
use Rattle.c_rules.specs.Constants.{Nothing, Operand, form_step, joined, next, constancy, term_constancy}
use Rattle.c_rules.proofs.constants.+constancy_of.Goals as goal

term_constancy-out : (t : Term) → term_constancy t ≡ ((out-Term t).operator, constancy (out-Term t).operand)
term_constancy-out =
    fold_out-Term Nothing Constancy Nothing Nothing Constancy Nothing Nothing Operand
    (λ _. tt) form_step (λ _. tt) (λ _. tt) (λ e. e.form) (λ _. tt) (λ _. tt) (λ t. (t.operator, t.operand))

one_more : (first : Constancy) (terms : List Term) (i : ℕ) (t : Term) → i < length terms → t ≡ get_or terms i t →
    fold next first (map term_constancy (take (i + 1) terms)) ≡ next (fold next first (map term_constancy (take i terms))) ((out-Term t).operator, constancy (out-Term t).operand)
one_more first terms i t within is =
    let more : fold next first (map term_constancy (take (i + 1) terms)) ≡ next (fold next first (map term_constancy (take i terms))) (term_constancy t) = grind (arith, common_steps) in
    more ∙ ap (next (fold next first (map term_constancy (take i terms)))) (term_constancy-out t)

pub loop-term-preserved : goal.loop-term-preserved
loop-term-preserved t c =
    let first = c.constancy_of-value.result in
    let terms = c.as_slice-term-items.result.now in
    let i = c.loop-term.term-index in
    let term = c.term-item.result in
    let operator = (out-Term term).operator in
    c.joined-value.ensures
    ∙ ap (λ x. joined operator x c.constancy_of-in-loop-term.result) c.loop-term.invariant
    ∙ ap (joined operator (fold next first (map term_constancy (take i terms)))) c.constancy_of-in-loop-term.ensures
    ∙ sym (one_more first terms i term (omega arith) c.term-item.is)
