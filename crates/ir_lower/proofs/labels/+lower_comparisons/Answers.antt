use Rattle.std.proofs.Common.{◌≡◌, true, rules, ◌+◌, length, sym, ap, ◌∙◌, subst, arith}
use Rattle.std.specs.Prelude.{MatchResult}
use Rattle.std.proofs.lemmas.Grind.{common_steps}
use Rattle.std.proofs.lemmas.Result.{MatchResult-weaker, err_from_is_err_and}
use Rattle.c_program.specs.Plain.{statement_of}
use Rattle.c_program.specs.Tree.{Statement}
use Rattle.code_blocks.specs.Room.{IsFull}
use Rattle.code_blocks.proofs.Room.{full_more}
use Rattle.ir_lower.specs.Switching.{labels_of, AreCompared}
use Rattle.ir_lower.proofs.ComparisonChains.{compared_none, compared_both, comparisons_few, comparisons_labels}
use Rattle.ir_lower.proofs.SwitchBodies.{labels_sum, is_single, single_none}
use Rattle.ir_lower.proofs.Sizes.{nested_size}
use Rattle.ir_lower.proofs.labels.+lower_comparisons.Goals as goal

pub lower_comparisons-requires : goal.lower_comparisons-requires
lower_comparisons-requires t c =
    let first = statement_of c.deref.result.now in
    let rest = statement_of c.in-Sequence.rest.value in
    let is : statement_of c.args.body.now ≡ Statement.Sequence first rest = ap statement_of c.in-Sequence.is ∙ ap (λ z. Statement.Sequence (statement_of z) rest) (sym c.deref.ensures) in
    let sum = labels_sum (statement_of c.args.body.now) first rest is in
    let le = c.requires in ((let size = ap nested_size is in let now = c.decreases in omega (arith, size, now)), omega (arith, sum, le))

pub lower_comparisons-requires-in-Sequence : goal.lower_comparisons-requires-in-Sequence
lower_comparisons-requires-in-Sequence t c =
    let first = statement_of c.deref.result.now in
    let rest = statement_of c.deref-in-Sequence.result.now in
    let is : statement_of c.args.body.now ≡ Statement.Sequence first rest =
    ap statement_of c.in-Sequence.is ∙ ap (λ z. Statement.Sequence (statement_of z) (statement_of c.in-Sequence.rest.value)) (sym c.deref.ensures)
    ∙ ap (λ z. Statement.Sequence first (statement_of z)) (sym c.deref-in-Sequence.ensures) in
    let sum = labels_sum (statement_of c.args.body.now) first rest is in
    let le = c.requires in
    let next = c.in_ok-cases-in-Sequence.ensures.next in
    let more = comparisons_labels c.args.word (labels_of first) c.args.cases.next c.args.code.now c.lower_comparisons.new.code c.in_ok-cases-in-Sequence.ensures.comparisons in
    ((let size = ap nested_size is in let now = c.decreases in omega (arith, size, now)), omega (arith, sum, le, next, more))

pub returns-in_ok-cases-in-Sequence : goal.returns-in_ok-cases-in-Sequence
returns-in_ok-cases-in-Sequence t c =
    let first = statement_of c.deref.result.now in
    let rest = statement_of c.deref-in-Sequence.result.now in
    let is : statement_of c.args.body.now ≡ Statement.Sequence first rest =
    ap statement_of c.in-Sequence.is ∙ ap (λ z. Statement.Sequence (statement_of z) (statement_of c.in-Sequence.rest.value)) (sym c.deref.ensures)
    ∙ ap (λ z. Statement.Sequence first (statement_of z)) (sym c.deref-in-Sequence.ensures) in
    let few = comparisons_few c.args.word (labels_of first) c.args.cases.next c.args.code.now c.lower_comparisons.new.code c.in_ok-cases-in-Sequence.ensures.comparisons in
    MatchResult-weaker c.lower_comparisons-in-Sequence.result c.lower_comparisons-in-Sequence.ensures
    (λ after compared.
    compared_both c.args.word (labels_of (statement_of c.args.body.now)) (labels_of first) (labels_of rest) c.args.cases c.in_ok-cases-in-Sequence.cases after c.args.code.now c.lower_comparisons.new.code
    c.lower_comparisons-in-Sequence.new.code (ap labels_of is) c.in_ok-cases-in-Sequence.ensures compared)
    (λ fault full. full_more fault (length c.lower_comparisons.new.code.block.operations + 1) (length c.args.code.now.block.operations + 1) (omega (arith, few)) full)

pub returns-in_err-cases-in-Sequence : goal.returns-in_err-cases-in-Sequence
returns-in_err-cases-in-Sequence t c =
    let p = err_from_is_err_and c.from_residual.result c.from_residual.ensures.1 in
    rw (p.1, p.2) c.in_err-cases-in-Sequence.ensures

pub lower_comparison-requires : goal.lower_comparison-requires
lower_comparison-requires t c =
    let n = ap (λ z. length (labels_of (statement_of z))) c.in-Label.is in
    let le = c.requires in
    omega (arith, n, le)

pub returns-in-Label : goal.returns-in-Label
returns-in-Label t c =
    subst
    (λ labels. MatchResult c.lower_comparison.result (λ after. AreCompared c.args.word labels c.args.cases after c.args.code.now c.lower_comparison.new.code)
    (IsFull (length c.args.code.now.block.operations + 1)))
    (sym (ap (λ z. labels_of (statement_of z)) c.in-Label.is)) c.lower_comparison.ensures

pub returns-in_default : goal.returns-in_default
returns-in_default t c =
    let single : is_single (statement_of c.args.body.now) ≡ true = first_of (search rules, grind (arith, common_steps)) in
    subst (λ labels. AreCompared c.args.word labels c.args.cases c.args.cases c.args.code.now c.args.code.now) (sym (single_none (statement_of c.args.body.now) single))
    (compared_none c.args.word c.args.cases c.args.code.now)
