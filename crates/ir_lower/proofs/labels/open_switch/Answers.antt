use Rattle.std.proofs.Common.{length, refl, sym, ap, ◌∙◌, subst, inl, arith}
use Rattle.std.specs.Prelude.{unwrap_or}
use Rattle.std.proofs.lemmas.Result.{err_from_is_err_and}
use Rattle.c_program.specs.Plain.{expression_of, statement_of}
use Rattle.code_blocks.specs.declared.open_block.OpenBlock.{OpenBlock}
use Rattle.code_blocks.specs.Printing.{PutsValue}
use Rattle.code_blocks.specs.Typing.{WorksOnValue}
use Rattle.code_blocks.proofs.Room.{full_more}
use Rattle.code_places.specs.Labels.{IsOpen}
use Rattle.code_places.specs.Control.{Jumps}
use Rattle.ir_lower.specs.Switching.{labels_of}
use Rattle.ir_lower.proofs.ComparisonChains.{default_is}
use Rattle.ir_lower.proofs.OpenSwitches.{default_open}
use Rattle.ir_lower.proofs.labels.open_switch.Goals as goal

pub lower_comparisons-requires : goal.lower_comparisons-requires
lower_comparisons-requires c =
    let count = c.in_ok-labels.ensures.has.count in
    let past = c.in_ok-labels.ensures.past in
    let first = c.in_ok-labels.ensures.first in
    omega (arith, count, past, first)

pub jump-requires : goal.jump-requires
jump-requires c =
    let own = c.in_ok-labels.labels in
    let body = statement_of c.args.body.now in
    let is = c.unwrap_or.ensures ∙ ap (λ o. unwrap_or o own.past) c.in_ok-cases.ensures.default ∙ default_is (labels_of body) own.first own.past in
    inl (subst (λ label. IsOpen label c.lower_comparisons.new.code.stages) (sym is)
    (default_open own body c.in_ok-word.word c.args.code.now c.switch_labels.new.code (record c.switch_labels.new.code { block = c.step.new.self }) c.lower_comparisons.new.code c.in_ok-labels.ensures
    refl (c.in_ok-labels.ensures.has.relabels.reached ∙ c.requires) (let steps = ap (λ (z : OpenBlock). z.steps) c.in_ok-step.ensures.after in omega (arith, steps))
    c.in_ok-cases.ensures.comparisons))

pub returns : goal.returns
returns c =
    let own = c.in_ok-labels.labels in
    let body = statement_of c.args.body.now in
    let is = c.unwrap_or.ensures ∙ ap (λ o. unwrap_or o own.past) c.in_ok-cases.ensures.default ∙ default_is (labels_of body) own.first own.past in
    let a = c.switch_labels.new.code in
    record {
      labelled = a;
      labels_ = c.in_ok-labels.ensures;
      word = c.in_ok-word.word;
      word_ = c.in_ok-word.ensures.word;
      put = c.lower_value.new.block;
      puts = subst (λ hs. PutsValue hs c.in_ok-word.word c.args.ty (expression_of c.args.operand.now) a.block c.lower_value.new.block) c.as_slice-homes.ensures c.in_ok-lower_value.ensures.puts;
      works = subst (λ hs. WorksOnValue hs c.in_ok-word.word (expression_of c.args.operand.now) a.block c.lower_value.new.block) c.as_slice-homes.ensures c.in_ok-lower_value.ensures.typed;
      stepped = record a { block = c.step.new.self };
      steps = ap (λ (z : OpenBlock). record a { block = z }) c.in_ok-step.ensures.after;
      compared = c.lower_comparisons.new.code;
      comparisons = c.in_ok-cases.ensures.comparisons;
      jumps = subst (λ label. Jumps label c.lower_comparisons.new.code c.jump.new.self) is c.in_ok-jump.ensures;
    }

pub returns-in_err-labels : goal.returns-in_err-labels
returns-in_err-labels c =
    let p = err_from_is_err_and c.from_residual.result c.from_residual.ensures.1 in
    rw (p.1, p.2) (λ is. cc)

pub returns-in_err-word : goal.returns-in_err-word
returns-in_err-word c =
    let p = err_from_is_err_and c.from_residual-in_err-word.result c.from_residual-in_err-word.ensures.1 in
    let same = ap length c.in_ok-labels.ensures.has.relabels.shifts.grows.variables in
    rw (p.1, p.2) (full_more _ _ _ (omega (arith, same)) c.in_err-word.ensures.full)

pub returns-in_err-lower_value : goal.returns-in_err-lower_value
returns-in_err-lower_value c =
    let p = err_from_is_err_and c.from_residual-in_err-lower_value.result c.from_residual-in_err-lower_value.ensures.1 in
    let same = ap (λ (z : OpenBlock). length z.operations) c.in_ok-labels.ensures.has.relabels.block in
    rw (p.1, p.2) (full_more _ _ _ (omega (arith, same)) c.in_err-lower_value.ensures.full)

pub returns-in_err-step : goal.returns-in_err-step
returns-in_err-step c =
    let p = err_from_is_err_and c.from_residual-in_err-step.result c.from_residual-in_err-step.ensures.1 in
    let same = ap (λ (z : OpenBlock). z.steps) c.in_ok-labels.ensures.has.relabels.block in
    let put = c.in_ok-lower_value.ensures.puts.steps in
    rw (p.1, p.2) (full_more _ _ _ (omega (arith, same, put)) c.in_err-step.ensures.full)

pub returns-in_err-cases : goal.returns-in_err-cases
returns-in_err-cases c =
    let p = err_from_is_err_and c.from_residual-in_err-cases.result c.from_residual-in_err-cases.ensures.1 in
    let same = ap (λ (z : OpenBlock). length z.operations) c.in_ok-labels.ensures.has.relabels.block in
    let count = c.in_ok-lower_value.ensures.typed.count in
    let stepped = ap (λ (z : OpenBlock). length z.operations) c.in_ok-step.ensures.after in
    rw (p.1, p.2) (full_more _ _ _ (omega (arith, same, count, stepped)) c.in_err-cases.ensures)

pub returns-in_err-jump : goal.returns-in_err-jump
returns-in_err-jump c =
    let p = err_from_is_err_and c.from_residual-in_err-jump.result c.from_residual-in_err-jump.ensures.1 in
    rw (p.1, p.2) (λ is. cc)
