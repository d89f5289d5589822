use Rattle.std.proofs.Common.{length, sym, ap, ◌∙◌}
use Rattle.std.proofs.lemmas.Result.{IfOk-weaker}
use Rattle.code_merge.specs.Used.{used}
use Rattle.code_merge.proofs.Marks.{used_length}
use Rattle.code_merge.proofs.Dropped.{all_used}
use Rattle.code_merge.proofs.dropping.used_stages.Goals as goal

pub kept-requires : goal.kept-requires
kept-requires c = ap length (c.as_slice-3.ensures ∙ c.in_ok-used.ensures) ∙ used_length _ 0 _ ∙ ap length c.as_slice.ensures

pub returns : goal.returns
returns c =
    IfOk-weaker c.kept.result _ _
    (λ new made. all_used c.args.stages c.as_slice-2.result.now c.as_slice-3.result.now c.in_ok-numbers.numbers new
    (c.as_slice-2.ensures ∙ c.in_ok-used.ensures ∙ ap used c.as_slice.ensures) (c.as_slice-3.ensures ∙ sym c.as_slice-2.ensures) c.in_ok-numbers.ensures made)
    c.kept.ensures
