use Rattle.std.proofs.Common.{[], refl, ap, ◌∙◌, sym, subst}
use Rattle.std.specs.Prelude.{slice_get}
use Rattle.std.specs.Option.{option_copied}
use Rattle.code_merge.specs.Joined.{HasLeft}
use Rattle.code_merge.specs.Steps.{block_in}
use Rattle.code_merge.proofs.Chains.{begin_left, on_ok_three}
use Rattle.code_merge.proofs.MergedCode.{left_none}
use Rattle.code_merge.proofs.merger.Merger.begin.Goals as goal

pub returns-in-Some : goal.returns-in-Some
returns-in-Some c =
    on_ok_three c.hold.result
    (λ left noted size. record {
      same = refl;
      size = size;
      holds = λ n. record {
        left = begin_left c.args.self.now.stages.items c.args.first c.in-Some.block.now c.hold.new.held.current
            (sym (ap option_copied c.in-Some.is) ∙ c.block_at.ensures ∙ ap (λ ss. block_in (slice_get ss c.args.first)) c.as_slice.ensures.value)
            (subst (HasLeft c.hold.new.held.current) c.as_slice-in-Some.ensures (left [] (left_none c.args.self.now.held.current c.requires.fresh.current)));
        noted = noted n;
      };
    })
    c.hold.ensures.left c.hold.ensures.noted c.hold.ensures.size
