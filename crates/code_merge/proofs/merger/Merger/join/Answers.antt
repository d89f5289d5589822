use Rattle.std.proofs.Common.{refl, sym, ap, ◌∙◌}
use Rattle.std.specs.Prelude.{slice_get, slice_set}
use Rattle.block_ir.specs.declared.code.Stage.TheVariants.{Run}
use Rattle.lists.proofs.Places.{set_other}
use Rattle.code_merge.specs.Used.{empty}
use Rattle.code_merge.proofs.Chains.{join_joins}
use Rattle.code_merge.proofs.merger.Merger.join.Goals as goal

pub take-next-requires : goal.take-next-requires
take-next-requires c = (c.requires.next, c.requires.there)

pub take-block-requires : goal.take-block-requires
take-block-requires c = (
  c.requires.block,
  ap (λ ss. slice_get ss c.args.first) c.take-next.ensures.stages
      ∙ set_other c.args.self.now.stages.items c.args.second c.args.first empty (λ e. c.requires.apart (sym e)) ∙ c.requires.at,
)

pub returns : goal.returns
returns c =
    join_joins c.args.self.now _ c.args.first c.args.second c.take-block.result c.take-next.result c.join_next.new.block (Run c.take-block.result) (Run c.take-next.result)
    c.take-next.new.self.stages.items c.take-block.new.self.stages.items c.take-block.new.self.held c.requires.apart
    c.take-next.ensures.block refl c.take-next.ensures.stages c.take-block.ensures.block refl c.take-block.ensures.stages
    refl (c.take-block.ensures.held ∙ c.take-next.ensures.held) c.in_ok-join_next.ensures.block
    (c.set.ensures ∙ ap (λ cs. slice_set cs c.args.second 0) (c.take-block.ensures.counts ∙ c.take-next.ensures.counts))
    c.in_ok-join_next.ensures.left c.in_ok-join_next.ensures.noted c.in_ok-join_next.ensures.size
    (c.take-block.ensures.most ∙ c.take-next.ensures.most)
