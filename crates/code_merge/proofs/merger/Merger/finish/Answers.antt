use Rattle.std.proofs.Common.{refl, sym, subst, length}
use Rattle.block_ir.specs.declared.code.Stage.TheVariants.{Run}
use Rattle.code_blocks.specs.declared.open_block.OpenBlock.{OpenBlock}
use Rattle.code_blocks.specs.Closing.{IsFresh}
use Rattle.code_merge.proofs.Chains.{tidied_stages}
use Rattle.code_merge.proofs.merger.Merger.finish.Goals as goal

pub take-block-requires : goal.take-block-requires
take-block-requires c = c.requires

pub returns : goal.returns
returns c = λ holds. record {
  finals = c.in_ok-left.left.finals;
  stages = λ b at.
      tidied_stages c.args.self.now.stages.items c.take-block.new.self.stages.items c.args.first (Run c.take-block.result) c.take-block.result b c.in_ok-left.left.finals
      c.take-block.ensures.block refl c.take-block.ensures.stages at;
  from = c.in_ok-left.ensures.block.from;
  leave = c.in_ok-left.ensures.block.finals holds.noted;
  counts = c.take-block.ensures.counts;
  most = c.take-block.ensures.most;
  fresh =
      subst (λ (h : OpenBlock). IsFresh (length c.args.self.now.held.current) h) (sym c.take-block.ensures.held) (c.in_ok-left.ensures.left holds.noted);
}
