use Rattle.std.proofs.Common.{refl, ap, ◌∙◌}
use Rattle.code_blocks.specs.declared.open_block.OpenBlock.{OpenBlock}
use Rattle.code_blocks.proofs.Finals.{closes_at}
use Rattle.code_blocks.proofs.open_block.OpenBlock.close.Goals as goal

pub returns-clause-block : goal.returns-clause-block
returns-clause-block c =
    closes_at c.args.self.now c.args.next _
    (c.replace-operations.ensures.value ∙ ap (λ (z : OpenBlock). z.operations) c.clear.ensures.same)
    (c.replace-steps.ensures.value ∙ ap (λ (z : OpenBlock). z.steps) c.clear.ensures.same)
    refl c.in_ok-finals.ensures
