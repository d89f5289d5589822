use Rattle.std.proofs.Common.{◌≡◌, suc, ◌+◌, take, ap, ◌∙◌, arith}
use Rattle.std.proofs.Math.Seq.{take-suc}
use Rattle.std.proofs.lemmas.Grind.{common_steps}
use Rattle.code_blocks.specs.declared.open_block.OpenBlock.{OpenBlock}
use Rattle.code_blocks.proofs.Finals.{cleared_next}
use Rattle.code_blocks.proofs.open_block.OpenBlock.clear.Goals as goal

pub loop-variable-preserved : goal.loop-variable-preserved
loop-variable-preserved c =
    let i = c.loop-variable.variable-index in
    let items = c.as_slice-variable-items.result.now in
    let next : i + 1 ≡ suc i = omega arith in
    record {
      same = grind (arith, common_steps);
      items = c.loop-variable.invariant.items;
      cleared = cleared_next c.args.self.now.current c.loop-variable.self.current c.unset.new.self.current (take i items) (take (i + 1) items) _
          (ap (λ (z : OpenBlock). z.current) c.unset.ensures)
          (ap (λ n. take n items) next ∙ take-suc items i 0 c.loop-variable-test.true)
          c.loop-variable.invariant.cleared;
    }
