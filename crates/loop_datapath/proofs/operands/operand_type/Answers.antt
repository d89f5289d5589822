use Rattle.std.proofs.Common.{◌≡◌, ◌+◌, ◌∙◌, ◌++◌, [], ◌∷◌, sym, ap, take, arith}
use Rattle.std.proofs.lemmas.List.{take_more, take_all}
use Rattle.thread_promise.specs.Types.{last_type, source_type}
use Rattle.block_datapath.proofs.OperandWords.{last_more}
use Rattle.loop_datapath.proofs.operands.operand_type.Goals as goal

pub loop-conversion-preserved : goal.loop-conversion-preserved
loop-conversion-preserved c =
    let types = c.as_slice-conversion-items.result.now in
    let i = c.loop-conversion.conversion-index in
    let t = c.conversion-item.result in
    let one_more : take (i + 1) types ≡ take i types ++ t ∷ [] =
    take_more types i t c.loop-conversion-test.true ∙ ap (λ k. take i types ++ k ∷ []) (sym c.conversion-item.is) in
    sym (ap (last_type (source_type c.args.operand.now.source)) one_more ∙ last_more (take i types) t (source_type c.args.operand.now.source))

pub returns : goal.returns
returns c =
    let types = c.as_slice-conversion-items.result.now in
    c.loop-conversion.invariant
    ∙ ap (last_type (source_type c.args.operand.now.source)) (take_all c.loop-conversion.conversion-index types (omega arith) ∙ c.as_slice-conversion-items.ensures)
