use Rattle.std.proofs.Common.{◌+◌, slice_index, refl, sym, ◌∙◌, arith}
use Rattle.slot_sim.proofs.Steps.{words_apart, words_alike}
use Rattle.slot_sim.proofs.same.same_words.Goals as goal

pub returns-then-differs : goal.returns-then-differs
returns-then-differs c =
    let n = c.loop-number.number in
    let p = slice_index c.args.left.now.starts (c.args.first + c.args.memory) in
    let q = slice_index c.args.right.now.starts (c.args.first + c.args.memory) in
    sym (c.loop-number.invariant ∙ words_apart c.args.left.now.words c.args.right.now.words (p + n) (q + n) n c.args.stored.now (omega arith) (c.if-differs.ensures.apart refl))

pub loop-number-preserved : goal.loop-number-preserved
loop-number-preserved c =
    let n = c.loop-number.number in
    let p = slice_index c.args.left.now.starts (c.args.first + c.args.memory) in
    let q = slice_index c.args.right.now.starts (c.args.first + c.args.memory) in
    c.loop-number.invariant ∙ words_alike c.args.left.now.words c.args.right.now.words p q n c.args.stored.now (omega arith) (c.if-differs.ensures.alike refl)
