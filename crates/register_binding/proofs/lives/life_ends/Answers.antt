use Rattle.std.proofs.Common.{◌<◌, arith, inl, inr}
use Rattle.register_binding.proofs.Ends.{next_ends}
use Rattle.register_binding.proofs.lives.life_ends.Goals as goal

pub note_use-requires : goal.note_use-requires
note_use-requires c = λ i e. (let less : i < c.loop-k.k = c.requires.earlier c.loop-k.k i c.loop-k-test.true (inl e) in let n = c.loop-k.invariant.count in omega arith)

pub note_use-requires-in-loop-k : goal.note_use-requires-in-loop-k
note_use-requires-in-loop-k c = λ i e.
    (let less : i < c.loop-k.k = c.requires.earlier c.loop-k.k i c.loop-k-test.true (inr e) in let n = c.loop-k.invariant.count in let m = c.note_use.ensures.count in omega arith)

pub loop-k-preserved : goal.loop-k-preserved
loop-k-preserved c = next_ends c.args.nodes.now c.args.starts.now _ c.loop-k.k _ _ _ _ c.loop-k.invariant c.done-to.ensures c.note_use.ensures c.note_use-in-loop-k.ensures
