use Rattle.std.proofs.Common.{◌≡◌, ◌+◌, ◌++◌, ◌∷◌, [], ap, sym, ◌∙◌, subst, length, arith}
use Rattle.std.proofs.lemmas.List.{length-append}
use Rattle.std.specs.Prelude.{slice_index}
use Rattle.sim_events.proofs.Touched.{AreListed, listed_more, last_item}
use Rattle.sim_events.proofs.fanout.fanout_of.Goals as goal

pub loop-word-preserved : goal.loop-word-preserved
loop-word-preserved c =
    let last = c.in_ok-touched.touched.last.items in
    let chain = c.in_ok-touched.touched.chain.items in
    let starts = c.loop-word.starts.items in
    let listed = c.wake.new.looks.items in
    let new = c.push-in-loop-word.new.self.items in
    let count : c.len.result ≡ length listed = omega arith in
    let made : new ≡ starts ++ length listed ∷ [] = c.in_ok-push-2.ensures.items ∙ ap (λ n. starts ++ n ∷ []) count in
    let long = c.loop-word.invariant.long in
    record {
      long = ap length made ∙ length-append starts (length listed ∷ []) ∙ omega (arith, long);
      ends = ap (λ xs. slice_index xs (c.loop-word.word + 1)) made ∙ last_item starts (length listed) (c.loop-word.word + 1) (sym long);
      listed = subst (λ xs. AreListed last chain xs listed (c.loop-word.word + 1)) (sym made)
          (listed_more last chain starts c.loop-word.listed.items listed c.loop-word.word long c.loop-word.invariant.ends c.loop-word.invariant.listed c.in_ok-wake.ensures.behind c.in_ok-wake.ensures.woken);
    }

pub returns : goal.returns
returns c = λ k y s at touch inside. c.loop-word.invariant.listed k y (omega (arith, inside)) (c.in_ok-touched.ensures k y s at touch inside)
