use Rattle.std.proofs.Common.{◌≡◌, ℕ, ◌+◌, ◌-◌, List, sym, subst, arith}
use Rattle.std.specs.Prelude.{slice_index}
use Rattle.sim_loops.proofs.InstancePath.{AreLeft, left_none, left_more}
use Rattle.sim_loops.proofs.find.path_of.Goals as goal

pub returns-in-None : goal.returns-in-None
returns-in-None c = left_none c.args.children.now c.args.place c.loop-turn.path c.loop-turn.inner c.loop-turn.invariant.left c.in-None.ensures

pub loop-turn-preserved : goal.loop-turn-preserved
loop-turn-preserved c =
    let children = c.args.children.now in
    let inner = c.loop-turn.inner in
    let outer = c.in-Some.outer in
    let is = c.in-Some.ensures in
    let low = is.first in
    let number = inner - slice_index children outer in
    let sum : slice_index children outer + number ≡ inner = omega (arith, low) in
    record {
      left = subst (λ (p : List ℕ). AreLeft children c.args.place p outer) (sym c.in_ok-push-in-Some.ensures.ok)
          (left_more children c.args.place c.loop-turn.path inner outer c.loop-turn.invariant.left is number sum);
      count = c.next_count-count.ensures.count;
      behind = c.next_count-count.ensures.behind;
    }
