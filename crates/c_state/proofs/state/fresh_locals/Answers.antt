use Rattle.std.proofs.Common.{◌≡◌, ◌++◌, ◌∷◌, rules, add-one, []}
use Rattle.c_state.proofs.Locals.{fresh_more}
use Rattle.c_state.proofs.state.fresh_locals.Goals as goal

pub loop-k-preserved : goal.loop-k-preserved
loop-k-preserved c =
    let rows : c.push.new.self.items ≡ c.loop-k.rows.items ++ c.in_ok-row.row ∷ [] = search rules in
    rw (add-one, rows)
    (fresh_more c.args.locals.now c.args.arguments.now c.loop-k.k c.index-locals-k.result c.loop-k.rows.items c.in_ok-row.row c.index-locals-k.is c.loop-k-test.true
    (rw c.argument_at.ensures at c.in_ok-row.ensures) c.loop-k.invariant)
