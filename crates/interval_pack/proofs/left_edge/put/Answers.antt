use Rattle.std.proofs.Common.{◌≡◌, set, length, ◌++◌, ◌∷◌, [], refl, inl, inr, arith, Some, None}
use Rattle.interval_pack.specs.FreeRows.{IsReuse}
use Rattle.interval_pack.proofs.left_edge.put.Goals as goal

pub returns-in-Some-clause-placed : goal.returns-in-Some-clause-placed
returns-in-Some-clause-placed c = λ ends before le are. (
    let at = c.in_ok-free_ended.ensures.vacated ends before le are in
    let reuse : IsReuse c.args.interval c.free_ended.new.rows c.reuse_row.new.rows (Some c.in-Some.r) = rw c.in-Some.is at c.in_ok-r.ensures.reuse in
    let taken = reuse ends at in
    (set ends c.in-Some.r c.args.interval.end, (c.in-Some.r, refl, taken.2, inl (taken.0, taken.1, refl, refl)), taken.3))

pub returns-clause-placed : goal.returns-clause-placed
returns-clause-placed c = λ ends before le are. (
    let at = c.in_ok-free_ended.ensures.vacated ends before le are in
    let reuse : IsReuse c.args.interval c.free_ended.new.rows c.reuse_row.new.rows None = rw c.in_default.is at c.in_ok-r.ensures.reuse in
    let kept = reuse ends at in
    let last : c.in_ok-row.field-0 ≡ length ends = omega (arith, c.in_ok-row.ensures.row, kept.0.rows_are.count) in
    (ends ++ c.args.interval.end ∷ [], (c.in_ok-row.field-0, refl, rw last kept.1, inr (last, refl, refl)), c.in_ok-row.ensures.opened ends kept.0))
