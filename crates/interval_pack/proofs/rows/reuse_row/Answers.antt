use Rattle.std.proofs.Common.{◌≡◌, length, refl, rules}
use Rattle.interval_pack.proofs.Vacated.{all_busy, unchanged, row_within, row_ended, busy_below, one_taken}
use Rattle.interval_pack.proofs.rows.reuse_row.Goals as goal

pub returns-in_default-clause-reuse : goal.returns-in_default-clause-reuse
returns-in_default-clause-reuse c = λ ends are. (
    let none : length c.args.rows.now.free.keys ≡ 0 = search rules in
    (unchanged ends _ _ are _ c.in_default.ensures.unchanged refl refl, all_busy ends _ _ are none))

pub returns-clause-reuse : goal.returns-clause-reuse
returns-clause-reuse c = λ ends are. (
    let p = c.in-Some.ensures.removal in
    let a = c.in-Some.ensures.all_above in
    let k = c.in_ok-insert.ensures.keys in
    let u = c.in_ok-insert.ensures.updates in
    (row_within ends _ _ _ _ _ are p a k u refl, row_ended ends _ _ _ _ _ are p a k u refl, busy_below ends _ _ _ _ _ are p a k u refl, one_taken ends _ _ _ _ _ are p a k u refl))
