use Rattle.std.specs.List.Sorted.{IsPermutation}
use Rattle.schedule_sdc.specs.Solution.{IsLeast}
use Rattle.schedule_sdc.proofs.Ordered.{within_moved, fits_moved, least_again, result_again}
use Rattle.schedule_sdc.proofs.least.solve.Goals as goal

pub settle-requires : goal.settle-requires
settle-requires c =
    let moves : IsPermutation c.args.list.now c.deref.result.now = rw (c.deref.ensures.value, ← c.in_ok-ordered.ensures.items) c.in_ok-sort_by_key.ensures.permutation in
    within_moved c.args.places _ _ moves c.requires.places

pub returns-in-Some : goal.returns-in-Some
returns-in-Some c =
    let moves : IsPermutation c.args.list.now c.deref.result.now = rw (c.deref.ensures.value, ← c.in_ok-ordered.ensures.items) c.in_ok-sort_by_key.ensures.permutation in
    let least : IsLeast c.args.places c.deref.result.now c.in-Some.starts.items = rw c.in-Some.is at c.in_ok-starts.ensures in
    least_again c.args.places _ _ moves _ least

pub solve_with_history-requires-clause-places : goal.solve_with_history-requires-clause-places
solve_with_history-requires-clause-places c =
    let moves : IsPermutation c.args.list.now c.deref-in-None.result.now =
    rw (c.deref-in-None.ensures.value, ← c.in_ok-ordered.ensures.items) c.in_ok-sort_by_key.ensures.permutation in
    within_moved c.args.places _ _ moves c.requires.places

pub solve_with_history-requires-clause-fits : goal.solve_with_history-requires-clause-fits
solve_with_history-requires-clause-fits c =
    let moves : IsPermutation c.args.list.now c.deref-in-None.result.now =
    rw (c.deref-in-None.ensures.value, ← c.in_ok-ordered.ensures.items) c.in_ok-sort_by_key.ensures.permutation in
    fits_moved c.args.places _ _ moves c.requires.fits

pub returns : goal.returns
returns c =
    let moves : IsPermutation c.args.list.now c.deref-in-None.result.now =
    rw (c.deref-in-None.ensures.value, ← c.in_ok-ordered.ensures.items) c.in_ok-sort_by_key.ensures.permutation in
    result_again c.args.places _ _ moves _ c.solve_with_history.ensures
