use Rattle.std.proofs.Common.{rules}
use Rattle.c_expressions.specs.Cuts.{cuts_of}
use Rattle.c_expressions.proofs.BinaryForms.{condition-joined, condition-other, value-joined, value-terms}
use Rattle.c_expressions.proofs.PlaceForms.{value-place}
use Rattle.c_expressions.proofs.expressions.+expressions.Goals as goal

pub condition-returns-then-are_short_circuits : goal.condition-returns-then-are_short_circuits
condition-returns-then-are_short_circuits t c =
    let e = c.args.e.now in
    rw (condition-joined c.args.scope.now e c.in-Binary.first c.in-Binary.more c.in-Binary.is (cc) c.args.slot) (search rules)

pub condition-returns-in_ok-rest-in-Binary : goal.condition-returns-in_ok-rest-in-Binary
condition-returns-in_ok-rest-in-Binary t c =
    let e = c.args.e.now in
    rw (condition-other c.args.scope.now e c.in-Binary.first c.in-Binary.more c.in-Binary.is (cc) c.args.slot) (search rules)

pub value-returns-then-are_short_circuits : goal.value-returns-then-are_short_circuits
value-returns-then-are_short_circuits t c =
    rw (value-joined c.args.scope.now c.args.form.now c.in-Binary.first c.in-Binary.more c.in-Binary.is (cc) c.args.at (cuts_of c.args.cuts.now)) (search rules)

pub value-returns-in_ok-first-in-Binary-2 : goal.value-returns-in_ok-first-in-Binary-2
value-returns-in_ok-first-in-Binary-2 t c =
    rw (value-terms c.args.scope.now c.args.form.now c.in-Binary.first c.in-Binary.more c.in-Binary.is (cc) c.args.at (cuts_of c.args.cuts.now)) (search rules)

pub value-returns-in_ok-number-in-Place : goal.value-returns-in_ok-number-in-Place
value-returns-in_ok-number-in-Place t c =
    rw (value-place c.args.scope.now c.args.form.now c.in-Place.place c.in-Place.is c.args.at (cuts_of c.args.cuts.now)) (search rules)
