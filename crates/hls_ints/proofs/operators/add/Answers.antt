use Rattle.std.proofs.Common.{◌+ℤ◌, FitsSigned, rules}
use mir.Syntax.{w128}
use Rattle.std.proofs.lemmas.Int.{to_z-of_z}
use Rattle.hls_ints.proofs.operators.add.Goals as goal

pub returns-clause-value : goal.returns-clause-value
returns-clause-value c =
    let left = c.ranges.a in
    let right = c.ranges.b in
    let sum : FitsSigned w128 (c.args.a +ℤ c.args.b) = search rules in
    simp to_z-of_z at c.fit.ensures.value
