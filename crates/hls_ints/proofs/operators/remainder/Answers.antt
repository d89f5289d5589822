use mir.Syntax.{w128}
use Rattle.std.proofs.lemmas.Int.{to_z-of_z}
use Rattle.hls_ints.proofs.Ranges.{rem_fits, rem_range}
use Rattle.hls_ints.proofs.operators.remainder.Goals as goal

pub returns-clause-range : goal.returns-clause-range
returns-clause-range c =
    let left = c.ranges.a in
    let right = c.ranges.b in
    let fits = rem_fits w128 c.args.a c.args.b c.ranges.a in
    simp to_z-of_z (rem_range c.args.ty c.args.a c.args.b c.requires.left)
