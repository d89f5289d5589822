use Rattle.std.proofs.Common.{◌<◌, length, arith, inl, inr}
use Rattle.op_graph.proofs.rows.put_use.Goals as goal

pub put_far-requires : goal.put_far-requires
put_far-requires c =
    let within : c.args.i < length c.args.nodes.now = omega arith in
    λ h e. let less : h < c.args.i = c.requires.earlier c.args.i h within (inl e) in omega arith

pub put_far-requires-2 : goal.put_far-requires-2
put_far-requires-2 c =
    let within : c.args.i < length c.args.nodes.now = omega arith in
    λ h e. let less : h < c.args.i = c.requires.earlier c.args.i h within (inr e) in omega arith
