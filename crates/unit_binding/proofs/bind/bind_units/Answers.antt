use Rattle.std.proofs.Common.{◌≡◌, length, replicate, rules, arith, add-one}
use Rattle.unit_binding.specs.Works.{AreBound}
use Rattle.unit_binding.proofs.AllKinds.{none_bound, all_units, all_counts}
use Rattle.unit_binding.proofs.bind.bind_units.Goals as goal

pub loop-j-init : goal.loop-j-init
loop-j-init c =
    let zeros : c.in_ok-unit.unit.items ≡ replicate (length c.args.nodes.now) 0 = search rules in
    none_bound c.args.nodes.now c.args.starts.now _ _ zeros (search rules)

pub loop-j-preserved : goal.loop-j-preserved
loop-j-preserved c = rw add-one c.in_ok-bind_kind_of.ensures

pub returns-clause-units : goal.returns-clause-units
returns-clause-units c =
    let all : c.loop-j.j ≡ length c.args.nodes.now = omega arith in
    let are : AreBound c.args.nodes.now c.args.starts.now (length c.args.nodes.now) c.loop-j.unit.items c.loop-j.counts.items = rw all at c.loop-j.invariant in
    all_units c.args.nodes.now c.args.starts.now _ _ are

pub returns-clause-counts : goal.returns-clause-counts
returns-clause-counts c =
    let all : c.loop-j.j ≡ length c.args.nodes.now = omega arith in
    let are : AreBound c.args.nodes.now c.args.starts.now (length c.args.nodes.now) c.loop-j.unit.items c.loop-j.counts.items = rw all at c.loop-j.invariant in
    all_counts c.args.nodes.now c.args.starts.now _ _ are
