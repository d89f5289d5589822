use Rattle.std.proofs.Common.{◌≤◌, length, arith}
use Rattle.race_check.specs.Access.{touches_of}
use Rattle.race_check.specs.First.{row}
use Rattle.race_check.proofs.Least.{none_here}
use Rattle.race_check.proofs.FirstRace.{none_with_more, none_with_all}
use Rattle.race_check.proofs.race.race_with.Goals as goal

pub loop-second-preserved : goal.loop-second-preserved
loop-second-preserved c =
    let rows = c.args.footprints.now in (
      omega arith,
      none_with_more (row rows) c.args.first c.loop-second.second c.loop-second.invariant.1
          (none_here (touches_of c.accesses.result.now) (touches_of c.accesses-in-loop-second.result.now) (row rows c.args.first)
          (row rows c.loop-second.second) c.least_conflict.result c.least_conflict.ensures c.in_default.is c.accesses.ensures c.accesses-in-loop-second.ensures),
    )

pub returns : goal.returns
returns c =
    let done : length c.args.footprints.now ≤ c.loop-second.second = omega arith in
    none_with_all c.args.footprints.now c.args.first c.loop-second.second done c.loop-second.invariant.1
