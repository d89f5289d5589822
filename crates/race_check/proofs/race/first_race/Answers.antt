use Rattle.std.proofs.Common.{◌≤◌, length, arith, subst}
use Rattle.race_check.specs.First.{row, FirstWith}
use Rattle.race_check.proofs.FirstRace.{first_found, none_below_more, none_below_all}
use Rattle.race_check.proofs.race.first_race.Goals as goal

pub returns-in-Some : goal.returns-in-Some
returns-in-Some c =
    let touched = row c.args.footprints.now in
    first_found touched c.loop-first.first c.in-Some.race c.loop-first.invariant
    (subst (λ o. FirstWith touched c.loop-first.first o) c.in-Some.is c.race_with.ensures)

pub loop-first-preserved : goal.loop-first-preserved
loop-first-preserved c =
    let touched = row c.args.footprints.now in
    none_below_more touched c.loop-first.first c.loop-first.invariant
    (subst (λ o. FirstWith touched c.loop-first.first o) c.in_default.is c.race_with.ensures)

pub returns : goal.returns
returns c =
    let done : length c.args.footprints.now ≤ c.loop-first.first = omega arith in
    none_below_all c.args.footprints.now c.loop-first.first done c.loop-first.invariant
