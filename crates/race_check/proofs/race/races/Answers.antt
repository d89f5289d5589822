use Rattle.std.proofs.Common.{sym, subst}
use Rattle.c_program.specs.Plain.{program_of}
use Rattle.c_state.specs.View.{state_of}
use Rattle.race_check.specs.First.{row, AreFootprints}
use Rattle.race_check.proofs.FirstRace.{first_race_is}
use Rattle.race_check.proofs.race.races.Goals as goal

pub returns : goal.returns
returns c =
    let P = program_of c.args.program.now in
    let s = state_of c.args.state.now in
    first_race_is P s (row c.as_slice.result.now)
    (subst (λ rows. AreFootprints P s (row rows)) (sym c.as_slice.ensures) c.in_ok-all.ensures)
    c.first_race.result c.first_race.ensures
