use Rattle.c_program.specs.Plain.{program_of}
use Rattle.std.specs.Prelude.{string_bytes}
use Rattle.check_command.proofs.RunVerdict.{shows_race}
use Rattle.check_command.proofs.run.race_told.Goals as goal

pub returns : goal.returns
returns c = shows_race (program_of c.args.program.now) c.args.race (string_bytes c.in_ok-name.name) c.requires c.in_ok-name.ensures
