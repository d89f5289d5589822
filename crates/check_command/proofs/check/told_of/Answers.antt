use Rattle.std.proofs.Common.{◌∙◌, ap, sym}
use Rattle.c_program.specs.Plain.{program_of}
use Rattle.lockset_check.specs.Verdicts.{verdict_of}
use Rattle.check_command.proofs.ToldVerdict.{tells_discipline}
use Rattle.check_command.proofs.check.told_of.Goals as goal

pub returns-in-Disciplined : goal.returns-in-Disciplined
returns-in-Disciplined c =
    tells_discipline c.args.text.now (program_of c.args.program.now) c.requires.0 c.in-Disciplined.globals c.requires.1
    (ap verdict_of (sym c.in-Disciplined.is) ∙ c.in_ok-globals.ensures)
