use Rattle.std.proofs.Common.{subst}
use Rattle.c_program.specs.Plain.{program_of}
use Rattle.run_check.specs.Verdict.{IsVerdict}
use Rattle.check_command.proofs.RunVerdict.{shows_good, shows_undefined}
use Rattle.check_command.proofs.run.told_of.Goals as goal

pub returns-in-Good : goal.returns-in-Good
returns-in-Good c =
    let P = program_of c.args.program.now in
    let shown = subst (IsVerdict P) c.in-Good.is c.requires.verdict in
    shows_good c.requires.program.0 P c.requires.program.1 c.in-Good.steps c.in-Good.one_output c.requires.program.2 shown.0 shown.1 shown.2 shown.3

pub returns-in_ok-turns-in-Undefined : goal.returns-in_ok-turns-in-Undefined
returns-in_ok-turns-in-Undefined c =
    let P = program_of c.args.program.now in
    let shown = subst (IsVerdict P) c.in-Undefined.is c.requires.verdict in
    shows_undefined P c.in-Undefined.turns.items c.in_ok-turns-in-Undefined.turns.items c.in-Undefined.thread c.in-Undefined.offset c.in-Undefined.cause
    c.in_ok-turns-in-Undefined.ensures shown.0 shown.1 shown.2 shown.3
