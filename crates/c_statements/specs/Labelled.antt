-- What stands in the body of a switch, as the program holds it.
use Rattle.std.specs.Prelude.{map}
use Rattle.c_program.specs.Plain.{boxed_statement_of}
use Rattle.c_statements.specs.declared.switches.Cases.{Cases as CasesTree}
use Rattle.c_resolution.specs.Statements.{Cases}

abbrev pub cases_of : CasesTree → Cases
cases_of c = record { steps = map boxed_statement_of c.steps.items; values = c.values; has_default = c.has_default }
