-- An operand of a conditional as the program holds it.
use Rattle.std.specs.Prelude.{map, box_value}
use Rattle.c_program.specs.Plain.{boxed_statement_of, expression_of}
use Rattle.c_expressions.specs.declared.choices.Chosen.{Chosen as ChosenTree}
use Rattle.c_expressions.specs.Expressions.{Chosen}

abbrev pub chosen_of : ChosenTree → Chosen
chosen_of x = record { offset = x.offset; before = map boxed_statement_of x.before.items; rest = expression_of (box_value x.rest) }
