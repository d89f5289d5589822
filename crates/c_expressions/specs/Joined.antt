-- Statements of which each two neighbours are joined, as the program holds them.
use Rattle.std.specs.Prelude.{map, option_map}
use Rattle.c_program.specs.Plain.{boxed_statement_of}
use Rattle.c_expressions.specs.declared.sequences.Joined.{Joined as JoinedTree}
use Rattle.c_expressions.specs.Sequences.{Joined}

abbrev pub joined_of : JoinedTree → Joined
joined_of j = (map boxed_statement_of j.done.items, option_map boxed_statement_of j.waiting)
