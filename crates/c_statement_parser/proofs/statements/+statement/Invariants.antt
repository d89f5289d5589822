use Rattle.c_statement_parser.proofs.statements.+statement.Given as goal

abbrev pub decreases-statement : goal.decreases-statement
decreases-statement l = l.room
