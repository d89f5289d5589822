use Rattle.std.proofs.Common.{◌≡◌, ◌-◌}
use Rattle.grammar.specs.Readers.{reads_while, reads_many, sees, appended}
use Rattle.c_reading.specs.Tokens.{begins_statement}
use Rattle.c_reading.specs.Statements.{read_statement}
use Rattle.c_statement_parser.proofs.statements.Bodies.statements.Given as goal

abbrev pub invariant-loop-turn : goal.invariant-loop-turn
invariant-loop-turn g l = reads_many begins_statement (read_statement l.room) l.fn.cursor ≡ reads_while (sees begins_statement) appended
    (read_statement l.room) (l._turn-end - l._turn) l.found l.cursor
