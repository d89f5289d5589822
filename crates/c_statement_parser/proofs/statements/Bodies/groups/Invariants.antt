use Rattle.std.proofs.Common.{◌≡◌, ◌-◌}
use Rattle.grammar.specs.Readers.{reads_while, reads_many, sees, appended}
use Rattle.c_reading.specs.Tokens.{begins_label}
use Rattle.c_reading.specs.Statements.{read_statement, read_group}
use Rattle.c_statement_parser.proofs.statements.Bodies.groups.Given as goal

abbrev pub invariant-loop-turn : goal.invariant-loop-turn
invariant-loop-turn g l = reads_many begins_label (read_group (read_statement l.room) l.room) l.fn.cursor ≡ reads_while (sees begins_label) appended
    (read_group (read_statement l.room) l.room) (l._turn-end - l._turn) l.found l.cursor
