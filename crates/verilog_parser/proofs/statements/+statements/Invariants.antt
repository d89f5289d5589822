use Rattle.std.proofs.Common.{◌≡◌, ◌-◌, ◌+◌, ◌*◌}
use Rattle.grammar.specs.Readers.{reads_while, sees, appended}
use Rattle.verilog_rules.specs.Reading.{begins_statement, read_statement, read_statements}
use Rattle.verilog_parser.proofs.statements.+statements.Given as goal

abbrev pub decreases-branch : goal.decreases-branch
decreases-branch l = 3 * l.room + 2

abbrev pub decreases-statement : goal.decreases-statement
decreases-statement l = 3 * l.room

abbrev pub decreases-statements : goal.decreases-statements
decreases-statements l = 3 * l.room + 1

abbrev pub invariant-statements-loop-turn : goal.invariant-statements-loop-turn
invariant-statements-loop-turn l =
    read_statements (read_statement l.room) l.fn.cursor ≡ reads_while (sees begins_statement) appended (read_statement l.room) (l._turn-end - l._turn) l.found l.cursor
