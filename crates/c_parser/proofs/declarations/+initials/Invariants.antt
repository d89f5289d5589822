use Rattle.std.proofs.Common.{◌≡◌, ◌-◌, ◌+◌, ◌*◌}
use Rattle.grammar.specs.Readers.{reads_while, sees_all, appended}
use Rattle.c_reading.specs.Tokens.{read_next}
use Rattle.c_reading.specs.Declarations.{next_initial_ahead, read_initial, read_initials}
use Rattle.c_parser.proofs.declarations.+initials.Given as goal

abbrev pub decreases-initial : goal.decreases-initial
decreases-initial l = 3 * l.room

abbrev pub decreases-initials : goal.decreases-initials
decreases-initials l = 3 * l.room + 1

abbrev pub decreases-braces : goal.decreases-braces
decreases-braces l = 3 * l.room + 2

abbrev pub invariant-initials-loop-turn : goal.invariant-initials-loop-turn
invariant-initials-loop-turn l = read_initials (read_initial l.room) l.room l.fn.first l.fn.cursor ≡ reads_while (sees_all next_initial_ahead) appended
    (read_next (read_initial l.room)) (l._turn-end - l._turn) l.found l.cursor
