use Rattle.std.proofs.Common.{◌≡◌, ◌-◌}
use Rattle.grammar.specs.Readers.{reads_while, sees, appended}
use Rattle.c_tree.specs.Tokens.{is_type_word}
use Rattle.c_reading.specs.Statements.{below}
use Rattle.c_reading.specs.Declarations.{read_externals, read_external}
use Rattle.c_parser.proofs.declarations.externals.Given as goal

abbrev pub invariant-loop-turn : goal.invariant-loop-turn
invariant-loop-turn l = read_externals l.room (below l.room) l.fn.first l.fn.cursor ≡ reads_while (sees is_type_word) appended (read_external l.room (below l.room))
    (l._turn-end - l._turn) l.found l.cursor
