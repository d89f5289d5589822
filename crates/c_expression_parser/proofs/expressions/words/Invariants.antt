use Rattle.std.proofs.Common.{◌≡◌, ◌-◌}
use Rattle.grammar.specs.Readers.{reads_while, sees, appended}
use Rattle.c_tree.specs.Tokens.{is_type_word}
use Rattle.c_reading.specs.Tokens.{read_words, read_type_word}
use Rattle.c_expression_parser.proofs.expressions.words.Given as goal

abbrev pub invariant-loop-turn : goal.invariant-loop-turn
invariant-loop-turn l = read_words l.fn.first l.fn.cursor ≡ reads_while (sees is_type_word) appended read_type_word (l._turn-end - l._turn) l.found l.cursor
