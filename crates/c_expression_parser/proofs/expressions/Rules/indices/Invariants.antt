use Rattle.std.proofs.Common.{◌≡◌, ◌-◌}
use Rattle.grammar.specs.Readers.{reads_while, sees, appended}
use Rattle.c_token.specs.declared.punctuator.Punctuator.TheVariants.{OpenSquare}
use Rattle.c_tree.specs.declared.sign.Sign.TheVariants.{Mark}
use Rattle.c_tree.specs.Tokens.{is}
use Rattle.c_reading.specs.Expressions.{read_expr, read_index, read_indices}
use Rattle.c_expression_parser.proofs.expressions.Rules.indices.Given as goal

abbrev pub invariant-loop-turn : goal.invariant-loop-turn
invariant-loop-turn g l = read_indices (read_expr l.room) l.room l.fn.cursor ≡ reads_while (sees (is (Mark OpenSquare))) appended (read_index (read_expr l.room) l.room)
    (3 - l._turn) l.found l.cursor
