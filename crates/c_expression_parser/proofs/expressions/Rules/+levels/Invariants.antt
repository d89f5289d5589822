use Rattle.std.proofs.Common.{◌≡◌, ◌-◌, ◌+◌, ◌*◌}
use Rattle.grammar.specs.Readers.{reads_while, sees, appended}
use Rattle.c_tree.specs.Tokens.{binds_at}
use Rattle.c_reading.specs.Expressions.{read_terms, read_term, read_binary, operand_within}
use Rattle.c_expression_parser.proofs.expressions.Rules.+levels.Given as goal

abbrev pub decreases-binary : goal.decreases-binary
decreases-binary g l = 2 * l.level

abbrev pub decreases-terms : goal.decreases-terms
decreases-terms g l = 2 * (l.level - 1) + 1

abbrev pub invariant-terms-loop-turn : goal.invariant-terms-loop-turn
invariant-terms-loop-turn g l =
    read_terms l.level l.room l.fn.cursor
    ≡ reads_while (sees (binds_at l.level)) appended (read_term l.level (read_binary (l.level - 1) (operand_within l.room))) (l._turn-end - l._turn) l.found l.cursor
