use Rattle.std.proofs.Common.{◌≡◌, ◌-◌}
use Rattle.grammar.specs.Readers.{reads_while, sees, appended}
use Rattle.c_token.specs.declared.punctuator.Punctuator.TheVariants.{Comma}
use Rattle.c_tree.specs.declared.sign.Sign.TheVariants.{Mark}
use Rattle.c_tree.specs.Tokens.{is}
use Rattle.c_reading.specs.Tokens.{read_any, read_next, begins_argument}
use Rattle.c_reading.specs.Expressions.{read_argument}
use Rattle.c_expression_parser.proofs.expressions.Rules.listed.Given as goal

abbrev pub invariant-loop-turn : goal.invariant-loop-turn
invariant-loop-turn g l = read_any begins_argument (read_argument l.room) l.fn.cursor ≡ reads_while (sees (is (Mark Comma))) appended (read_next (read_argument l.room))
    (l._turn-end - l._turn) l.found l.cursor
