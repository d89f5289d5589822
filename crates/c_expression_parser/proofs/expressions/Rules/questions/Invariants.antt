use Rattle.std.proofs.Common.{◌≡◌, ◌-◌}
use Rattle.grammar.specs.Readers.{reads_while, sees}
use Rattle.c_token.specs.declared.punctuator.Punctuator.TheVariants.{Question}
use Rattle.c_tree.specs.declared.sign.Sign.TheVariants.{Mark}
use Rattle.c_tree.specs.Tokens.{is}
use Rattle.c_tree.specs.Trees.{asked}
use Rattle.c_reading.specs.Expressions.{read_cast, read_expr, read_argument, read_question, read_questions}
use Rattle.c_expression_parser.proofs.expressions.Rules.questions.Given as goal

abbrev pub invariant-loop-turn : goal.invariant-loop-turn
invariant-loop-turn g l = read_questions (read_cast l.room) (read_expr l.room) (read_argument l.room) l.room l.fn.first l.fn.cursor ≡ reads_while (sees (is (Mark Question))) asked
    (read_question (read_cast l.room) (read_expr l.room) (read_argument l.room) l.room) (l._turn-end - l._turn) (l.conditions, l.value) l.cursor
