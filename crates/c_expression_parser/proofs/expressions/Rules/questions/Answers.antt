use Rattle.std.proofs.Common.{rules, arith}
use Rattle.std.proofs.lemmas.Grind.{common_steps}
use Rattle.grammar.specs.Readers.{reads_while, sees}
use Rattle.c_token.specs.declared.punctuator.Punctuator.TheVariants.{Question}
use Rattle.c_tree.specs.declared.sign.Sign.TheVariants.{Mark}
use Rattle.c_tree.specs.Tokens.{is}
use Rattle.c_tree.specs.Trees.{asked}
use Rattle.c_reading.specs.Expressions.{read_cast, read_expr, read_argument, read_question, read_questions}
use Rattle.grammar.proofs.Turns.{one_more, no_more}
use Rattle.c_expression_parser.proofs.expressions.Rules.questions.Goals as goal

pub loop-turn-init : goal.loop-turn-init
unfolding read_questions
loop-turn-init g c = first_of (search rules, grind (arith, common_steps))

pub returns : goal.returns
unfolding reads_while
returns g c =
    let e = no_more (λ n. reads_while (sees (is (Mark Question))) asked (read_question (read_cast c.args.room) (read_expr c.args.room) (read_argument c.args.room) c.args.room) n
    (c.loop-turn.conditions, c.loop-turn.value) c.loop-turn.cursor) _ c.loop-turn._turn c.loop-turn-test.false c.loop-turn.invariant in
    first_of (search rules, grind (arith, common_steps))

pub returns-then-not-sees : goal.returns-then-not-sees
unfolding reads_while
returns-then-not-sees g c =
    let e = one_more (λ n. reads_while (sees (is (Mark Question))) asked (read_question (read_cast c.args.room) (read_expr c.args.room) (read_argument c.args.room) c.args.room) n
    (c.loop-turn.conditions, c.loop-turn.value) c.loop-turn.cursor) _ c.loop-turn._turn c.loop-turn-test.true c.loop-turn.invariant in
    first_of (search rules, grind (arith, common_steps))

pub returns-in_err-offset : goal.returns-in_err-offset
unfolding reads_while
returns-in_err-offset g c =
    let e = one_more (λ n. reads_while (sees (is (Mark Question))) asked (read_question (read_cast c.args.room) (read_expr c.args.room) (read_argument c.args.room) c.args.room) n
    (c.loop-turn.conditions, c.loop-turn.value) c.loop-turn.cursor) _ c.loop-turn._turn c.loop-turn-test.true c.loop-turn.invariant in
    first_of (search rules, grind (arith, common_steps))

pub loop-turn-preserved : goal.loop-turn-preserved
unfolding reads_while
loop-turn-preserved g c =
    let e = one_more (λ n. reads_while (sees (is (Mark Question))) asked (read_question (read_cast c.args.room) (read_expr c.args.room) (read_argument c.args.room) c.args.room) n
    (c.loop-turn.conditions, c.loop-turn.value) c.loop-turn.cursor) _ c.loop-turn._turn c.loop-turn-test.true c.loop-turn.invariant in
    first_of (search rules, grind (arith, common_steps))
