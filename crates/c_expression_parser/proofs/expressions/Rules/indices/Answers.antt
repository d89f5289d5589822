use Rattle.std.proofs.Common.{rules, arith}
use Rattle.std.proofs.lemmas.Grind.{common_steps}
use Rattle.grammar.specs.Readers.{reads_while, sees, appended}
use Rattle.c_token.specs.declared.punctuator.Punctuator.TheVariants.{OpenSquare}
use Rattle.c_tree.specs.declared.sign.Sign.TheVariants.{Mark}
use Rattle.c_tree.specs.Tokens.{is}
use Rattle.c_reading.specs.Tokens.{read_at_most}
use Rattle.c_reading.specs.Expressions.{read_expr, read_index, read_indices}
use Rattle.grammar.proofs.Turns.{one_more, no_more}
use Rattle.c_expression_parser.proofs.expressions.Rules.indices.Goals as goal

pub loop-turn-init : goal.loop-turn-init
unfolding read_indices read_at_most
loop-turn-init g c = first_of (search rules, grind (arith, common_steps))

pub returns : goal.returns
unfolding reads_while
returns g c =
    let e = no_more (λ n. reads_while (sees (is (Mark OpenSquare))) appended
    (read_index (read_expr c.args.room) c.args.room) n c.loop-turn.found c.loop-turn.cursor) _ c.loop-turn._turn c.loop-turn-test.false c.loop-turn.invariant in
    first_of (search rules, grind (arith, common_steps))

pub returns-then-not-sees : goal.returns-then-not-sees
unfolding reads_while
returns-then-not-sees g c =
    let e = one_more (λ n. reads_while (sees (is (Mark OpenSquare))) appended
    (read_index (read_expr c.args.room) c.args.room) n c.loop-turn.found c.loop-turn.cursor) _ c.loop-turn._turn c.loop-turn-test.true c.loop-turn.invariant in
    first_of (search rules, grind (arith, common_steps))

pub returns-in_err-index : goal.returns-in_err-index
unfolding reads_while
returns-in_err-index g c =
    let e = one_more (λ n. reads_while (sees (is (Mark OpenSquare))) appended
    (read_index (read_expr c.args.room) c.args.room) n c.loop-turn.found c.loop-turn.cursor) _ c.loop-turn._turn c.loop-turn-test.true c.loop-turn.invariant in
    first_of (search rules, grind (arith, common_steps))

pub loop-turn-preserved : goal.loop-turn-preserved
unfolding reads_while
loop-turn-preserved g c =
    let e = one_more (λ n. reads_while (sees (is (Mark OpenSquare))) appended
    (read_index (read_expr c.args.room) c.args.room) n c.loop-turn.found c.loop-turn.cursor) _ c.loop-turn._turn c.loop-turn-test.true c.loop-turn.invariant in
    first_of (search rules, grind (arith, common_steps))
