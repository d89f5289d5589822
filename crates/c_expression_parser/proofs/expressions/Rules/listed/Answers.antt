use Rattle.std.proofs.Common.{rules, arith}
use Rattle.std.proofs.lemmas.Grind.{common_steps}
use Rattle.grammar.specs.Readers.{reads_while, sees, appended}
use Rattle.c_token.specs.declared.punctuator.Punctuator.TheVariants.{Comma}
use Rattle.c_tree.specs.declared.sign.Sign.TheVariants.{Mark}
use Rattle.c_tree.specs.Tokens.{is}
use Rattle.c_reading.specs.Tokens.{read_any, read_listed, read_more, read_next}
use Rattle.c_reading.specs.Expressions.{read_argument}
use Rattle.grammar.proofs.Turns.{one_more, no_more}
use Rattle.c_expression_parser.proofs.expressions.Rules.listed.Goals as goal

pub returns-then-not-begins_argument : goal.returns-then-not-begins_argument
unfolding read_any read_listed
returns-then-not-begins_argument g c = first_of (search rules, grind (arith, common_steps))

pub returns-in_err-argument : goal.returns-in_err-argument
unfolding read_any read_listed
returns-in_err-argument g c = first_of (search rules, grind (arith, common_steps))

pub loop-turn-init : goal.loop-turn-init
unfolding read_any read_listed read_more
loop-turn-init g c = first_of (search rules, grind (arith, common_steps))

pub returns : goal.returns
unfolding reads_while
returns g c =
    let e = no_more (λ n. reads_while (sees (is (Mark Comma))) appended
    (read_next (read_argument c.args.room)) n c.loop-turn.found c.loop-turn.cursor) _ c.loop-turn._turn c.loop-turn-test.false c.loop-turn.invariant in
    first_of (search rules, grind (arith, common_steps))

pub returns-then-not-sees : goal.returns-then-not-sees
unfolding reads_while
returns-then-not-sees g c =
    let e = one_more (λ n. reads_while (sees (is (Mark Comma))) appended
    (read_next (read_argument c.args.room)) n c.loop-turn.found c.loop-turn.cursor) _ c.loop-turn._turn c.loop-turn-test.true c.loop-turn.invariant in
    first_of (search rules, grind (arith, common_steps))

pub returns-in_err-mark : goal.returns-in_err-mark
unfolding reads_while read_next
returns-in_err-mark g c =
    let e = one_more (λ n. reads_while (sees (is (Mark Comma))) appended
    (read_next (read_argument c.args.room)) n c.loop-turn.found c.loop-turn.cursor) _ c.loop-turn._turn c.loop-turn-test.true c.loop-turn.invariant in
    first_of (search rules, grind (arith, common_steps))

pub returns-in_err-argument-2 : goal.returns-in_err-argument-2
unfolding reads_while read_next
returns-in_err-argument-2 g c =
    let e = one_more (λ n. reads_while (sees (is (Mark Comma))) appended
    (read_next (read_argument c.args.room)) n c.loop-turn.found c.loop-turn.cursor) _ c.loop-turn._turn c.loop-turn-test.true c.loop-turn.invariant in
    first_of (search rules, grind (arith, common_steps))

pub loop-turn-preserved : goal.loop-turn-preserved
unfolding reads_while read_next
loop-turn-preserved g c =
    let e = one_more (λ n. reads_while (sees (is (Mark Comma))) appended
    (read_next (read_argument c.args.room)) n c.loop-turn.found c.loop-turn.cursor) _ c.loop-turn._turn c.loop-turn-test.true c.loop-turn.invariant in
    first_of (search rules, grind (arith, common_steps))
