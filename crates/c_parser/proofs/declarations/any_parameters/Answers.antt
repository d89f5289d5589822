use Rattle.std.proofs.Common.{rules, arith}
use Rattle.std.proofs.lemmas.Grind.{common_steps}
use Rattle.grammar.specs.Readers.{reads_while, sees, appended}
use Rattle.c_token.specs.declared.punctuator.Punctuator.TheVariants.{Comma}
use Rattle.c_tree.specs.declared.sign.Sign.TheVariants.{Mark}
use Rattle.c_tree.specs.Tokens.{is}
use Rattle.c_reading.specs.Tokens.{read_any, read_listed, read_more, read_next}
use Rattle.c_reading.specs.Declarations.{read_parameter}
use Rattle.grammar.proofs.Turns.{one_more, no_more}
use Rattle.c_parser.proofs.declarations.any_parameters.Goals as goal

pub returns-then-not-sees_type_word : goal.returns-then-not-sees_type_word
unfolding read_any read_listed
returns-then-not-sees_type_word c = first_of (search rules, grind (arith, common_steps))

pub returns-in_err-parameter : goal.returns-in_err-parameter
unfolding read_any read_listed
returns-in_err-parameter c = first_of (search rules, grind (arith, common_steps))

pub loop-turn-init : goal.loop-turn-init
unfolding read_any read_listed read_more
loop-turn-init c = first_of (search rules, grind (arith, common_steps))

pub returns : goal.returns
unfolding reads_while
returns c =
    let e = no_more (λ n. reads_while (sees (is (Mark Comma))) appended
    (read_next read_parameter) n c.loop-turn.found c.loop-turn.cursor) _ c.loop-turn._turn c.loop-turn-test.false c.loop-turn.invariant in
    first_of (search rules, grind (arith, common_steps))

pub returns-then-not-sees : goal.returns-then-not-sees
unfolding reads_while
returns-then-not-sees c =
    let e = one_more (λ n. reads_while (sees (is (Mark Comma))) appended
    (read_next read_parameter) n c.loop-turn.found c.loop-turn.cursor) _ c.loop-turn._turn c.loop-turn-test.true c.loop-turn.invariant in
    first_of (search rules, grind (arith, common_steps))

pub returns-in_err-mark : goal.returns-in_err-mark
unfolding reads_while read_next
returns-in_err-mark c =
    let e = one_more (λ n. reads_while (sees (is (Mark Comma))) appended
    (read_next read_parameter) n c.loop-turn.found c.loop-turn.cursor) _ c.loop-turn._turn c.loop-turn-test.true c.loop-turn.invariant in
    first_of (search rules, grind (arith, common_steps))

pub returns-in_err-parameter-2 : goal.returns-in_err-parameter-2
unfolding reads_while read_next
returns-in_err-parameter-2 c =
    let e = one_more (λ n. reads_while (sees (is (Mark Comma))) appended
    (read_next read_parameter) n c.loop-turn.found c.loop-turn.cursor) _ c.loop-turn._turn c.loop-turn-test.true c.loop-turn.invariant in
    first_of (search rules, grind (arith, common_steps))

pub loop-turn-preserved : goal.loop-turn-preserved
unfolding reads_while read_next
loop-turn-preserved c =
    let e = one_more (λ n. reads_while (sees (is (Mark Comma))) appended
    (read_next read_parameter) n c.loop-turn.found c.loop-turn.cursor) _ c.loop-turn._turn c.loop-turn-test.true c.loop-turn.invariant in
    first_of (search rules, grind (arith, common_steps))
