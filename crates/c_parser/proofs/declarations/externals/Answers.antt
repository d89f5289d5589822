use Rattle.std.proofs.Common.{rules, arith}
use Rattle.std.proofs.lemmas.Grind.{common_steps}
use Rattle.grammar.specs.Readers.{reads_while, sees, appended}
use Rattle.c_tree.specs.Tokens.{is_type_word}
use Rattle.c_reading.specs.Statements.{below}
use Rattle.c_reading.specs.Declarations.{read_externals, read_external}
use Rattle.grammar.proofs.Turns.{one_more, no_more}
use Rattle.c_parser.proofs.declarations.externals.Goals as goal

pub loop-turn-init : goal.loop-turn-init
unfolding read_externals
loop-turn-init c = first_of (search rules, grind (arith, common_steps))

pub returns : goal.returns
unfolding reads_while
returns c =
    let e = no_more (λ n. reads_while (sees is_type_word) appended (read_external c.args.room
    (below c.args.room)) n c.loop-turn.found c.loop-turn.cursor) _ c.loop-turn._turn c.loop-turn-test.false c.loop-turn.invariant in
    first_of (search rules, grind (arith, common_steps))

pub returns-then-not-sees_type_word : goal.returns-then-not-sees_type_word
unfolding reads_while
returns-then-not-sees_type_word c =
    let e = one_more (λ n. reads_while (sees is_type_word) appended (read_external c.args.room
    (below c.args.room)) n c.loop-turn.found c.loop-turn.cursor) _ c.loop-turn._turn c.loop-turn-test.true c.loop-turn.invariant in
    first_of (search rules, grind (arith, common_steps))

pub returns-in_err-external : goal.returns-in_err-external
unfolding reads_while
returns-in_err-external c =
    let e = one_more (λ n. reads_while (sees is_type_word) appended (read_external c.args.room
    (below c.args.room)) n c.loop-turn.found c.loop-turn.cursor) _ c.loop-turn._turn c.loop-turn-test.true c.loop-turn.invariant in
    first_of (search rules, grind (arith, common_steps))

pub loop-turn-preserved : goal.loop-turn-preserved
unfolding reads_while
loop-turn-preserved c =
    let e = one_more (λ n. reads_while (sees is_type_word) appended (read_external c.args.room
    (below c.args.room)) n c.loop-turn.found c.loop-turn.cursor) _ c.loop-turn._turn c.loop-turn-test.true c.loop-turn.invariant in
    first_of (search rules, grind (arith, common_steps))
