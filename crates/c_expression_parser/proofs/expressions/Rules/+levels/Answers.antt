use Rattle.std.proofs.Common.{rules, arith, ◌-◌}
use Rattle.std.proofs.lemmas.Grind.{common_steps}
use Rattle.grammar.specs.Readers.{reads_while, reads_many, sees, appended}
use Rattle.grammar.proofs.Turns.{one_more, no_more}
use Rattle.c_tree.specs.Tokens.{binds_at}
use Rattle.c_reading.specs.Expressions.{read_terms, read_term, read_binary, operand_within}
use Rattle.c_expression_parser.proofs.Rooms.{binary_above}
use Rattle.c_expression_parser.proofs.expressions.Rules.+levels.Goals as goal

pub binary-returns-then-level-eq0 : goal.binary-returns-then-level-eq0
unfolding read_binary
binary-returns-then-level-eq0 g t c = first_of (search rules, grind (arith, common_steps))

pub binary-returns-in_err-first : goal.binary-returns-in_err-first
unfolding read_terms
binary-returns-in_err-first g t c =
    let e = binary_above c.args.level (omega arith) (operand_within c.args.room) c.args.cursor.now in
    first_of (search rules, grind (arith, common_steps))

pub binary-returns-in_err-terms : goal.binary-returns-in_err-terms
unfolding read_terms
binary-returns-in_err-terms g t c =
    let e = binary_above c.args.level (omega arith) (operand_within c.args.room) c.args.cursor.now in
    first_of (search rules, grind (arith, common_steps))

pub binary-returns : goal.binary-returns
unfolding read_terms
binary-returns g t c =
    let e = binary_above c.args.level (omega arith) (operand_within c.args.room) c.args.cursor.now in
    first_of (search rules, grind (arith, common_steps))

pub terms-loop-turn-init : goal.terms-loop-turn-init
unfolding read_terms reads_many
terms-loop-turn-init g t c = first_of (search rules, grind (arith, common_steps))

pub terms-returns : goal.terms-returns
unfolding reads_while
terms-returns g t c =
    let e = no_more (λ n. reads_while (sees (binds_at c.args.level)) appended (read_term c.args.level
    (read_binary (c.args.level - 1) (operand_within c.args.room))) n c.loop-turn.found c.loop-turn.cursor) _ c.loop-turn._turn c.loop-turn-test.false c.loop-turn.invariant in
    first_of (search rules, grind (arith, common_steps))

pub terms-returns-then-not-binds_at : goal.terms-returns-then-not-binds_at
unfolding reads_while
terms-returns-then-not-binds_at g t c =
    let e = one_more (λ n. reads_while (sees (binds_at c.args.level)) appended (read_term c.args.level
    (read_binary (c.args.level - 1) (operand_within c.args.room))) n c.loop-turn.found c.loop-turn.cursor) _ c.loop-turn._turn c.loop-turn-test.true c.loop-turn.invariant in
    first_of (search rules, grind (arith, common_steps))

pub terms-returns-in_err-operator : goal.terms-returns-in_err-operator
unfolding reads_while read_term
terms-returns-in_err-operator g t c =
    let e = one_more (λ n. reads_while (sees (binds_at c.args.level)) appended (read_term c.args.level
    (read_binary (c.args.level - 1) (operand_within c.args.room))) n c.loop-turn.found c.loop-turn.cursor) _ c.loop-turn._turn c.loop-turn-test.true c.loop-turn.invariant in
    first_of (search rules, grind (arith, common_steps))

pub terms-returns-in_err-operand : goal.terms-returns-in_err-operand
unfolding reads_while read_term
terms-returns-in_err-operand g t c =
    let e = one_more (λ n. reads_while (sees (binds_at c.args.level)) appended (read_term c.args.level
    (read_binary (c.args.level - 1) (operand_within c.args.room))) n c.loop-turn.found c.loop-turn.cursor) _ c.loop-turn._turn c.loop-turn-test.true c.loop-turn.invariant in
    first_of (search rules, grind (arith, common_steps))

pub terms-loop-turn-preserved : goal.terms-loop-turn-preserved
unfolding reads_while read_term
terms-loop-turn-preserved g t c =
    let e = one_more (λ n. reads_while (sees (binds_at c.args.level)) appended (read_term c.args.level
    (read_binary (c.args.level - 1) (operand_within c.args.room))) n c.loop-turn.found c.loop-turn.cursor) _ c.loop-turn._turn c.loop-turn-test.true c.loop-turn.invariant in
    first_of (search rules, grind (arith, common_steps))
