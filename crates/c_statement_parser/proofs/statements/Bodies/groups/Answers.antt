use Rattle.std.proofs.Common.{rules, arith}
use Rattle.std.proofs.lemmas.Grind.{common_steps}
use Rattle.grammar.specs.Readers.{reads_while, reads_many, sees, appended}
use Rattle.c_reading.specs.Tokens.{begins_label}
use Rattle.c_reading.specs.Statements.{read_statement, read_group}
use Rattle.grammar.proofs.Turns.{one_more, no_more}
use Rattle.c_statement_parser.proofs.statements.Bodies.groups.Goals as goal

pub loop-turn-init : goal.loop-turn-init
unfolding reads_many
loop-turn-init g c = first_of (search rules, grind (arith, common_steps))

pub returns : goal.returns
unfolding reads_while
returns g c =
    let e = no_more (λ n. reads_while (sees begins_label) appended
    (read_group (read_statement c.args.room) c.args.room) n c.loop-turn.found c.loop-turn.cursor) _ c.loop-turn._turn c.loop-turn-test.false c.loop-turn.invariant in
    first_of (search rules, grind (arith, common_steps))

pub returns-then-not-begins_label : goal.returns-then-not-begins_label
unfolding reads_while
returns-then-not-begins_label g c =
    let e = one_more (λ n. reads_while (sees begins_label) appended
    (read_group (read_statement c.args.room) c.args.room) n c.loop-turn.found c.loop-turn.cursor) _ c.loop-turn._turn c.loop-turn-test.true c.loop-turn.invariant in
    first_of (search rules, grind (arith, common_steps))

pub returns-in_err-group : goal.returns-in_err-group
unfolding reads_while
returns-in_err-group g c =
    let e = one_more (λ n. reads_while (sees begins_label) appended
    (read_group (read_statement c.args.room) c.args.room) n c.loop-turn.found c.loop-turn.cursor) _ c.loop-turn._turn c.loop-turn-test.true c.loop-turn.invariant in
    first_of (search rules, grind (arith, common_steps))

pub loop-turn-preserved : goal.loop-turn-preserved
unfolding reads_while
loop-turn-preserved g c =
    let e = one_more (λ n. reads_while (sees begins_label) appended
    (read_group (read_statement c.args.room) c.args.room) n c.loop-turn.found c.loop-turn.cursor) _ c.loop-turn._turn c.loop-turn-test.true c.loop-turn.invariant in
    first_of (search rules, grind (arith, common_steps))
