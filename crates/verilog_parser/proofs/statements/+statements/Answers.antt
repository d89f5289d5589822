use Rattle.std.proofs.Common.{arith}
use Rattle.std.proofs.lemmas.Grind.{common_steps}
use Rattle.grammar.specs.Readers.{reads_while, reads_many, sees, appended}
use Rattle.verilog_rules.specs.Reading.{begins_statement, read_plain, read_statement, read_statements}
use Rattle.grammar.proofs.Turns.{one_more, no_more}
use Rattle.verilog_parser.proofs.Below.{statement_none, statement_above}
use Rattle.verilog_parser.proofs.statements.+statements.Goals as goal

pub statements-loop-turn-init : goal.statements-loop-turn-init
unfolding read_statements reads_many
statements-loop-turn-init t c = grind (arith, common_steps)

pub statements-returns : goal.statements-returns
unfolding reads_while
statements-returns t c =
    let e = no_more (λ n. reads_while (sees begins_statement) appended (read_statement c.args.room) n c.loop-turn.found c.loop-turn.cursor) _ c.loop-turn._turn
    c.loop-turn-test.false c.loop-turn.invariant in
    grind (arith, common_steps)

pub statements-returns-then-not-begins_statement : goal.statements-returns-then-not-begins_statement
unfolding reads_while
statements-returns-then-not-begins_statement t c =
    let e = one_more (λ n. reads_while (sees begins_statement) appended (read_statement c.args.room) n c.loop-turn.found c.loop-turn.cursor) _ c.loop-turn._turn
    c.loop-turn-test.true c.loop-turn.invariant in
    grind (arith, common_steps)

pub statements-returns-in_err-statement : goal.statements-returns-in_err-statement
unfolding reads_while
statements-returns-in_err-statement t c =
    let e = one_more (λ n. reads_while (sees begins_statement) appended (read_statement c.args.room) n c.loop-turn.found c.loop-turn.cursor) _ c.loop-turn._turn
    c.loop-turn-test.true c.loop-turn.invariant in
    grind (arith, common_steps)

pub statements-loop-turn-preserved : goal.statements-loop-turn-preserved
unfolding reads_while
statements-loop-turn-preserved t c =
    let e = one_more (λ n. reads_while (sees begins_statement) appended (read_statement c.args.room) n c.loop-turn.found c.loop-turn.cursor) _ c.loop-turn._turn
    c.loop-turn-test.true c.loop-turn.invariant in
    grind (arith, common_steps)

pub statement-returns-then-room-eq0 : goal.statement-returns-then-room-eq0
statement-returns-then-room-eq0 t c =
    let e = statement_none c.args.room (omega arith) c.args.cursor.now in
    grind (arith, common_steps)

pub statement-returns-then-sees_word : goal.statement-returns-then-sees_word
statement-returns-then-sees_word t c =
    let e = statement_above c.args.room (omega arith) c.args.cursor.now in
    grind (arith, common_steps)

pub statement-returns-then-sees_name : goal.statement-returns-then-sees_name
unfolding read_plain
statement-returns-then-sees_name t c =
    let e = statement_above c.args.room (omega arith) c.args.cursor.now in
    grind (arith, common_steps)

pub statement-returns-else-sees_name : goal.statement-returns-else-sees_name
unfolding read_plain
statement-returns-else-sees_name t c =
    let e = statement_above c.args.room (omega arith) c.args.cursor.now in
    grind (arith, common_steps)
