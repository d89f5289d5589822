use Rattle.std.proofs.Common.{arith}
use Rattle.std.proofs.lemmas.Grind.{common_steps}
use Rattle.grammar.specs.Readers.{reads_while, reads_many, sees, appended}
use Rattle.verilog_rules.specs.Reading.{begins_item, read_item, read_items, read_statement}
use Rattle.grammar.proofs.Turns.{one_more, no_more}
use Rattle.verilog_parser.proofs.modules.items.Goals as goal

pub loop-turn-init : goal.loop-turn-init
unfolding read_items reads_many
loop-turn-init c = grind (arith, common_steps)

pub returns : goal.returns
unfolding reads_while
returns c =
    let e = no_more (λ n. reads_while (sees begins_item) appended (read_item (read_statement c.args.room)) n c.loop-turn.found c.loop-turn.cursor) _ c.loop-turn._turn
    c.loop-turn-test.false c.loop-turn.invariant in
    grind (arith, common_steps)

pub returns-then-not-begins_item : goal.returns-then-not-begins_item
unfolding reads_while
returns-then-not-begins_item c =
    let e = one_more (λ n. reads_while (sees begins_item) appended (read_item (read_statement c.args.room)) n c.loop-turn.found c.loop-turn.cursor) _ c.loop-turn._turn
    c.loop-turn-test.true c.loop-turn.invariant in
    grind (arith, common_steps)

pub returns-in_err-item : goal.returns-in_err-item
unfolding reads_while
returns-in_err-item c =
    let e = one_more (λ n. reads_while (sees begins_item) appended (read_item (read_statement c.args.room)) n c.loop-turn.found c.loop-turn.cursor) _ c.loop-turn._turn
    c.loop-turn-test.true c.loop-turn.invariant in
    grind (arith, common_steps)

pub loop-turn-preserved : goal.loop-turn-preserved
unfolding reads_while
loop-turn-preserved c =
    let e = one_more (λ n. reads_while (sees begins_item) appended (read_item (read_statement c.args.room)) n c.loop-turn.found c.loop-turn.cursor) _ c.loop-turn._turn
    c.loop-turn-test.true c.loop-turn.invariant in
    grind (arith, common_steps)
