use Rattle.std.proofs.Common.{arith}
use Rattle.std.proofs.lemmas.Grind.{common_steps}
use Rattle.grammar.specs.Readers.{reads_while, sees, appended}
use Rattle.verilog_tree.specs.declared.token.Mark.TheVariants.{Comma}
use Rattle.verilog_rules.specs.declared.sign.Sign.TheVariants.{Mark}
use Rattle.verilog_rules.specs.Signs.{is}
use Rattle.verilog_rules.specs.Reading.{read_more, read_name, read_next}
use Rattle.grammar.proofs.Turns.{one_more, no_more}
use Rattle.verilog_expressions.proofs.expressions.more_names.Goals as goal

pub loop-turn-init : goal.loop-turn-init
unfolding read_more
loop-turn-init c = grind (arith, common_steps)

pub returns : goal.returns
unfolding reads_while
returns c =
    let e = no_more (λ n. reads_while (sees (is (Mark Comma))) appended (read_next read_name) n c.loop-turn.found c.loop-turn.cursor) _ c.loop-turn._turn
    c.loop-turn-test.false c.loop-turn.invariant in
    grind (arith, common_steps)

pub returns-then-not-takes_mark : goal.returns-then-not-takes_mark
unfolding reads_while
returns-then-not-takes_mark c =
    let e = one_more (λ n. reads_while (sees (is (Mark Comma))) appended (read_next read_name) n c.loop-turn.found c.loop-turn.cursor) _ c.loop-turn._turn
    c.loop-turn-test.true c.loop-turn.invariant in
    grind (arith, common_steps)

pub returns-in_err-name : goal.returns-in_err-name
unfolding reads_while read_next
returns-in_err-name c =
    let e = one_more (λ n. reads_while (sees (is (Mark Comma))) appended (read_next read_name) n c.loop-turn.found c.loop-turn.cursor) _ c.loop-turn._turn
    c.loop-turn-test.true c.loop-turn.invariant in
    grind (arith, common_steps)

pub loop-turn-preserved : goal.loop-turn-preserved
unfolding reads_while read_next
loop-turn-preserved c =
    let e = one_more (λ n. reads_while (sees (is (Mark Comma))) appended (read_next read_name) n c.loop-turn.found c.loop-turn.cursor) _ c.loop-turn._turn
    c.loop-turn-test.true c.loop-turn.invariant in
    grind (arith, common_steps)
