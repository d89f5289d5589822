use Rattle.std.proofs.Common.{arith}
use Rattle.std.proofs.lemmas.Grind.{common_steps}
use Rattle.grammar.specs.Readers.{reads_while, reads_many, sees, appended}
use Rattle.verilog_rules.specs.Signs.{is_name}
use Rattle.verilog_rules.specs.Reading.{read_initial_constant, read_initial_constants}
use Rattle.grammar.proofs.Turns.{one_more, no_more}
use Rattle.verilog_parser.proofs.items.initial_constants.Goals as goal

pub loop-turn-init : goal.loop-turn-init
unfolding read_initial_constants reads_many
loop-turn-init c = grind (arith, common_steps)

pub returns : goal.returns
unfolding reads_while
returns c =
    let e = no_more (λ n. reads_while (sees is_name) appended read_initial_constant n c.loop-turn.found c.loop-turn.cursor) _ c.loop-turn._turn c.loop-turn-test.false
    c.loop-turn.invariant in
    grind (arith, common_steps)

pub returns-then-not-sees_name : goal.returns-then-not-sees_name
unfolding reads_while
returns-then-not-sees_name c =
    let e = one_more (λ n. reads_while (sees is_name) appended read_initial_constant n c.loop-turn.found c.loop-turn.cursor) _ c.loop-turn._turn c.loop-turn-test.true
    c.loop-turn.invariant in
    grind (arith, common_steps)

pub returns-in_err-initial_constant : goal.returns-in_err-initial_constant
unfolding reads_while
returns-in_err-initial_constant c =
    let e = one_more (λ n. reads_while (sees is_name) appended read_initial_constant n c.loop-turn.found c.loop-turn.cursor) _ c.loop-turn._turn c.loop-turn-test.true
    c.loop-turn.invariant in
    grind (arith, common_steps)

pub loop-turn-preserved : goal.loop-turn-preserved
unfolding reads_while
loop-turn-preserved c =
    let e = one_more (λ n. reads_while (sees is_name) appended read_initial_constant n c.loop-turn.found c.loop-turn.cursor) _ c.loop-turn._turn c.loop-turn-test.true
    c.loop-turn.invariant in
    grind (arith, common_steps)
