use Rattle.std.proofs.Common.{arith}
use Rattle.std.proofs.lemmas.Grind.{common_steps}
use Rattle.grammar.specs.Readers.{reads_while, sees, appended}
use Rattle.verilog_tree.specs.declared.token.Word.TheVariants.{Module}
use Rattle.verilog_rules.specs.declared.sign.Sign.TheVariants.{Word}
use Rattle.verilog_rules.specs.Signs.{is}
use Rattle.verilog_rules.specs.Reading.{read_module, read_modules, read_statement}
use Rattle.grammar.proofs.Turns.{one_more, no_more}
use Rattle.verilog_parser.proofs.modules.modules.Goals as goal

pub loop-turn-init : goal.loop-turn-init
unfolding read_modules
loop-turn-init c = grind (arith, common_steps)

pub returns : goal.returns
unfolding reads_while
returns c =
    let e = no_more (λ n. reads_while (sees (is (Word Module))) appended (read_module (read_statement c.args.room)) n c.loop-turn.found c.loop-turn.cursor) _
    c.loop-turn._turn c.loop-turn-test.false c.loop-turn.invariant in
    grind (arith, common_steps)

pub returns-then-not-sees_word : goal.returns-then-not-sees_word
unfolding reads_while
returns-then-not-sees_word c =
    let e = one_more (λ n. reads_while (sees (is (Word Module))) appended (read_module (read_statement c.args.room)) n c.loop-turn.found c.loop-turn.cursor) _
    c.loop-turn._turn c.loop-turn-test.true c.loop-turn.invariant in
    grind (arith, common_steps)

pub returns-in_err-module : goal.returns-in_err-module
unfolding reads_while
returns-in_err-module c =
    let e = one_more (λ n. reads_while (sees (is (Word Module))) appended (read_module (read_statement c.args.room)) n c.loop-turn.found c.loop-turn.cursor) _
    c.loop-turn._turn c.loop-turn-test.true c.loop-turn.invariant in
    grind (arith, common_steps)

pub loop-turn-preserved : goal.loop-turn-preserved
unfolding reads_while
loop-turn-preserved c =
    let e = one_more (λ n. reads_while (sees (is (Word Module))) appended (read_module (read_statement c.args.room)) n c.loop-turn.found c.loop-turn.cursor) _
    c.loop-turn._turn c.loop-turn-test.true c.loop-turn.invariant in
    grind (arith, common_steps)
