use Rattle.std.proofs.Common.{◌≡◌, ◌-◌}
use Rattle.grammar.specs.Readers.{reads_while, sees, appended}
use Rattle.verilog_tree.specs.declared.token.Word.TheVariants.{Module}
use Rattle.verilog_rules.specs.declared.sign.Sign.TheVariants.{Word}
use Rattle.verilog_rules.specs.Signs.{is}
use Rattle.verilog_rules.specs.Reading.{read_module, read_modules, read_statement}
use Rattle.verilog_parser.proofs.modules.modules.Given as goal

abbrev pub invariant-loop-turn : goal.invariant-loop-turn
invariant-loop-turn l =
    read_modules (read_statement l.room) l.fn.first l.fn.cursor ≡ reads_while (sees (is (Word Module))) appended (read_module (read_statement l.room))
    (l._turn-end - l._turn) l.found l.cursor
