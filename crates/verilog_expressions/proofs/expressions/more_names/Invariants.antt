use Rattle.std.proofs.Common.{◌≡◌, ◌-◌}
use Rattle.grammar.specs.Readers.{reads_while, sees, appended}
use Rattle.verilog_tree.specs.declared.token.Mark.TheVariants.{Comma}
use Rattle.verilog_rules.specs.declared.sign.Sign.TheVariants.{Mark}
use Rattle.verilog_rules.specs.Signs.{is}
use Rattle.verilog_rules.specs.Reading.{read_more, read_name, read_next}
use Rattle.verilog_expressions.proofs.expressions.more_names.Given as goal

abbrev pub invariant-loop-turn : goal.invariant-loop-turn
invariant-loop-turn l =
    read_more read_name l.fn.first l.fn.cursor ≡ reads_while (sees (is (Mark Comma))) appended (read_next read_name) (l._turn-end - l._turn) l.found l.cursor
