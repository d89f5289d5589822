use Rattle.std.proofs.Common.{◌≡◌, ◌-◌}
use Rattle.grammar.specs.Readers.{reads_while, sees, appended}
use Rattle.verilog_tree.specs.declared.token.Mark.TheVariants.{Comma}
use Rattle.verilog_rules.specs.declared.sign.Sign.TheVariants.{Mark}
use Rattle.verilog_rules.specs.Signs.{is}
use Rattle.verilog_rules.specs.Reading.{read_connection, read_more, read_next}
use Rattle.verilog_parser.proofs.items.more_connections.Given as goal

abbrev pub invariant-loop-turn : goal.invariant-loop-turn
invariant-loop-turn l =
    read_more read_connection l.fn.first l.fn.cursor ≡ reads_while (sees (is (Mark Comma))) appended (read_next read_connection) (l._turn-end - l._turn) l.found l.cursor
