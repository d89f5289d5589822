use Rattle.std.proofs.Common.{◌≡◌, ◌-◌}
use Rattle.grammar.specs.Readers.{reads_while, sees, appended}
use Rattle.verilog_rules.specs.Reading.{begins_item, read_item, read_items, read_statement}
use Rattle.verilog_parser.proofs.modules.items.Given as goal

abbrev pub invariant-loop-turn : goal.invariant-loop-turn
invariant-loop-turn l =
    read_items (read_statement l.room) l.fn.cursor ≡ reads_while (sees begins_item) appended (read_item (read_statement l.room)) (l._turn-end - l._turn) l.found l.cursor
