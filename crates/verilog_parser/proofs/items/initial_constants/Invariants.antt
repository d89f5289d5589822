use Rattle.std.proofs.Common.{◌≡◌, ◌-◌}
use Rattle.grammar.specs.Readers.{reads_while, sees, appended}
use Rattle.verilog_rules.specs.Signs.{is_name}
use Rattle.verilog_rules.specs.Reading.{read_initial_constant, read_initial_constants}
use Rattle.verilog_parser.proofs.items.initial_constants.Given as goal

abbrev pub invariant-loop-turn : goal.invariant-loop-turn
invariant-loop-turn l =
    read_initial_constants l.fn.cursor ≡ reads_while (sees is_name) appended read_initial_constant (l._turn-end - l._turn) l.found l.cursor
