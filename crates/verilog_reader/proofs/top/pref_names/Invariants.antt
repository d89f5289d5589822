use Rattle.std.proofs.Common.{◌≡◌}
use Rattle.verilog_reader.specs.Ports.{prefs_below, AllKnown}
use Rattle.verilog_reader.proofs.top.pref_names.Given as goal

abbrev pub invariant-loop-number : goal.invariant-loop-number
invariant-loop-number l = (l.prefs ≡ prefs_below l.number) × AllKnown l.names l.number
