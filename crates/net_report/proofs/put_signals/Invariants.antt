use Rattle.std.proofs.Common.{◌≡◌, ◌++◌, take}
use Rattle.std.specs.List.{flat_map}
use Rattle.net_report.specs.Net.{signal_line}
use Rattle.net_report.proofs.put_signals.Given as goal

abbrev pub invariant-loop-signal : goal.invariant-loop-signal
invariant-loop-signal l = l.out ≡ l.fn.out ++ flat_map signal_line (take l.signal-index l.signals)
