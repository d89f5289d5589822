use Rattle.std.proofs.Common.{◌≡◌, ◌++◌, take, length}
use Rattle.top_parts.specs.Parts.{each_from}
use Rattle.top_parts.specs.Wires.{wire_signal}
use Rattle.top_wiring.proofs.signals.push_wires.Given as goal

abbrev pub invariant-loop-wire : goal.invariant-loop-wire
invariant-loop-wire l = l.signals ≡ l.initial.signals ++ each_from wire_signal (length l.initial.signals) (take l.wire-index l.wires)
