use Rattle.std.proofs.Common.{◌≡◌, ◌++◌, take}
use Rattle.std.specs.List.{flat_map}
use Rattle.netlist_text.specs.LaidOut as laid
use Rattle.netlist_text.proofs.items.register_constants.Given as goal

abbrev pub invariant-loop-signal : goal.invariant-loop-signal
invariant-loop-signal l = l.out ≡ l.fn.out ++ flat_map laid.register_constant (take l.signal-index l.signals)
