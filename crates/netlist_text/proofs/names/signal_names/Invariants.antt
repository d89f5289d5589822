use Rattle.std.proofs.Common.{◌≡◌, take, map}
use Rattle.netlist_text.specs.LaidOut as laid
use Rattle.netlist_text.proofs.names.signal_names.Given as goal

abbrev pub invariant-loop-place : goal.invariant-loop-place
invariant-loop-place l = l.names ≡ map (laid.signal_name l.parent) (take l.place-index l.places)
