use Rattle.std.proofs.Common.{◌≡◌, ◌++◌, take, map}
use Rattle.netlist_text.specs.LaidOut as laid
use Rattle.netlist_text.proofs.modules.instances.Given as goal

abbrev pub invariant-loop-one : goal.invariant-loop-one
invariant-loop-one l = l.out ≡ l.fn.out ++ map (laid.instance_item l.modules l.parent) (take l.one-index l.parent.instances)
