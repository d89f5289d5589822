use Rattle.std.proofs.Common.{◌≡◌, take, map}
use Rattle.netlist_text.specs.LaidOut as laid
use Rattle.netlist_text.proofs.statements.arguments.Given as goal

abbrev pub invariant-loop-one : goal.invariant-loop-one
invariant-loop-one l = l.all ≡ map (laid.argument l.parent) (take l.one-index l.arguments)
