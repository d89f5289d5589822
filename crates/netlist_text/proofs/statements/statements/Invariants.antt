use Rattle.std.proofs.Common.{◌≡◌, take, map}
use Rattle.netlist_text.specs.LaidOut as laid
use Rattle.netlist_text.proofs.statements.statements.Given as goal

abbrev pub invariant-loop-action : goal.invariant-loop-action
invariant-loop-action l = l.body ≡ map (laid.statement l.parent) (take l.action-index l.parent.actions)
