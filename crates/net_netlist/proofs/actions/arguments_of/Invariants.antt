use Rattle.std.proofs.Common.{◌≡◌, map, take}
use Rattle.net_netlist.specs.Actions.{argument_of}
use Rattle.net_netlist.proofs.actions.arguments_of.Given as goal

abbrev pub invariant-loop-argument : goal.invariant-loop-argument
invariant-loop-argument l = l.values ≡ map (argument_of l.signals) (take l.argument-index l.arguments)
