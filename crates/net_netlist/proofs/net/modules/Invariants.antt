use Rattle.std.proofs.Common.{◌≡◌, ◌++◌, [], take, drop}
use Rattle.netlist.specs.NetlistOf.{modules_of}
use Rattle.net_netlist.proofs.net.modules.Given as goal

abbrev pub invariant-loop-before : goal.invariant-loop-before
invariant-loop-before l = l.modules ++ modules_of (take l.before l.all) (drop l.before l.all) ≡ modules_of [] l.all
