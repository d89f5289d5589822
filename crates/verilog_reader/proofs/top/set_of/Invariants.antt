use Rattle.std.proofs.Common.{◌≡◌, take}
use Rattle.verilog_tree.specs.Scope.{Name, is_known}
use Rattle.verilog_reader.proofs.top.set_of.Given as goal

abbrev pub invariant-loop-name : goal.invariant-loop-name
invariant-loop-name l = (y : Name) → is_known l.set y ≡ is_known (take l.name-index l.names) y
