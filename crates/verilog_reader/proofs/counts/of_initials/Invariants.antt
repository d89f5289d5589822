use Rattle.std.proofs.Common.{◌≡◌, length, take}
use Rattle.verilog_tree.specs.Grammar as g
use Rattle.verilog_reader.proofs.counts.of_initials.Given as goal

abbrev pub invariant-loop-constant : goal.invariant-loop-constant
invariant-loop-constant l = l.count ≡ length (g.all g.initial_constant (take l.constant-index l.constants))
