use Rattle.std.proofs.Common.{◌≡◌, length, take}
use Rattle.verilog_tree.specs.Grammar as g
use Rattle.verilog_reader.proofs.counts.of_arguments.Given as goal

abbrev pub invariant-loop-argument : goal.invariant-loop-argument
invariant-loop-argument l = l.count ≡ length (g.more g.argument (take l.argument-index l.arguments))
