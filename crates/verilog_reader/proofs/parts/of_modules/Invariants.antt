use Rattle.std.proofs.Common.{◌≡◌, length, take}
use Rattle.verilog_tree.specs.Grammar as g
use Rattle.verilog_reader.proofs.parts.of_modules.Given as goal

abbrev pub invariant-loop-module : goal.invariant-loop-module
invariant-loop-module l = l.count ≡ length (g.all g.module_tokens (take l.module-index l.modules))
