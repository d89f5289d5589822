use Rattle.std.proofs.Common.{◌≡◌, ℕ, ◌<◌, false, Some}
use Rattle.std.specs.Prelude.{slice_get}
use Rattle.verilog_tree.specs.declared.tree.Module.{Module}
use Rattle.verilog_reader.specs.Answers.{lacks_port}
use Rattle.verilog_reader.proofs.read.first_lacking.Given as goal

abbrev pub invariant-loop-number : goal.invariant-loop-number
invariant-loop-number l = (j : ℕ) (m : Module) → j < l.number → slice_get l.modules j ≡ Some m → lacks_port m ≡ false
