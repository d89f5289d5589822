use Rattle.std.proofs.Common.{◌≡◌, ℕ, ◌<◌, true, Some}
use Rattle.std.specs.Prelude.{slice_get}
use Rattle.std.specs.Str.{bytes_eq}
use Rattle.verilog_tree.specs.declared.tree.Module.{Module}
use Rattle.verilog_reader.specs.Top.{top}
use Rattle.verilog_reader.proofs.read.has_top.Given as goal

abbrev pub invariant-loop-number : goal.invariant-loop-number
invariant-loop-number l = (j : ℕ) (m : Module) → j < l.number → slice_get l.modules j ≡ Some m → bytes_eq m.name top ≡ true → ⊥
