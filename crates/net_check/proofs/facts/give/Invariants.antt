use Rattle.std.proofs.Common.{◌≡◌, drop}
use Rattle.std.specs.Prelude.{◌&&◌}
use Rattle.verilog_tree.specs.Facts as fact
use Rattle.verilog_tree.specs.WellFormed as well
use Rattle.net_check.proofs.facts.give.Given as goal

abbrev pub invariant-loop-constant : goal.invariant-loop-constant
invariant-loop-constant l =
    ((l.new && well.are_new_places l.given (drop l.constant-index l.constants)) ≡ well.are_new_places l.fn.given l.constants)
    × (fact.after fact.after_constant l.given (drop l.constant-index l.constants) ≡ fact.after fact.after_constant l.fn.given l.constants)
