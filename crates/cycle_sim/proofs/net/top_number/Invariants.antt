use Rattle.std.proofs.Common.{◌≡◌, drop, codes}
use Rattle.verilog_meaning.specs.Names.{module_named}
use Rattle.cycle_sim.proofs.net.top_number.Given as goal

abbrev pub invariant-loop-number : goal.invariant-loop-number
invariant-loop-number l = module_named l.modules (codes "top") ≡ module_named (drop l.number l.modules) (codes "top")
