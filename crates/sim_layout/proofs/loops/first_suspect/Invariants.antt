use Rattle.sim_layout.specs.Leads.{AreLoopless}
use Rattle.sim_layout.proofs.loops.first_suspect.Given as goal

abbrev pub invariant-loop-number : goal.invariant-loop-number
invariant-loop-number l = AreLoopless l.modules l.wires l.parts l.number
