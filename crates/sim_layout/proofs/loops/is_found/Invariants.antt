use Rattle.sim_layout.specs.Leads.{AreApart}
use Rattle.sim_layout.proofs.loops.is_found.Given as goal

abbrev pub invariant-loop-number : goal.invariant-loop-number
invariant-loop-number l = AreApart l.modules l.wires l.place l.apart l.number
