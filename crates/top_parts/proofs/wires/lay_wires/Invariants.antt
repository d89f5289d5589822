use Rattle.top_parts.proofs.wires.lay_wires.Given as goal
use Rattle.top_parts.proofs.GrownLists.{AreWires}

abbrev pub invariant-loop-instance : goal.invariant-loop-instance
invariant-loop-instance l = AreWires l.modules l.parts l.threads l.place l.instance l.wires l.starts
