use Rattle.sim_layout.specs.Leads.{LoopsNowhere}
use Rattle.sim_layout.proofs.loops.first_from.Given as goal

abbrev pub invariant-loop-signal : goal.invariant-loop-signal
invariant-loop-signal l = LoopsNowhere l.modules l.wires l.base l.signal
