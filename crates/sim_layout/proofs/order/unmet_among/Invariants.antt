use Rattle.std.proofs.Common.{◌+◌, take, map}
use Rattle.sim_values.specs.Rows.{EachOf}
use Rattle.sim_values.specs.Order.{IsMarked}
use Rattle.sim_layout.proofs.order.unmet_among.Given as goal

abbrev pub invariant-loop-signal : goal.invariant-loop-signal
invariant-loop-signal l = EachOf (IsMarked l.marks) (map (λ y. l.base + y) (take l.signal-index l.signals))
