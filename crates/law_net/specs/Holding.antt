-- Arbiters and the outermost module hold nothing.
use Rattle.std.specs.Prelude.{ℕ, List}
use Rattle.netlist.specs.declared.netlist.Module.{Module}
use Rattle.bank_arbiter.specs.Arbiter.{IsArbiter}
use Rattle.top_parts.specs.declared.layout.Layout.{Layout}
use Rattle.top_wiring.specs.Top.{IsTop}
use Rattle.law_net.specs.Steady.{HoldsNothing}

abbrev pub ArbitersHoldNothing : Type 0
ArbitersHoldNothing = (threads : ℕ) (m : Module) → IsArbiter threads m → HoldsNothing m

abbrev pub TopsHoldNothing : Type 0
TopsHoldNothing = (modules : List Module) (layout : Layout) (m : Module) → IsTop modules layout m → HoldsNothing m
