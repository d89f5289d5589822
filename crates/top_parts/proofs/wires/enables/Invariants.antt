use Rattle.std.proofs.Common.{◌≡◌}
use Rattle.circuit.specs.Rows.{spread}
use Rattle.top_parts.specs.declared.wires.Wire.TheVariants.{Bit}
use Rattle.top_parts.proofs.wires.enables.Given as goal

abbrev pub invariant-loop-thread : goal.invariant-loop-thread
invariant-loop-thread l = l.wires ≡ spread (λ i. Bit i) 0 l.thread
