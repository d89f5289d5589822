use Rattle.circuit.proofs.Growth.{more_of}
use Rattle.top_parts.specs.declared.wires.Wire.TheVariants.{Bit}
use Rattle.top_parts.proofs.wires.enables.Goals as goal

pub loop-thread-preserved : goal.loop-thread-preserved
loop-thread-preserved c = more_of c.loop-thread.wires c.push.new.self (λ i. Bit i) c.loop-thread.thread c.loop-thread.invariant c.in_ok-push.ensures.ok
