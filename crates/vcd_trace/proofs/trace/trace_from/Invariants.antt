use Rattle.vcd_trace.specs.Tracing.{IsTracing}
use Rattle.vcd_trace.proofs.trace.trace_from.Given as goal

abbrev pub invariant-loop-number : goal.invariant-loop-number
invariant-loop-number l = IsTracing l.fn.sim l.sim l.listing l.number l.text l.numbers
