use Rattle.run_check.specs.Clocks.{clock}
use Rattle.run_check.proofs.Rows.{Gathers, Spreads}
use Rattle.run_check.proofs.clocks.share.Given as goal

abbrev pub invariant-loop-thread : goal.invariant-loop-thread
invariant-loop-thread l = Gathers l.threads (clock l.fn.clocks.items) (clock l.clocks.items) l.thread-index

abbrev pub invariant-loop-thread-2 : goal.invariant-loop-thread-2
invariant-loop-thread-2 l = Spreads l.threads (clock l.fn.clocks.items) (clock l.clocks.items) l.thread-index
