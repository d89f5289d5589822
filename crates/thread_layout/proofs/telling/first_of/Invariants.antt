use Rattle.thread_layout.specs.Telling.{TakesFirst}
use Rattle.thread_layout.proofs.telling.first_of.Given as goal

abbrev pub invariant-loop-number : goal.invariant-loop-number
invariant-loop-number l = TakesFirst l.places l.number l.first
