use Rattle.schedule_sdc.proofs.RelaxedRounds.{InRelaxedRound}
use Rattle.schedule_sdc.proofs.relax.one_round.Given as goal

abbrev pub invariant-loop-c : goal.invariant-loop-c
invariant-loop-c l = InRelaxedRound l.list l.fn.starts.items l.starts.items l.raised l.initial.starts.items l.c-index
