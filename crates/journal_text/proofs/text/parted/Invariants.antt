use Rattle.journal_text.proofs.JournalLines.{IsSoFar}
use Rattle.journal_text.proofs.text.parted.Given as goal

abbrev pub invariant-loop-turn : goal.invariant-loop-turn
invariant-loop-turn l = IsSoFar l.text l.reading l.rest
