use Rattle.std.proofs.Common.{◌≡◌, drop}
use Rattle.journal_text.specs.Lines as lines
use Rattle.journal_text.proofs.spelling.past.Given as goal

abbrev pub invariant-loop-number : goal.invariant-loop-number
invariant-loop-number l = lines.past l.byte l.text ≡ lines.past l.byte (drop l.number l.text)
