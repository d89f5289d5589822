use Rattle.std.proofs.Common.{◌≡◌, ◌+◌, drop}
use Rattle.journal_text.specs.Lines as lines
use Rattle.journal_text.proofs.text.line_long.Given as goal

abbrev pub invariant-loop-number : goal.invariant-loop-number
invariant-loop-number l = lines.line_long l.text ≡ l.number + lines.line_long (drop l.number l.text)
