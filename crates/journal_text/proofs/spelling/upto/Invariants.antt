use Rattle.std.proofs.Common.{◌≡◌, ◌++◌, take, drop}
use Rattle.journal_text.specs.Lines as lines
use Rattle.journal_text.proofs.spelling.upto.Given as goal

abbrev pub invariant-loop-number : goal.invariant-loop-number
invariant-loop-number l = lines.upto l.byte l.text ≡ take l.number l.text ++ lines.upto l.byte (drop l.number l.text)
