use Rattle.std.proofs.Common.{◌≡◌, ◌++◌, drop}
use Rattle.journal_text.specs.Lines.{all_lines}
use Rattle.journal_text.proofs.spelling.spelled.Given as goal

abbrev pub invariant-loop-number : goal.invariant-loop-number
invariant-loop-number l = all_lines l.entries ≡ l.text ++ all_lines (drop l.number l.entries)
