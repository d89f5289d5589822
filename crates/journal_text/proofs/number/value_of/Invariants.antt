use Rattle.std.proofs.Common.{◌≡◌, drop}
use Rattle.journal_text.specs.Numbers.{read_on}
use Rattle.journal_text.proofs.number.value_of.Given as goal

abbrev pub invariant-loop-number : goal.invariant-loop-number
invariant-loop-number l = read_on 0 l.text ≡ read_on l.value (drop l.number l.text)
