use Rattle.std.proofs.Common.{drop}
use Rattle.net_names.specs.Found.{behind}
use Rattle.net_names.specs.Tables.{AreConstants}
use Rattle.net_names.proofs.initials.numbered.Given as goal

abbrev pub invariant-loop-number : goal.invariant-loop-number
invariant-loop-number l = AreConstants l.words.entries (behind (drop l.number l.list))
