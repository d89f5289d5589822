use Rattle.std.proofs.Common.{◌≡◌, drop}
use Rattle.net_check.specs.Known as known
use Rattle.net_check.specs.Search as search_for
use Rattle.net_check.proofs.search.first_among.Given as goal

abbrev pub invariant-loop-number : goal.invariant-loop-number
invariant-loop-number l =
    search_for.first_among l.placed (known.head_of l.interfaces l.printing) (drop l.number l.modules) l.number
    ≡ search_for.first_among l.placed (known.head_of l.fn.interfaces l.fn.printing) l.modules 0
