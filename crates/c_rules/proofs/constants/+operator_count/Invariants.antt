use Rattle.std.proofs.Common.{◌≡◌, fold, take, map}
use Rattle.c_rules.specs.Constants.{next_operators, term_operators}
use Rattle.c_rules.proofs.constants.+operator_count.Given as goal

abbrev pub invariant-loop-term : goal.invariant-loop-term
invariant-loop-term l = l.count ≡ fold next_operators l.initial.count (map term_operators (take l.term-index l.term-items))
