use Rattle.std.proofs.Common.{◌≡◌, fold, take, map}
use Rattle.c_rules.specs.Constants.{next, term_constancy}
use Rattle.c_rules.proofs.constants.+constancy_of.Given as goal

abbrev pub invariant-loop-term : goal.invariant-loop-term
invariant-loop-term l = l.value ≡ fold next l.initial.value (map term_constancy (take l.term-index l.term-items))
