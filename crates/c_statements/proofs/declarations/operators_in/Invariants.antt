use Rattle.std.proofs.Common.{◌≡◌, fold, take}
use Rattle.c_rules.specs.Constants.{operator_count, plus}
use Rattle.c_statements.proofs.declarations.operators_in.Given as goal

abbrev pub invariant-loop-e : goal.invariant-loop-e
invariant-loop-e l = l.count ≡ fold (λ n e. plus n (operator_count e)) 0 (take l.e-index l.lengths)
