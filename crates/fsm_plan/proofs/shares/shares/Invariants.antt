use Rattle.std.proofs.Common.{◌≡◌, [], ◌++◌}
use Rattle.std.specs.Prelude.{vec_len}
use Rattle.fsm_plan.specs.Shares.{codes_of}
use Rattle.fsm_plan.proofs.shares.shares.Given as goal

abbrev pub invariant-loop-number : goal.invariant-loop-number
invariant-loop-number l = record {
  whole : codes_of l.shares.items ++ l.rest ≡ l.codes;
  made : vec_len l.shares ≡ l.number;
  past : l.number ≡ l.count → l.rest ≡ [];
}
