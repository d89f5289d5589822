use Rattle.std.proofs.Common.{◌≡◌, ℕ, ◌≤◌, length, Some}
use Rattle.std.specs.Prelude.{slice_get}
use Rattle.code_merge.specs.Used as spec
use Rattle.code_merge.proofs.numbers.numbers_of.Given as goal

abbrev pub invariant-loop-used : goal.invariant-loop-used
invariant-loop-used l = record {
  most : l.count ≤ l.used-index;
  count : l.count ≡ spec.number l.fn.used l.used-index;
  size : length l.of ≡ l.used-index;
  of : (k n : ℕ) → slice_get l.of k ≡ Some n → n ≡ spec.number l.fn.used k;
}
