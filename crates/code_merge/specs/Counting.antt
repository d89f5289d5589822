-- How ways are counted.
use Rattle.std.specs.Prelude.{◌≡◌, ℕ, zero, suc, List, length, Option, Some, None, slice_get, slice_set}
use Rattle.block_ir.specs.declared.block.Next.{Next}
use Rattle.block_ir.specs.declared.block.Next.TheVariants.{Jump, Branch}
use Rattle.block_ir.specs.declared.code.Stage.{Stage}
use Rattle.block_ir.specs.declared.code.Stage.TheVariants.{Run, Act}

abbrev pub one_more : ℕ → ℕ
one_more zero = 1
one_more (suc n) = 2

abbrev pub counted_at : List ℕ → ℕ → Option ℕ → List ℕ
counted_at counts at None = counts
counted_at counts at (Some c) = slice_set counts at (one_more c)

abbrev pub counted : List ℕ → ℕ → List ℕ
counted counts at = counted_at counts at (slice_get counts at)

abbrev pub next_counted : List ℕ → Next → List ℕ
next_counted counts (Jump l) = counted counts l
next_counted counts (Branch test nonzero zero_) = counted (counted counts nonzero) zero_

abbrev pub stage_counted : List ℕ → Stage → List ℕ
stage_counted counts (Run b) = next_counted counts b.next
stage_counted counts (Act act next) = counted counts next

abbrev pub AreZero : ℕ → List ℕ → Type 0
AreZero n counts = (length counts ≡ n) × ((k c : ℕ) → slice_get counts k ≡ Some c → c ≡ 0)
