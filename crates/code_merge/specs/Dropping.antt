-- What the parts of dropping do.
use Rattle.std.specs.Prelude.{◌≡◌, ℕ, Bool, true, false, nat_lt, List, length, Option, Some, None, slice_get, slice_set}
use Rattle.block_ir.specs.declared.block.Next.{Next}
use Rattle.block_ir.specs.declared.block.Next.TheVariants.{Jump, Branch}
use Rattle.block_ir.specs.declared.code.Stage.{Stage}
use Rattle.block_ir.specs.declared.code.Stage.TheVariants.{Run, Act}
use Rattle.code_merge.specs.Maximal.{ways}
use Rattle.code_merge.specs.declared.numbers.Numbers.{Numbers}
use Rattle.code_merge.specs.Used.{number}

-- with a mark at each stage to which it leads
abbrev pub marked_next : List Bool → Next → List Bool
marked_next led (Jump l) = slice_set led l true
marked_next led (Branch test nonzero zero_) = slice_set (slice_set led nonzero true) zero_ true

abbrev pub marked : List Bool → Stage → List Bool
marked led (Run b) = marked_next led b.next
marked led (Act act next) = slice_set led next true

-- n marks, none set
abbrev pub AreUnset : ℕ → List Bool → Type 0
AreUnset n led = (length led ≡ n) × ((m : ℕ) (v : Bool) → slice_get led m ≡ Some v → v ≡ false)

-- for each stage whether a way leads to it
abbrev pub AreLed : List Stage → List Bool → Type 0
AreLed stages led = (length led ≡ length stages) × ((m : ℕ) (v : Bool) → slice_get led m ≡ Some v → v ≡ nat_lt 0 (ways m stages))

-- the number of a stage; what is none has the next number
abbrev pub number_or : ℕ → Option ℕ → ℕ
number_or count None = count
number_or count (Some n) = n

abbrev pub number_in : Numbers → ℕ → ℕ
number_in numbers l = number_or numbers.count (slice_get numbers.of l)

abbrev pub AreNumbers : List Bool → Numbers → Type 0
AreNumbers used numbers = (l : ℕ) → number_in numbers l ≡ number used l
