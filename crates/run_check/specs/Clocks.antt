-- Vector clocks: clock j k is how many steps of thread k thread j has heard of (Fidge 1988, Mattern 1989).
use Rattle.std.specs.Prelude.{◌≡◌, ◌⊎◌, ℕ, ◌+◌, ◌≤◌, ◌<◌, Bool, true, ◌&&◌, if◌then◌else◌, max, nat_eq, nat_le, List}
use Rattle.std.specs.Prelude.{[], length, Vec, Option, Some, None, slice_get, slice_set, slice_index}
use Rattle.std.specs.declared.alloc.Global.{Global}
use Rattle.run_races.specs.Order.{is_in}
use Rattle.run_check.specs.declared.clocks.Stamp.{Stamp}

abbrev pub Rows : Type 0
Rows = List (Vec ℕ Global)

abbrev pub items_of : Option (Vec ℕ Global) → List ℕ
items_of None = []
items_of (Some v) = v.items

abbrev pub row : Rows → ℕ → List ℕ
row rows j = items_of (slice_get rows j)

abbrev pub clock : Rows → ℕ → ℕ → ℕ
clock rows j k = slice_index (row rows j) k

-- whether a thread that has heard of so many steps of each thread has heard of this one
abbrev pub is_heard : (ℕ → ℕ) → Stamp → Bool
is_heard heard stamp = nat_le stamp.number (heard stamp.thread)

-- the greater one of two numbers, each by each
abbrev pub IsRaised : List ℕ → List ℕ → List ℕ → Type 0
IsRaised old new other = (k : ℕ) → slice_index new k ≡ max (slice_index old k) (slice_index other k)

-- where thread v tells thread j, by Tells: each thread hears what all hear that tell it, and no more than that and what it had heard:
-- its clock becomes the least upper bound of theirs and its own
pub record Hears (Tells : ℕ → ℕ → Type 0) (old new : ℕ → ℕ → ℕ) : Type 0 where
  pub grows : (j k : ℕ) → old j k ≤ new j k
  pub told : (v j k : ℕ) → Tells v j → old v k ≤ new j k
  pub source : (j k : ℕ) → (new j k ≡ old j k) ⊎ ((v : ℕ) × Tells v j × (new j k ≡ old v k))

-- one thread tells one other
abbrev pub One : ℕ → ℕ → ℕ → ℕ → Type 0
One from to v j = (v ≡ from) × (j ≡ to)

-- each of these threads tells each
abbrev pub Among : List ℕ → ℕ → ℕ → Type 0
Among threads v j = (is_in v threads ≡ true) × (is_in j threads ≡ true)

pub record IsTickedRow (old new : List ℕ) (k n : ℕ) : Type 0 where
  pub within : k < length old
  pub number : n ≡ slice_index old k + 1
  pub is : new ≡ slice_set old k n

-- the clocks once thread i has taken a step
unfoldable pub ticked : (ℕ → ℕ → ℕ) → ℕ → ℕ → ℕ → ℕ
ticked clock i j k = if nat_eq j i && nat_eq k i then clock i i + 1 else clock j k

pub record Ticks (old new : Rows) (i n : ℕ) : Type 0 where
  pub number : n ≡ clock old i i + 1
  pub is : (j k : ℕ) → clock new j k ≡ ticked (clock old) i j k
