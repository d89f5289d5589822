-- Rows at a place: which are free there, and until where the others are busy.
use Rattle.std.specs.Prelude.{◌≡◌, ℕ, ◌<◌, ◌≤◌, List, [], ◌∷◌, ◌++◌, length, slice_index, slice_set, ◌⊎◌, Option, Some, None}
use Rattle.std.specs.List.{Contains}
use Rattle.interval_pack.specs.declared.interval.Interval.{Interval}
use Rattle.interval_pack.specs.declared.rows.Rows.{Rows}
use Rattle.interval_pack.specs.Order.{IsPut}

-- `ends` has for each row the end of its last interval; each row is free, that is ended at the place or before, or listed as busy
pub record AreRows (ends : List ℕ) (place : ℕ) (rows : Rows) : Type 0 where
  pub count : length ends ≡ rows.count
  pub free : (r : ℕ) → Contains rows.free.keys r → (r < length ends) × (slice_index ends r ≤ place)
  pub busy : (end r : ℕ) → Contains rows.busy.keys (end, r) → (r < length ends) × (slice_index ends r ≡ end)
  pub each : (r : ℕ) → r < length ends → Contains rows.free.keys r ⊎ Contains rows.busy.keys (slice_index ends r, r)

-- no busy row has ended at the place
abbrev pub AllLater : ℕ → List (ℕ × ℕ) → Type 0
AllLater place busy = (end r : ℕ) → Contains busy (end, r) → place < end

-- and all that have ended are listed as free
pub record AreRowsAt (ends : List ℕ) (place : ℕ) (rows : Rows) : Type 0 where
  pub rows_are : AreRows ends place rows
  pub later : AllLater place rows.busy.keys

-- the first of the busy rows was taken out if it has ended
abbrev pub IsPopped : ℕ → List (ℕ × ℕ) → List (ℕ × ℕ) → Option (ℕ × ℕ) → Type 0
IsPopped place old new None = (new ≡ old) × AllLater place old
IsPopped place old new (Some first) = (old ≡ first ∷ new) × (first.0 ≤ place)

-- each row below r is busy at the place
abbrev pub AreBusy : List ℕ → ℕ → ℕ → Type 0
AreBusy ends place r = (q : ℕ) → q < r → place < slice_index ends q

-- at the later place, the rows are as before, and all that have ended are free
abbrev pub IsVacated : ℕ → Rows → Rows → Type 0
IsVacated place old new = (ends : List ℕ) (before : ℕ) → before ≤ place → AreRows ends before old → AreRowsAt ends place new

-- the interval has the least row that is free at its start, or none is
abbrev pub IsReuse : Interval → Rows → Rows → Option ℕ → Type 0
IsReuse interval old new None = (ends : List ℕ) → AreRowsAt ends interval.start old → AreRowsAt ends interval.start new × AreBusy ends interval.start (length ends)
IsReuse interval old new (Some r) = (ends : List ℕ) → AreRowsAt ends interval.start old →
    (r < length ends) × (slice_index ends r ≤ interval.start) × AreBusy ends interval.start r × AreRows (slice_set ends r interval.end) interval.start new

-- the interval has a new row
abbrev pub IsOpening : Interval → Rows → Rows → Type 0
IsOpening interval old new = (ends : List ℕ) → AreRowsAt ends interval.start old → AreRows (ends ++ interval.end ∷ []) interval.start new

-- interval i, which starts at the place or later, is put into its row
abbrev pub IsPlaced : ℕ → Interval → List ℕ → Rows → ℕ → List ℕ → Rows → ℕ → Type 0
IsPlaced i interval row rows crowded row' rows' crowded' = (ends : List ℕ) (before : ℕ) → before ≤ interval.start → AreRows ends before rows →
    (ends' : List ℕ) × IsPut i interval row ends crowded row' ends' crowded' × AreRows ends' interval.start rows'
