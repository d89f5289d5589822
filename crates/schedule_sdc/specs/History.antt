-- How each start came to be: a list of steps, each from an earlier one by a constraint. Two steps of one place,
-- the later behind which the earlier lies, make a closed walk, whose gaps are what the start has grown by.
use Rattle.std.specs.Prelude.{◌≡◌, ℕ, suc, zero, ◌+◌, ◌*◌, ◌^◌, ◌<◌, ◌≤◌, List, length, pos, ◌+ℤ◌, slice_index, slice_index_or, ◌⊎◌, Option, Some, None}
use Rattle.std.specs.List.{Contains}
use Rattle.schedule_sdc.specs.declared.constraint.Constraint.{Constraint}
use Rattle.schedule_sdc.specs.declared.history.Step.{Step}
use Rattle.schedule_sdc.specs.declared.history.Change.{Change}
use Rattle.schedule_sdc.specs.declared.cycle.Return.{Return}
use Rattle.std.specs.Global.{Vec}
use Rattle.schedule_sdc.specs.declared.history.Change.TheVariants.{Kept, Raised, Deep}
use Rattle.schedule_sdc.specs.Solution.{Meets, IsPositiveCycle}
use Rattle.schedule_sdc.specs.Relaxed.{IsRise}

abbrev pub nowhere : Step
nowhere = record { place = 0; before = 0; depth = 0; start = 0 }

abbrev pub at : List Step → ℕ → Step
at steps i = slice_index_or steps i nowhere

-- a constraint gave step i from an earlier one
pub record IsGiven (list : List Constraint) (steps : List Step) (i : ℕ) (s : Step) : Type 0 where
  pub earlier : s.before < i
  pub by : Constraint
  pub listed : Contains list by
  pub leaves : by.from ≡ (at steps s.before).place
  pub reaches : by.to ≡ s.place
  pub sum : pos (at steps s.before).start +ℤ by.gap ≡ pos s.start
  pub deeper : s.depth ≡ (at steps s.before).depth + 1

pub record IsStep (list : List Constraint) (n : ℕ) (steps : List Step) (i : ℕ) (s : Step) : Type 0 where
  pub place : s.place < n
  pub depth : s.depth ≤ n
  -- a gap is below 2 ^ 63
  pub small : s.start ≤ s.depth * 2 ^ 63
  pub linked : ((s.depth ≡ 0) × (s.start ≡ 0)) ⊎ IsGiven list steps i s

-- each step is given, and later steps of a place have later starts
pub record IsHistory (list : List Constraint) (n : ℕ) (steps : List Step) : Type 0 where
  pub step : (i : ℕ) → i < length steps → IsStep list n steps i (at steps i)
  pub rising : (i j : ℕ) → i < j → j < length steps → (at steps i).place ≡ (at steps j).place → (at steps i).start < (at steps j).start

pub record IsLatest (starts : List ℕ) (steps : List Step) (v : ℕ) (k : ℕ) : Type 0 where
  pub within : k < length steps
  pub place : (at steps k).place ≡ v
  pub start : (at steps k).start ≡ slice_index starts v

pub record IsSound (list : List Constraint) (n : ℕ) (starts : List ℕ) (last : List ℕ) (steps : List Step) : Type 0 where
  pub starts_length : length starts ≡ n
  pub last_length : length last ≡ n
  pub latest : (v : ℕ) → v < n → IsLatest starts steps v (slice_index last v)
  pub history : IsHistory list n steps
  pub passed : (i : ℕ) → i < length steps → (at steps i).start ≤ slice_index starts (at steps i).place

-- each step has fewer steps behind it than there are places
abbrev pub IsShallow : ℕ → List Step → Type 0
IsShallow n steps = (i : ℕ) → i < length steps → (at steps i).depth < n

abbrev pub IsChange : Constraint → ℕ → List ℕ → List ℕ → List Step → Change → Type 0
IsChange c n old new steps Kept = (old ≡ new) × Meets (slice_index new) c × IsShallow n steps
IsChange c n old new steps Raised = IsRise c old new × IsShallow n steps
IsChange c n old new steps Deep = (top : ℕ) × (length steps ≡ top + 1) × ((at steps top).depth ≡ n)

-- k steps back from step i
abbrev pub back : List Step → ℕ → ℕ → ℕ
back steps zero i = i
back steps (suc k) i = back steps k (at steps i).before

-- some steps back from `later` is `earlier`
abbrev pub IsBehind : List Step → ℕ → ℕ → ℕ → Type 0
IsBehind steps k later earlier = (back steps k later ≡ earlier) × ((at steps later).depth ≡ (at steps earlier).depth + k)

-- `earlier` lies behind `later`, and both are steps of one place
pub record IsReturn (steps : List Step) (later : ℕ) (earlier : ℕ) : Type 0 where
  pub order : earlier < later
  pub within : later < length steps
  pub place : (at steps earlier).place ≡ (at steps later).place
  pub count : ℕ
  pub behind : IsBehind steps count later earlier

-- a place that comes twice on the way back from a step; where none does, fewer steps lie behind it than there are places
abbrev pub IsMeeting : ℕ → List Step → ℕ → Option Return → Type 0
IsMeeting n steps top None = (at steps top).depth < n
IsMeeting n steps top (Some r) = IsReturn steps r.later r.earlier

-- the closed walk behind the last step, by whatever constraints its history is; where there is none, fewer steps lie behind it than there are places
abbrev pub IsCycleBehind : ℕ → List Step → Option (Vec ℕ) → Type 0
IsCycleBehind n steps None = (top : ℕ) → length steps ≡ top + 1 → (at steps top).depth < n
IsCycleBehind n steps (Some walk) = (list : List Constraint) (m : ℕ) → IsHistory list m steps → IsPositiveCycle list walk.items
