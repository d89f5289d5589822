-- The memory that threads share, and what a list of accesses touches and leaves.
-- C99 6.5 (an access reads or modifies an object); POSIX.1-2008, base definitions 4.12, memory synchronization.
use Rattle.std.specs.Prelude.{◌≡◌, ℕ, ◌==◌, ◌&&◌, Bool, List, [], ◌∷◌, if◌then◌else◌, ◌⊎◌}

-- a scalar (index 0) or an element of an array, by the number of its object
pub record Location : Type 0 where
  pub object : ℕ
  pub index : ℕ

abbrev pub same_location : Location → Location → Bool
same_location p q = (p.object == q.object) && (p.index == q.index)

abbrev pub Memory : Type 0 → Type 0
Memory Value = Location → Value

pub data Access (Value : Type 0) : Type 0 where
  Read : (place : Location) → Access Value
  Write : (place : Location) (value : Value) → Access Value

-- the reads of these places, in order
abbrev pub reads_of : {Value : Type 0} → List Location → List (Access Value)
reads_of [] = []
reads_of (p ∷ ps) = Read p ∷ reads_of ps

module _ {Value : Type 0} where
  -- the memory that has v at p, and is the same elsewhere
  abbrev pub with_value : Memory Value → Location → Value → Memory Value
  with_value m p v = λ q. if same_location q p then v else m q

  -- the memory after these accesses, in their order
  abbrev pub memory_after : List (Access Value) → Memory Value → Memory Value
  memory_after [] m = m
  memory_after (Read p ∷ es) m = memory_after es m
  memory_after (Write p v ∷ es) m = memory_after es (with_value m p v)

  -- one of the accesses reads or writes p
  abbrev pub Touches : Location → List (Access Value) → Type 0
  Touches p [] = ⊥
  Touches p (Read q ∷ es) = (p ≡ q) ⊎ Touches p es
  Touches p (Write q v ∷ es) = (p ≡ q) ⊎ Touches p es

  -- one of them writes p
  abbrev pub Writes : Location → List (Access Value) → Type 0
  Writes p [] = ⊥
  Writes p (Read q ∷ es) = Writes p es
  Writes p (Write q v ∷ es) = (p ≡ q) ⊎ Writes p es

  -- both touch one place, and at least one of them writes it
  abbrev pub Conflict : List (Access Value) → List (Access Value) → Type 0
  Conflict es fs = (p : Location) × ((Writes p es × Touches p fs) ⊎ (Touches p es × Writes p fs))

  -- they touch no place in common that one of them writes
  pub record AreApart (es fs : List (Access Value)) : Type 0 where
    pub first : (p : Location) → Writes p es → Touches p fs → ⊥
    pub second : (p : Location) → Touches p es → Writes p fs → ⊥

  -- the two memories are the same at every place that the accesses touch
  abbrev pub AgreeOn : List (Access Value) → Memory Value → Memory Value → Type 0
  AgreeOn es m n = (p : Location) → Touches p es → m p ≡ n p
