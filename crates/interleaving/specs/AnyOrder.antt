-- The accesses of a run in another order: what a block of operations may do to the memory.
use Rattle.std.specs.Prelude.{◌≡◌, List, [], ◌∷◌, ◌++◌}
use Rattle.interleaving.specs.Memory.{Location, Memory, Access, Read, Write, with_value, memory_after, Touches, Writes, AreApart}

-- an access with the value that it reads or writes
pub data Event (Value : Type 0) : Type 0 where
  ReadEvent : (place : Location) (value : Value) → Event Value
  WriteEvent : (place : Location) (value : Value) → Event Value

module _ {Value : Type 0} where
  abbrev pub access_of : Event Value → Access Value
  access_of (ReadEvent p v) = Read p
  access_of (WriteEvent p v) = Write p v

  abbrev pub accesses_in : List (Event Value) → List (Access Value)
  accesses_in [] = []
  accesses_in (e ∷ es) = access_of e ∷ accesses_in es

  -- each read has the value that the memory has at its turn
  abbrev pub ReadsRight : Memory Value → List (Event Value) → Type 0
  ReadsRight m [] = Unit {0}
  ReadsRight m (ReadEvent p v ∷ es) = (m p ≡ v) × ReadsRight m es
  ReadsRight m (WriteEvent p v ∷ es) = ReadsRight (with_value m p v) es

  -- the accesses made are a part of the run's (all), and rest is what is left of it: its reads are right, and it completes the run's effect
  pub record Remains (m : Memory Value) (all made : List (Access Value)) (rest : List (Event Value)) : Type 0 where
    pub right : ReadsRight (memory_after made m) rest
    pub effect : (p : Location) → memory_after (accesses_in rest) (memory_after made m) p ≡ memory_after all m p
    pub inside : (p : Location) → Writes p made → Writes p all
    pub within : (p : Location) → Touches p (accesses_in rest) → Touches p all
    pub writes : (p : Location) → Writes p (accesses_in rest) → Writes p all

  -- ANY ORDER: an event that is apart from those before it may come first, with the same values read and the same effect
  abbrev pub MayComeFirst : Memory Value → Type 0
  MayComeFirst m =
      (us vs : List (Event Value)) (a : Event Value) → AreApart (accesses_in us) (access_of a ∷ []) → ReadsRight m (us ++ a ∷ vs) →
      ReadsRight m (a ∷ (us ++ vs)) × ((p : Location) → memory_after (accesses_in (a ∷ (us ++ vs))) m p ≡ memory_after (accesses_in (us ++ a ∷ vs)) m p)
