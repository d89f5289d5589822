-- Lists of touches that conflict, and the least location of which something holds.
use Rattle.std.specs.Prelude.{◌≡◌, Bool, true, ◌&&◌, ◌||◌, if◌then◌else◌, nat_eq, nat_lt, nat_le, List, Option, Some, None, Contains}
use Rattle.std.specs.List.{list_any}
use Rattle.thread_semantics.specs.Memory.{Location}
use Rattle.thread_semantics.specs.Races.{Touch}

-- both touch the place, and one of them writes it
pub record Conflict (ys zs : List Touch) (place : Location) : Type 0 where
  pub first : Touch
  pub second : Touch
  pub first_in : Contains ys first
  pub second_in : Contains zs second
  pub first_place : first.place ≡ place
  pub second_place : second.place ≡ place
  pub written : (first.written || second.written) ≡ true

-- the first ones write the place, and the second ones touch it
pub record Hits (ys zs : List Touch) (place : Location) : Type 0 where
  pub first : Touch
  pub second : Touch
  pub first_in : Contains ys first
  pub second_in : Contains zs second
  pub first_place : first.place ≡ place
  pub second_place : second.place ≡ place
  pub written : first.written ≡ true

-- the order of places: by their globals in order of declaration, then by index; a place precedes itself
abbrev pub precedes : Location → Location → Bool
precedes p q = nat_lt p.variable q.variable || (nat_eq p.variable q.variable && nat_le p.index q.index)

-- the least place of which something holds, or there is none
abbrev pub IsLeast : (Location → Type 0) → Option Location → Type 0
IsLeast Is None = (q : Location) → Is q → ⊥
IsLeast Is (Some p) = Is p × ((q : Location) → Is q → precedes p q ≡ true)

-- The same as the code finds it.
abbrev pub is_at : Location → Touch → Bool
is_at p t = nat_eq t.place.variable p.variable && nat_eq t.place.index p.index

abbrev pub hit : Touch → List Touch → Option Location
hit t others = if t.written && list_any (is_at t.place) others then Some t.place else None

abbrev pub lesser : Location → Location → Location
lesser p q = if precedes p q then p else q

abbrev pub least : Option Location → Option Location → Option Location
least None b = b
least (Some p) None = Some p
least (Some p) (Some q) = Some (lesser p q)
