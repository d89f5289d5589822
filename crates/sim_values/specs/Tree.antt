-- The instances of a net in a list: of each the number of its module, and the place of the first instance in it.
use Rattle.std.specs.Prelude.{◌≡◌, ℕ, ◌+◌, ◌<◌, ◌≤◌, List, [], ◌∷◌, length, slice_index, Option, Some, None, slice_get}
use Rattle.netlist.specs.declared.netlist.Instance.{Instance}
use Rattle.netlist.specs.declared.netlist.Module.{Module}
use Rattle.circuit.specs.Cycles.{Path, module_at}

abbrev pub instances_of : Option Module → List Instance
instances_of None = []
instances_of (Some m) = m.instances

abbrev pub kinds_of : List Instance → List ℕ
kinds_of [] = []
kinds_of (n ∷ instances) = n.of ∷ kinds_of instances

-- the place of the instance at a path
abbrev pub place_in : List ℕ → Path → ℕ
place_in children [] = 0
place_in children (i ∷ outer) = slice_index children (place_in children outer) + i

-- there is an instance of this path: the one round it has one of its number
abbrev pub IsInstance : List Module → Module → Path → Type 0
IsInstance modules top [] = Unit {0}
IsInstance modules top (i ∷ outer) = (m : Module) × (module_at modules top outer ≡ Some m) × (i < length m.instances)

-- all instances round that at a path have a place for their first instance
abbrev pub IsInner : List ℕ → Path → Type 0
IsInner children [] = Unit {0}
IsInner children (i ∷ outer) = (place_in children outer < length children) × IsInner children outer

-- the instance at a place
pub record IsReached (modules : List Module) (top : Module) (children : List ℕ) (place kind : ℕ) : Type 0 where
  pub path : Path
  pub is : place_in children path ≡ place
  pub inner : IsInner children path
  pub kind_is : module_at modules top path ≡ slice_get modules kind

-- the instances of the first places have theirs
pub record IsGrown (modules : List Module) (top : ℕ) (kinds children : List ℕ) : Type 0 where
  pub root : slice_get kinds 0 ≡ Some top
  pub within : length children ≤ length kinds
  pub kids : (q i kind : ℕ) (n : Instance) → q < length children → slice_get kinds q ≡ Some kind → slice_get (instances_of (slice_get modules kind)) i ≡ Some n
      → slice_get kinds (slice_index children q + i) ≡ Some n.of
  pub reached : (t : Module) → slice_get modules top ≡ Some t → (q kind : ℕ) → slice_get kinds q ≡ Some kind → IsReached modules t children q kind
  -- those of one instance stand behind it, and before those of the next
  pub behind : (q : ℕ) → q < length children → 1 ≤ slice_index children q
  pub ends : (q kind : ℕ) → q < length children → slice_get kinds q ≡ Some kind → slice_index children q + length (instances_of (slice_get modules kind)) ≤ length kinds
  pub apart : (q o kind : ℕ) → q < o → o < length children → slice_get kinds q ≡ Some kind → slice_index children q + length (instances_of (slice_get modules kind)) ≤ slice_index children o

-- all have theirs
pub record IsTree (modules : List Module) (top : ℕ) (kinds children : List ℕ) : Type 0 where
  pub grown : IsGrown modules top kinds children
  pub whole : length children ≡ length kinds
