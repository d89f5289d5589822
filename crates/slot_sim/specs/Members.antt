-- The parts of a simulator that stand in one instance, by their places.
use Rattle.std.specs.Prelude.{◌≡◌, ℕ, ◌+◌, ◌<◌, ◌≤◌, List, [], ◌∷◌, ◌++◌, length, Option, Some, None, slice_get}
use Rattle.netlist.specs.declared.netlist.Instance.{Instance}
use Rattle.netlist.specs.declared.netlist.Module.{Module}
use Rattle.verilog_meaning.specs.Names.{top_of}
use Rattle.verilog_meaning.specs.Cycles.{Path, module_at}
use Rattle.sim_values.specs.declared.edge.Part.{Part}
use Rattle.sim_values.specs.Stands.{children_of, place_of}
use Rattle.sim_values.specs.Tree.{instances_of, IsInstance}
use Rattle.sim_layout.specs.Running.{Running}

abbrev pub Listed : List ℕ → ℕ → Type 0
Listed places q = (k : ℕ) × (slice_get places k ≡ Some q)

-- the places of instances that stand one behind the other, from one on
abbrev pub places_from : ℕ → List Instance → List ℕ
places_from start [] = []
places_from start (n ∷ instances) = start ∷ places_from (start + 1) instances

-- the instances that stand in a part
abbrev pub inner_of : List Module → Option Part → List Instance
inner_of modules None = []
inner_of modules (Some p) = instances_of (slice_get modules p.module)

-- part q is the first one, or stands in it
pub data IsInside (modules : List Module) (parts : List Part) (first : ℕ) : ℕ → Type 0 where
  here : IsInside modules parts first first
  below : {q i : ℕ} → IsInside modules parts first q → i < length (inner_of modules (slice_get parts q)) → IsInside modules parts first (children_of (slice_get parts q) + i)

-- of the first n parts that are listed those that stand in them are listed too
pub record AreCollected (modules : List Module) (parts : List Part) (first n : ℕ) (places : List ℕ) : Type 0 where
  pub root : slice_get places 0 ≡ Some first
  pub within : n ≤ length places
  pub inner : (k q i : ℕ) → k < n → slice_get places k ≡ Some q → i < length (inner_of modules (slice_get parts q)) → Listed places (children_of (slice_get parts q) + i)
  pub inside : (k q : ℕ) → slice_get places k ≡ Some q → IsInside modules parts first q

-- the places of the instance at a path and of all that stand in it
pub record AreMembers (modules : List Module) (top : Module) (parts : List Part) (outer : Path) (places : List ℕ) : Type 0 where
  pub each : (inner : Path) (m : Module) → module_at modules top (inner ++ outer) ≡ Some m → Listed places (place_of parts (inner ++ outer))
  pub only : (q : ℕ) → Listed places q → (inner : Path) × IsInstance modules top (inner ++ outer) × (place_of parts (inner ++ outer) ≡ q)

-- those of the instance whose part stands first
abbrev pub AreMembersOf : Running → ℕ → List ℕ → Type 0
AreMembersOf r first places =
    (top : Module) → top_of r.modules ≡ Some top → (outer : Path) (m : Module) → module_at r.modules top outer ≡ Some m → place_of r.parts outer ≡ first
    → AreMembers r.modules top r.parts outer places
