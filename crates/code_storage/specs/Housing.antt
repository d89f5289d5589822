-- Where the locals of a thread's functions stand in its code.
use Rattle.std.specs.Prelude.{◌≡◌, ◌≢◌, ℕ, ◌+◌, ◌*◌, ◌<◌, ◌≤◌, List, [], length, Option, Some, None, slice_get, ◌⊎◌}
use Rattle.std.specs.List.{AllByRecursion}
use Rattle.c_program.specs.declared.tree.LocalVariable.{LocalVariable}
use Rattle.c_program.specs.Tree.{Function, Program}
use Rattle.c_program.specs.Calls.{Reaches}
use Rattle.c_program.specs.Limits.{local_elements}
use Rattle.c_program.specs.Weight.{function_weight}
use Rattle.block_ir.specs.declared.code.Array.{Array as CodeArray}
use Rattle.code_following.specs.Typed.{Types, IsLocalArray, IsNameIfAny}
use Rattle.code_blocks.specs.declared.homes.Home.{Home}
use Rattle.code_blocks.specs.declared.homes.Home.TheVariants as home
use Rattle.code_blocks.specs.Typing.{IsTypedHome}
use Rattle.code_storage.specs.declared.rooms.Room.{Room}
use Rattle.code_storage.specs.declared.rooms.Rooms.{Rooms}
use Rattle.code_storage.specs.Formats.{HasSites}
use Rattle.code_storage.specs.Names.{name_given}

-- Locals and their homes.

-- one element stands in a variable, more of them in an array
abbrev pub IsHomeOf : ℕ → LocalVariable → Option Home → Type 0
IsHomeOf size l None = ⊥
IsHomeOf size l (Some (home.Variable n)) = (l.length ≡ 1) × (n < size)
IsHomeOf size l (Some (home.Array a)) = l.length ≢ 1

-- each local has a home of its own, those of one element a variable below size
pub record AreHomes (locals : List LocalVariable) (homes : List Home) (size : ℕ) : Type 0 where
  pub each : (x : ℕ) (l : LocalVariable) → slice_get locals x ≡ Some l → IsHomeOf size l (slice_get homes x)
  pub variables : (x y n : ℕ) → slice_get homes x ≡ Some (home.Variable n) → slice_get homes y ≡ Some (home.Variable n) → x ≡ y
  pub arrays : (x y a : ℕ) → slice_get homes x ≡ Some (home.Array a) → slice_get homes y ≡ Some (home.Array a) → x ≡ y

-- Rooms.

abbrev pub homes_there : Option Room → List Home
homes_there None = []
homes_there (Some room) = room.homes

abbrev pub site_there : Option Room → ℕ
site_there None = 0
site_there (Some room) = room.site

-- the homes of the locals of the function g, and the number of its first printf
abbrev pub homes_in : Rooms → ℕ → List Home
homes_in H g = homes_there (slice_get H.rooms g)

abbrev pub site_in : Rooms → ℕ → ℕ
site_in H g = site_there (slice_get H.rooms g)

-- the functions whose code stands in that of the thread function r: all calls are inlined
abbrev pub Runs : Program → ℕ → ℕ → Type 0
Runs P r g = (g ≡ r) ⊎ Reaches P.functions r g

-- the variables and the arrays of the rooms
abbrev pub types_in : Rooms → Types
types_in H = record { variables = H.variables; arrays = H.arrays; globals = []; lengths = [] }

-- HOUSING: the rooms of the functions whose code stands in that of the thread function r
pub record IsHousing (P : Program) (r : ℕ) (H : Rooms) : Type 0 where
  -- each local has a home of its own, of its type
  pub homes : (g : ℕ) (f : Function) → Runs P r g → slice_get P.functions g ≡ Some f → AreHomes f.locals (homes_in H g) (length H.variables)
  pub count : (g : ℕ) (f : Function) → Runs P r g → slice_get P.functions g ≡ Some f → length (homes_in H g) ≡ length f.locals
  pub types : (g x : ℕ) (f : Function) (l : LocalVariable) → Runs P r g → slice_get P.functions g ≡ Some f → slice_get f.locals x ≡ Some l →
      IsTypedHome (types_in H) l (slice_get (homes_in H g) x)
  -- and no home is one of two functions
  pub variables_apart : (g h x y n : ℕ) → slice_get (homes_in H g) x ≡ Some (home.Variable n) → slice_get (homes_in H h) y ≡ Some (home.Variable n) → g ≡ h
  pub arrays_apart : (g h x y a : ℕ) → slice_get (homes_in H g) x ≡ Some (home.Array a) → slice_get (homes_in H h) y ≡ Some (home.Array a) → g ≡ h
  -- the printf calls of each function are numbered as the program's are
  pub sites : (g : ℕ) (f : Function) → slice_get P.functions g ≡ Some f → HasSites P f.body (site_in H g)
  -- there is no more than the locals that are declared, and what is kept
  pub few : length H.variables + length H.arrays ≤ local_elements P.functions r + 3 * function_weight P.functions r
  pub arrays : (a : ℕ) (array : CodeArray) → slice_get H.arrays a ≡ Some array → IsLocalArray P array

-- NAMES: each variable has the name of the local that stands in it
pub record AreNames (P : Program) (r : ℕ) (H : Rooms) (names : List (List ℕ)) : Type 0 where
  pub count : length names ≡ length H.variables
  pub each : AllByRecursion IsNameIfAny names
  pub local : (g x n : ℕ) (f : Function) → Runs P r g → slice_get P.functions g ≡ Some f → slice_get (homes_in H g) x ≡ Some (home.Variable n) →
      slice_get names n ≡ Some (name_given (slice_get f.local_names x))
