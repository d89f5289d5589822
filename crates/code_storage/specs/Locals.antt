-- The homes of locals: scalars are variables, arrays are arrays, each numbered in order of declaration, function after function.
use Rattle.std.specs.Prelude.{◌≡◌, ℕ, ◌+◌, ◌++◌, Bool, true, false, not, nat_eq, if◌then◌else◌, List, [], ◌∷◌, count_by, sum_by}
use Rattle.std.specs.List.{flat_map}
use Rattle.hls_ints.specs.Types.{IntegerType}
use Rattle.c_program.specs.declared.tree.LocalVariable.{LocalVariable}
use Rattle.c_program.specs.Tree.{Function}
use Rattle.c_program.specs.Limits.{print_count}
use Rattle.block_ir.specs.declared.code.Array.{Array as CodeArray}
use Rattle.code_blocks.specs.declared.homes.Home.{Home}
use Rattle.code_blocks.specs.declared.homes.Home.TheVariants.{Variable, Array}
use Rattle.code_storage.specs.declared.rooms.Room.{Room}
use Rattle.code_storage.specs.declared.rooms.Rooms.{Rooms}

abbrev pub is_scalar : LocalVariable → Bool
is_scalar l = nat_eq l.length 1

abbrev pub is_array : LocalVariable → Bool
is_array l = not (is_scalar l)

-- a local after those before it
abbrev pub home_in : Bool → List LocalVariable → Home
home_in true before = Variable (count_by is_scalar before)
home_in false before = Array (count_by is_array before)

abbrev pub homes_after : List LocalVariable → List LocalVariable → List Home
homes_after before [] = []
homes_after before (l ∷ ls) = home_in (is_scalar l) before ∷ homes_after (before ++ l ∷ []) ls

-- the types of the scalars, and the arrays, in order of declaration
abbrev pub variable_of : LocalVariable → List IntegerType
variable_of l = if is_scalar l then l.ty ∷ [] else []

abbrev pub variables_of : List LocalVariable → List IntegerType
variables_of locals = flat_map variable_of locals

abbrev pub array_of : LocalVariable → List CodeArray
array_of l = if is_scalar l then [] else record { ty = l.ty; length = l.length } ∷ []

abbrev pub arrays_of : List LocalVariable → List CodeArray
arrays_of locals = flat_map array_of locals

-- variables and arrays for these locals
pub record Houses (locals : List LocalVariable) (r : Rooms) : Type 0 where
  pub variables : r.variables ≡ variables_of locals
  pub arrays : r.arrays ≡ arrays_of locals

-- one more local has a home
pub record Homed (before : List LocalVariable) (l : LocalVariable) (home : Home) (old new : Rooms) : Type 0 where
  pub home_ : home ≡ home_in (is_scalar l) before
  pub houses : Houses (before ++ l ∷ []) new
  pub rooms : new.rooms ≡ old.rooms
  pub sites : new.sites ≡ old.sites

-- and so have these
pub record AllHomed (before locals : List LocalVariable) (homes : List Home) (old new : Rooms) : Type 0 where
  pub homes_ : homes ≡ homes_after before locals
  pub houses : Houses (before ++ locals) new
  pub rooms : new.rooms ≡ old.rooms
  pub sites : new.sites ≡ old.sites

-- the locals of all functions
abbrev pub all_locals : List Function → List LocalVariable
all_locals functions = flat_map (λ (f : Function). f.locals) functions

-- for each function the homes of its locals, after the locals of those before it, and the number of its first printf
abbrev pub rooms_after : List LocalVariable → ℕ → List Function → List Room
rooms_after before site [] = []
rooms_after before site (f ∷ fs) =
    record { homes = homes_after before f.locals; site = site } ∷ rooms_after (before ++ f.locals) (site + print_count f.body) fs

-- the rooms of these functions
pub record ArePlaced (functions : List Function) (r : Rooms) : Type 0 where
  pub rooms : r.rooms ≡ rooms_after [] 0 functions
  pub houses : Houses (all_locals functions) r
  pub sites : r.sites ≡ sum_by (λ (f : Function). print_count f.body) functions

-- how many printf calls these functions have in the text
abbrev pub prints : List Function → ℕ
prints functions = sum_by (λ (f : Function). print_count f.body) functions
