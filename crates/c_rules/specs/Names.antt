-- What names stand for, by scope (C99 6.2.1).
use Rattle.std.specs.Prelude.{ℕ, ◌-◌, length, remove, slice_get, fold, Bool, true, false, not, ◌&&◌, ◌||◌, is_some, List, [], ◌∷◌, ◌++◌, Option, Some, None}
use Rattle.c_program.specs.declared.tree.Storage.{Storage}
use Rattle.c_program.specs.declared.tree.Storage.TheVariants.{Automatic, Static}
use Rattle.c_rules.specs.declared.names.ObjectKind.{ObjectKind}
use Rattle.c_rules.specs.declared.names.ObjectKind.TheVariants.{Thread, Mutex, Barrier}
use Rattle.c_rules.specs.declared.names.Meaning.{Meaning}
use Rattle.c_rules.specs.declared.names.Meaning.TheVariants as meaning
use Rattle.c_rules.specs.declared.names.Known.{Known}
use Rattle.c_rules.specs.declared.names.Known.TheVariants as known
use Rattle.c_rules.specs.declared.names.DeclaredType.{DeclaredType}
use Rattle.c_rules.specs.declared.names.Header.{Header}
use Rattle.c_rules.specs.declared.names.Gives.{Gives}
use Rattle.c_rules.specs.declared.names.Gives.TheVariants as gives
use Rattle.c_rules.specs.declared.names.Scope.{Scope}
use Rattle.c_rules.specs.declared.specifiers.BasicType.TheVariants.{Int}
use Rattle.c_rules.specs.declared.specifiers.BaseType.{BaseType}
use Rattle.c_rules.specs.declared.specifiers.BaseType.TheVariants as base
use Rattle.c_rules.specs.declared.library.LibraryFunction.{LibraryFunction}
use Rattle.c_rules.specs.Levels.{named_in, inserted}
use Rattle.c_rules.specs.Library.{function_named}

abbrev pub same_kind : ObjectKind → ObjectKind → Bool
same_kind Thread Thread = true
same_kind Mutex Mutex = true
same_kind Barrier Barrier = true
same_kind a b = false

-- the names of one scope
abbrev pub Names : Type 0
Names = List (List ℕ × Meaning)

abbrev pub or_else : {A : Type 0} → Option A → Option A → Option A
or_else None other = other
or_else (Some a) other = Some a

-- what the innermost of some scopes, the outermost of which comes first, says of a name
abbrev pub declared_outside : List Names → List ℕ → Option Meaning
declared_outside levels name = fold (λ found level. or_else (named_in level name) found) None levels

abbrev pub declared : Scope → List ℕ → Option Meaning
declared s name = or_else (named_in s.inner name) (declared_outside s.outer name)

abbrev pub from_declaration : Option Meaning → Known
from_declaration None = known.Unknown
from_declaration (Some meaning) = known.Declared meaning

abbrev pub known_by : Option LibraryFunction → Option Meaning → Known
known_by (Some function) meaning = known.Library function
known_by None meaning = from_declaration meaning

-- what a name stands for: no declaration hides a function of the library
unfoldable pub look_up : Scope → List ℕ → Known
look_up s name = known_by (function_named name) (declared s name)

abbrev pub is_argument : Known → Bool
is_argument (known.Declared meaning.Argument) = true
is_argument other = false

-- whether a name may not be declared in the innermost scope
unfoldable pub is_taken : Scope → List ℕ → Bool
is_taken s name = is_some (function_named name) || is_some (named_in s.inner name)

-- ---- how scopes change

abbrev pub empty_scope : Scope
empty_scope = record {
  definitions = [];
  outer = [];
  inner = [];
  headers = [];
  function = None;
  gives = gives.Unlisted;
  locals = [];
  local_names = [];
  loops = 0;
  exits = 0;
  kept_from = 0;
}

abbrev pub is_automatic : Storage → Bool
is_automatic Automatic = true
is_automatic Static = false

-- the parameter of a start routine is a local too
abbrev pub is_local : Meaning → Bool
is_local (meaning.Variable v) = is_automatic v.storage
is_local meaning.Argument = true
is_local other = false

-- the names of locals, with that of one more
abbrev pub with_name : Bool → List ℕ → List (List ℕ) → List (List ℕ)
with_name true name names = names ++ name ∷ []
with_name false name names = names

-- a name in the innermost scope
unfoldable pub declaring : List ℕ → Meaning → Scope → Scope
declaring name meaning s = record s { inner = inserted s.inner name meaning; local_names = with_name (is_local meaning) name s.local_names }

-- a block in the innermost scope
unfoldable pub opened : Scope → Scope
opened s = record s { outer = s.outer ++ s.inner ∷ []; inner = [] }

abbrev pub closed_to : Option Names → Scope → Scope
closed_to None s = s
closed_to (Some level) s = record s { outer = remove s.outer (length s.outer - 1); inner = level }

-- the scope round the innermost one, if there is one
unfoldable pub closed : Scope → Scope
closed s = closed_to (slice_get s.outer (length s.outer - 1)) s

-- ---- types and functions

abbrev pub is_void_base : BaseType → Bool
is_void_base base.Void = true
is_void_base other = false

abbrev pub is_void_type : DeclaredType → Bool
is_void_type t = is_void_base t.base && not t.is_pointer

abbrev pub is_void_pointer : DeclaredType → Bool
is_void_pointer t = is_void_base t.base && t.is_pointer

abbrev pub is_int_base : BaseType → Bool
is_int_base (base.Integer Int) = true
is_int_base other = false

abbrev pub is_int : DeclaredType → Bool
is_int t = is_int_base t.base && not t.is_pointer

-- whether the parameters are a pointer alone
abbrev pub is_pointer_alone : List DeclaredType → Bool
is_pointer_alone [] = false
is_pointer_alone (only ∷ []) = is_void_pointer only
is_pointer_alone (first ∷ next ∷ more) = false

-- a function of a pointer that returns a pointer
abbrev pub is_start_routine : Header → Bool
is_start_routine h = is_void_pointer h.returns && is_pointer_alone h.parameters

abbrev pub gives_pointer : Gives → Bool
gives_pointer gives.Pointer = true
gives_pointer other = false
