-- The names of variables: those of the scalar locals, in order of declaration, function after function.
use Rattle.std.specs.Prelude.{ℕ, Bool, false, ◌&&◌, if◌then◌else◌, List, [], ◌∷◌, Option, Some, None, slice_get}
use Rattle.std.specs.List.{flat_map, list_all}
use Rattle.c_program.specs.declared.tree.LocalVariable.{LocalVariable}
use Rattle.c_program.specs.Resolved.{is_letter, is_letter_or_digit}
use Rattle.c_program.specs.Tree.{Function}
use Rattle.code_storage.specs.Locals.{is_scalar}

-- an identifier (6.4.2)
abbrev pub is_name : List ℕ → Bool
is_name [] = false
is_name (first ∷ rest) = is_letter first && list_all is_letter_or_digit rest

-- the name that is given, where it is one
abbrev pub name_given : Option (List ℕ) → List ℕ
name_given None = []
name_given (Some name) = if is_name name then name else []

abbrev pub other_names : List (List ℕ) → List (List ℕ)
other_names [] = []
other_names (name ∷ names) = names

-- the names of the scalars among locals with these names
abbrev pub scalar_names : List LocalVariable → List (List ℕ) → List (List ℕ)
scalar_names [] names = []
scalar_names (l ∷ ls) names =
    if is_scalar l then name_given (slice_get names 0) ∷ scalar_names ls (other_names names) else scalar_names ls (other_names names)

-- those of these functions
abbrev pub variable_names : List Function → List (List ℕ)
variable_names functions = flat_map (λ (f : Function). scalar_names f.locals f.local_names) functions
