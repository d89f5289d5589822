-- The routines of the elements of pthread_t objects.
use Rattle.std.specs.Prelude.{ℕ, List, replicate, Option}
use Rattle.std.specs.List.{flat_map}
use Rattle.c_program.specs.declared.tree.ThreadObject.{ThreadObject}

-- for each element the routine of its object, if it has one
abbrev pub routines_of : List ThreadObject → List (Option ℕ)
routines_of objects = flat_map (λ (object : ThreadObject). replicate object.length object.routine) objects
