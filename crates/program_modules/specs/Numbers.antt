-- The modules of a program's hardware threads, by number: one for each function that threads run, main's first, and behind them one for threads
-- without a function.
use Rattle.std.specs.Prelude.{◌&&◌, ℕ, ◌+◌, ◌≤◌, suc, Bool, true, false, nat_eq, nat_lt, if◌then◌else◌, List, [], ◌∷◌, ◌++◌, length, map, replicate, Option, Some, None, slice_get, codes}
use Rattle.std.specs.List.{list_any}
use Rattle.hls_ints.specs.Residues.{bit_of}
use Rattle.c_program.specs.declared.tree.ThreadObject.{ThreadObject}
use Rattle.c_program.specs.Tree.{Function, Program}
use Rattle.c_program.specs.Resolved.{IsResolved}
use Rattle.c_program.specs.Weight.{thread_count, thread_functions, hardware_routines}

-- the first place of a number in a list, or the length of the list where it has none
abbrev pub place_in : List ℕ → ℕ → ℕ
place_in [] f = 0
place_in (g ∷ fs) f = if nat_eq g f then 0 else suc (place_in fs f)

-- the number of the module of a thread that runs this function, if it runs one
abbrev pub number_in : List ℕ → Option ℕ → ℕ
number_in fs None = length fs
number_in fs (Some f) = place_in fs f

abbrev pub object_numbers : List ℕ → ThreadObject → List ℕ
object_numbers fs object = replicate object.length (number_in fs object.routine)

-- for each hardware thread the number of its module
abbrev pub module_numbers : Program → List ℕ
module_numbers P = map (number_in (thread_functions P)) (hardware_routines P)

abbrev pub is_idle : Option ℕ → Bool
is_idle None = true
is_idle (Some f) = false

-- an object's threads have no function, and there is one
abbrev pub is_idle_object : ThreadObject → Bool
is_idle_object object = is_idle object.routine && nat_lt 0 object.length

-- a thread has no function
abbrev pub has_idle : Program → Bool
has_idle P = list_any is_idle (hardware_routines P)

-- NO MORE MODULES THAN THREADS: those of the functions that threads run, and the one for threads without a function where there is such a thread
abbrev pub NoMoreModules : Type 0
NoMoreModules = (P : Program) → IsResolved P → length (thread_functions P) + bit_of (has_idle P) ≤ thread_count P

-- ---- names

abbrev pub name_if : Option Function → List ℕ
name_if None = []
name_if (Some f) = f.name

-- the module of a function's threads
abbrev pub module_name : List ℕ → List ℕ
module_name name = codes "fn_" ++ name

abbrev pub function_module : Program → ℕ → List ℕ
function_module P f = module_name (name_if (slice_get P.functions f))
