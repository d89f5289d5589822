-- The limits of the profile, and the first that a program is above.
use Rattle.std.specs.Prelude.{ℕ, codes, List, [], ◌∷◌, ◌++◌, length, filter, Option, Some, None, nat_lt, if◌then◌else◌}
use Rattle.std.specs.Option.{option_or}
use Rattle.c_program.specs.Tree.{GlobalVariable, Program}
use Rattle.c_program.specs.Counting.{capped}
use Rattle.c_program.specs.Limits.{thread_ids, mutex_elements, barrier_elements, global_elements, longest_array, print_sites, local_elements}
use Rattle.c_program.specs.Weight.{thread_functions, function_weight}
use Rattle.c_limits.specs.declared.limit.Limit.{Limit}
use Rattle.c_limits.specs.declared.limit.Limit.TheVariants.{Tokens, NameLength, Nesting, Functions, ThreadIds, MutexElements, BarrierElements, OneArray, GlobalElements, PrintSites}
use Rattle.c_limits.specs.declared.limit.Limit.TheVariants.{LocalElements, Weight}
use Rattle.c_limits.specs.declared.limit.Passed.{Passed}

-- the greatest count that is within a limit
abbrev pub most : Limit → ℕ
most Tokens = 16384
most NameLength = 63
most Nesting = 64
most Functions = 128
most ThreadIds = 63
most MutexElements = 64
most BarrierElements = 16
most OneArray = 4096
most GlobalElements = 16384
most PrintSites = 256
most LocalElements = 16384
most Weight = 8192

-- its name in a refusal
abbrev pub name_of : Limit → List ℕ
name_of Tokens = codes "tokens"
name_of NameLength = codes "name length"
name_of Nesting = codes "nesting"
name_of Functions = codes "functions"
name_of ThreadIds = codes "thread ids"
name_of MutexElements = codes "mutex elements"
name_of BarrierElements = codes "barrier elements"
name_of OneArray = codes "one array"
name_of GlobalElements = codes "global elements"
name_of PrintSites = codes "printf sites"
name_of LocalElements = codes "local elements"
name_of Weight = codes "weight"

-- the limit with the count, where the count is above it
unfoldable pub over : Limit → ℕ → Option Passed
over limit count = if nat_lt (most limit) count then Some (record { limit = limit; count = count }) else None

-- the first function of the list whose amount is above the limit
abbrev pub over_each : Limit → (ℕ → ℕ) → List ℕ → Option Passed
over_each limit amount [] = None
over_each limit amount (f ∷ fs) = option_or (over limit (amount f)) (over_each limit amount fs)

-- main among the start routines, which are in order of definition
abbrev pub in_order : ℕ → List ℕ → List ℕ
in_order main functions = filter (λ f. nat_lt f main) functions ++ (main ∷ filter (λ f. nat_lt main f) functions)

-- the first count of objects that is above its limit
abbrev pub over_objects : Program → Option Passed
over_objects P =
    option_or (over Functions (length P.functions)) (option_or (over ThreadIds (thread_ids P))
    (option_or (over MutexElements (mutex_elements P)) (over BarrierElements (barrier_elements P))))

unfoldable pub length_of : GlobalVariable → ℕ
length_of g = g.length

-- the first count of integers and printf calls
abbrev pub over_data : Program → Option Passed
over_data P =
    option_or (over OneArray (longest_array P)) (option_or (over GlobalElements (global_elements P)) (over PrintSites (capped (print_sites P))))

-- the first inlined count of a thread function, in order of definition
abbrev pub over_inlined : Program → Option Passed
over_inlined P =
    let order = in_order P.main (thread_functions P) in
    option_or (over_each LocalElements (λ f. capped (local_elements P.functions f)) order)
    (over_each Weight (λ f. capped (function_weight P.functions f)) order)

-- the first that is above its limit
abbrev pub first_passed : Program → Option Passed
first_passed P = option_or (over_objects P) (option_or (over_data P) (over_inlined P))

-- the bound of a program whose weight is the greatest that is told
abbrev pub most_bound : ℕ
most_bound = 64000064
