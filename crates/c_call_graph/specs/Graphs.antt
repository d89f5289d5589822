-- Calls as a graph, and what a search along them finds.
use Rattle.std.specs.Prelude.{ℕ, zero, suc, nat_eq, nat_lt, Bool, true, false, not, ◌&&◌, if◌then◌else◌, List, []}
use Rattle.std.specs.Prelude.{◌∷◌, ◌++◌, fold, length, Option, Some, None, slice_get, slice_set, unwrap_or, replicate}
use Rattle.c_call_graph.specs.declared.table.Call.{Call}
use Rattle.c_call_graph.specs.declared.search.Search.{Search}

abbrev pub with_call : ℕ → List ℕ → Call → List ℕ
with_call function found c = if nat_eq c.caller function then found ++ c.callee ∷ [] else found

-- the functions that one calls, once for each call
abbrev pub callees : List Call → ℕ → List ℕ
callees calls function = fold (with_call function) [] calls

-- what is given for each number below
abbrev pub each_below : {A : Type 0} → (ℕ → A) → ℕ → List A
each_below of zero = []
each_below of (suc n) = each_below of n ++ of n ∷ []

-- those of each of so many functions
abbrev pub table : List Call → ℕ → List (List ℕ)
table calls functions = each_below (callees calls) functions

abbrev pub row : List (List ℕ) → ℕ → List ℕ
row rows function = unwrap_or (slice_get rows function) []

-- ---- a search: marks on the functions that are found, and these in the order in which they are found

abbrev pub has : List Bool → ℕ → Bool
has marks function = unwrap_or (slice_get marks function) false

-- one of the functions that is not found yet
abbrev pub is_new : Search → ℕ → Bool
is_new s function = nat_lt function (length s.marks) && not (has s.marks function)

abbrev pub with_mark : Search → ℕ → Search
with_mark s function = record { marks = slice_set s.marks function true; found = s.found ++ function ∷ [] }

abbrev pub marking : Search → ℕ → Search
marking s function = if is_new s function then with_mark s function else s

abbrev pub following : Search → List ℕ → Search
following s callees = fold marking s callees

abbrev pub following_one : List (List ℕ) → Search → Option ℕ → Search
following_one rows s None = s
following_one rows s (Some function) = following s (row rows function)

-- the function that was found at this turn is followed
abbrev pub turn : List (List ℕ) → Search → ℕ → Search
turn rows s index = following_one rows s (slice_get s.found index)

abbrev pub begun : ℕ → Search
begun functions = record { marks = replicate functions false; found = [] }

abbrev pub turns : List (List ℕ) → ℕ → ℕ → Search
turns rows root zero = marking (begun (length rows)) root
turns rows root (suc count) = turn rows (turns rows root count) count

-- the search from a function
abbrev pub searched : List (List ℕ) → ℕ → Search
searched rows root = turns rows root (length rows)

-- the marks of the search from a function
abbrev pub marks_from : List (List ℕ) → ℕ → List Bool
marks_from rows root = (searched rows root).marks

-- those of the search from each of so many functions
abbrev pub all_marks : List (List ℕ) → ℕ → List (List Bool)
all_marks rows functions = each_below (marks_from rows) functions
