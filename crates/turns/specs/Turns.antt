-- Lists of turns: items with commas between, an item is `i` (thread i takes a step) or `i*k` (it takes k steps).
use Rattle.std.specs.Prelude.{ℕ, ◌+◌, ◌^◌, Bool, ◌&&◌, ◌==◌, nat_lt, nat_le, if◌then◌else◌, List, [], ◌∷◌, ◌++◌, length, replicate, Option, Some, None, option_and_then, option_map}
use Rattle.std.specs.List.{list_all, slice_split, before_first, after_first, position_or_len}
use Rattle.std.specs.Char.{digit_value}
use Rattle.std.specs.Str.Parse.{digits_value, without_leading_plus}
use Rattle.turns.specs.declared.Turn.{Turn}

-- one decimal digit or more
abbrev pub is_decimal : List ℕ → Bool
is_decimal text = nat_lt 0 (length text) && list_all (λ d. nat_lt (digit_value d) 10) text

-- the number of 32 bits that decimal digits write, behind a plus or not, as Rust reads it
abbrev pub read_number : List ℕ → Option ℕ
read_number text =
    if is_decimal (without_leading_plus text) && nat_lt (digits_value 10 (without_leading_plus text)) (2 ^ 32)
    then Some (digits_value 10 (without_leading_plus text)) else None

-- the number of 32 bits that 1 to 10 decimal digits write
abbrev pub number_of : List ℕ → Option ℕ
number_of text =
    if is_decimal text && nat_le (length text) 10 && nat_lt (digits_value 10 text) (2 ^ 32)
    then Some (digits_value 10 text) else None

abbrev pub most_steps : ℕ
most_steps = 1000000

-- how often a thread takes a step
abbrev pub times_of_number : ℕ → Option ℕ
times_of_number n = if nat_le 1 n && nat_le n most_steps then Some n else None

abbrev pub times_of : List ℕ → Option ℕ
times_of text = option_and_then times_of_number (number_of text)

abbrev pub turn : ℕ → ℕ → Turn
turn thread steps = record { thread = thread; steps = steps }

abbrev pub is_star : ℕ → Bool
is_star b = b == 42

abbrev pub times_in : List ℕ → Option ℕ
times_in item = if position_or_len is_star item == length item then Some 1 else times_of (after_first is_star item)

-- an item
abbrev pub turn_of : List ℕ → Option Turn
turn_of item =
    option_and_then (λ thread. option_map (turn thread) (times_in item)) (number_of (before_first is_star item))

-- every item, where each is one
abbrev pub all_turns : List (List ℕ) → Option (List Turn)
all_turns [] = Some []
all_turns (item ∷ items) = option_and_then (λ t. option_map (λ ts. t ∷ ts) (all_turns items)) (turn_of item)

-- how many steps the turns take
abbrev pub steps_of : List Turn → ℕ
steps_of [] = 0
steps_of (t ∷ ts) = t.steps + steps_of ts

abbrev pub few : List Turn → Option (List Turn)
few ts = if nat_le (steps_of ts) most_steps then Some ts else None

-- THE TURNS that a text lists, of which all steps together are few enough
abbrev pub turns_of : List ℕ → Option (List Turn)
turns_of text = option_and_then few (all_turns (slice_split (λ b. b == 44) text))

-- the threads that take steps, one after another
abbrev pub threads_of : List Turn → List ℕ
threads_of [] = []
threads_of (t ∷ ts) = replicate t.steps t.thread ++ threads_of ts
