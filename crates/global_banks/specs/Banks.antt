-- The banks of a global: the instances `u_x_k` of the outermost module that have a memory `bank_x_k`.
use Rattle.std.specs.Prelude.{ℕ, zero, suc, ◌/◌, ◌%◌, Bool, true, false, ◌&&◌, ◌||◌, nat_eq, nat_le, nat_lt, List, [], ◌∷◌}
use Rattle.std.specs.Prelude.{length, take, drop, Option, Some, None, option_and_then, slice_get, codes, decimal, if◌then◌else◌}
use Rattle.std.specs.Str.{bytes_eq}
use Rattle.std.specs.List.{position_or_len}
use Rattle.netlist.specs.declared.netlist.Memory.{Memory}
use Rattle.netlist.specs.declared.netlist.Instance.{Instance}
use Rattle.netlist.specs.declared.netlist.Module.{Module}
use Rattle.verilog_meaning.specs.Readings.{memory_words}
use Rattle.global_banks.specs.declared.locate.Location.{Location}

-- ---- names

-- what stands behind a stem
abbrev pub behind : List ℕ → List ℕ → Option (List ℕ)
behind stem name = if bytes_eq (take (length stem) name) stem then Some (drop (length stem) name) else None

-- of a name that is a stem, the name of a global, `_` and more: what more there is
abbrev pub rest_of : List ℕ → List ℕ → List ℕ → Option (List ℕ)
rest_of stem x name = option_and_then (λ r. option_and_then (behind (codes "_")) (behind x r)) (behind stem name)

abbrev pub is_digit : ℕ → Bool
is_digit b = nat_le 48 b && nat_le b 57

abbrev pub are_digits : List ℕ → Bool
are_digits [] = true
are_digits (b ∷ bs) = is_digit b && are_digits bs

abbrev pub leads : Option ℕ → ℕ → Bool
leads None n = false
leads (Some b) n = nat_lt 48 b || nat_eq n 1

-- a number in minimal decimals
abbrev pub is_decimal : List ℕ → Bool
is_decimal text = are_digits text && leads (slice_get text 0) (length text)

abbrev pub is_rest : Option (List ℕ) → List ℕ → Bool
is_rest None digits = false
is_rest (Some r) digits = bytes_eq r digits

-- ---- banks

-- the place of the memory bank_x_k, where k has these digits; past the memories where there is none
abbrev pub memory_place : List ℕ → List ℕ → List Memory → ℕ
memory_place x digits memories = position_or_len (λ (m : Memory). is_rest (rest_of (codes "bank_") x m.name) digits) memories

-- the place of the instance u_x_k
abbrev pub instance_place : List ℕ → List ℕ → List Instance → ℕ
instance_place x digits instances = position_or_len (λ (n : Instance). is_rest (rest_of (codes "u_") x n.name) digits) instances

abbrev pub memories_of : Option Module → List Memory
memories_of None = []
memories_of (Some m) = m.memories

abbrev pub kind_of : Option Instance → ℕ → ℕ
kind_of None other = other
kind_of (Some n) other = n.of

-- an instance u_x_k with a memory bank_x_k, where k has these digits
abbrev pub is_bank_by : List ℕ → List Memory → Option (List ℕ) → Bool
is_bank_by x memories None = false
is_bank_by x memories (Some digits) = is_decimal digits && nat_lt (memory_place x digits memories) (length memories)

abbrev pub is_bank : List Module → List ℕ → Instance → Bool
is_bank modules x n = is_bank_by x (memories_of (slice_get modules n.of)) (rest_of (codes "u_") x n.name)

abbrev pub bank_count : List Module → List ℕ → List Instance → ℕ
bank_count modules x [] = 0
bank_count modules x (n ∷ instances) = if is_bank modules x n then suc (bank_count modules x instances) else bank_count modules x instances

-- ---- the place of an element

abbrev pub word_in : ℕ → ℕ → ℕ → Option Memory → Option Location
word_in instance memory word found = if nat_lt word (memory_words found) then Some (record { instance = instance; memory = memory; word = word }) else None

abbrev pub memories_at : List Module → List Instance → ℕ → List Memory
memories_at modules instances place = memories_of (slice_get modules (kind_of (slice_get instances place) (length modules)))

-- in the bank whose number has these digits
abbrev pub in_bank : List Module → List Instance → List ℕ → List ℕ → ℕ → Option Location
in_bank modules instances x digits word =
    let i = instance_place x digits instances in
    let memories = memories_at modules instances i in
    let j = memory_place x digits memories in
    word_in i j word (slice_get memories j)

-- none where no bank has it
abbrev pub located : List Module → List Instance → List ℕ → ℕ → ℕ → Option Location
located modules instances x element zero = None
located modules instances x element (suc banks) = in_bank modules instances x (decimal (element % suc banks)) (element / suc banks)

abbrev pub location : List Module → Module → List ℕ → ℕ → Option Location
location modules top x element = located modules top.instances x element (bank_count modules x top.instances)
