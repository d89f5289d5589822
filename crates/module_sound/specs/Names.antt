-- The place of a signal, as its name tells it.
use Rattle.std.specs.Prelude.{ℕ, ◌+◌, ◌-◌, ◌*◌, ◌==◌, ◌&&◌, nat_le, if◌then◌else◌, List, Option, Some, None, fold, codes}
use Rattle.std.specs.Str.{bytes_eq}

-- a digit behind a number
abbrev pub digit_behind : Option ℕ → ℕ → Option ℕ
digit_behind None b = None
digit_behind (Some n) b = if nat_le 48 b && nat_le b 57 then Some (n * 10 + (b - 48)) else None

-- the number behind the last underscore, byte by byte
abbrev pub number_behind : Option ℕ → ℕ → Option ℕ
number_behind state b = if b == 95 then Some 0 else digit_behind state b

abbrev pub last_number : List ℕ → Option ℕ
last_number name = fold number_behind None name

-- of a module with so many signals, of which so many are inputs: the names without a number stand at places of their own
abbrev pub place_of : ℕ → ℕ → List ℕ → Option ℕ
place_of n inputs name =
    if bytes_eq name (codes "clk") then Some 0
    else (if bytes_eq name (codes "en") then Some 1
    else (if bytes_eq name (codes "need") then Some (n - 2)
    else (if bytes_eq name (codes "done") then Some (n - 1)
    else (if bytes_eq name (codes "beat") then Some (inputs + 2) else last_number name))))
