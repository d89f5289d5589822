-- What a print site writes, and the string and the values of its $write (IEEE 1364-2005, 3.6 and 17.1).
use Rattle.std.specs.Prelude.{◌≡◌, ℕ, ◌+◌, ◌≤◌, Bool, true, ◌&&◌, ◌||◌, nat_eq, nat_le, if◌then◌else◌, List, [], ◌∷◌, ◌++◌}
use Rattle.netlist.specs.declared.netlist.Argument.{Argument}
use Rattle.netlist.specs.declared.netlist.Argument.TheVariants as argument
use Rattle.printer_cores.specs.declared.format.Part.{Part}
use Rattle.printer_cores.specs.declared.format.Part.TheVariants.{Text, Unsigned, Signed}
use Rattle.circuit.specs.Rows.{EachOf}

-- bytes 0x20 to 0x7E, line feeds and tabs
abbrev pub is_printable : ℕ → Bool
is_printable b = (nat_le 32 b && nat_le b 126) || (nat_eq b 10 || nat_eq b 9)

abbrev pub all_printable : List ℕ → Bool
all_printable [] = true
all_printable (b ∷ bytes) = is_printable b && all_printable bytes

abbrev pub IsPart : Part → Type 0
IsPart (Text bytes) = all_printable bytes ≡ true
IsPart Unsigned = Unit {0}
IsPart Signed = Unit {0}

-- how many values a site has
abbrev pub values_of : List Part → ℕ
values_of [] = 0
values_of (Text bytes ∷ parts) = values_of parts
values_of (Unsigned ∷ parts) = 1 + values_of parts
values_of (Signed ∷ parts) = 1 + values_of parts

-- a site of at most so many values
abbrev pub IsSite : ℕ → List Part → Type 0
IsSite values parts = EachOf IsPart parts × (values_of parts ≤ values)

-- ---- the string: a line feed, a tab, a backslash and a quote behind a backslash, and a percent twice

abbrev pub spelled_byte : ℕ → List ℕ
spelled_byte b =
    if nat_eq b 10 then 92 ∷ 110 ∷ []
    else (if nat_eq b 9 then 92 ∷ 116 ∷ []
    else (if nat_eq b 92 then 92 ∷ 92 ∷ []
    else (if nat_eq b 34 then 92 ∷ 34 ∷ []
    else (if nat_eq b 37 then 37 ∷ 37 ∷ []
    else b ∷ []))))

abbrev pub spelled_bytes : List ℕ → List ℕ
spelled_bytes [] = []
spelled_bytes (b ∷ bytes) = spelled_byte b ++ spelled_bytes bytes

abbrev pub spelled_part : Part → List ℕ
spelled_part (Text bytes) = spelled_bytes bytes
spelled_part Unsigned = 37 ∷ 48 ∷ 100 ∷ []
spelled_part Signed = 37 ∷ 48 ∷ 100 ∷ []

abbrev pub spelled : List Part → List ℕ
spelled [] = []
spelled (p ∷ parts) = spelled_part p ++ spelled parts

-- ---- the values, from a place on

abbrev pub arguments_of : ℕ → List Part → List Argument
arguments_of place [] = []
arguments_of place (Text bytes ∷ parts) = arguments_of place parts
arguments_of place (Unsigned ∷ parts) = argument.Unsigned place ∷ arguments_of (place + 1) parts
arguments_of place (Signed ∷ parts) = argument.Signed place ∷ arguments_of (place + 1) parts
