-- Constants: how integers are spelled, their values and their types (C99 6.4.4.1).
use Rattle.std.specs.Prelude.{ℕ, ◌+◌, ◌-◌, ◌*◌, ◌^◌, Bool, true, false, ◌==◌, ◌&&◌, ◌||◌, nat_eq, nat_le, nat_lt}
use Rattle.std.specs.Prelude.{if◌then◌else◌, List, [], ◌∷◌, length, take, drop, Option, Some, None, option_map, slice_index, not, codes}
use Rattle.std.specs.List.{find, starts_with, prefix_len}
use Rattle.std.specs.Str.{bytes_eq}
use Rattle.std.specs.Char.{is_ascii_digit}
use Rattle.c_token.specs.declared.constant.ConstantType.{ConstantType}
use Rattle.c_token.specs.declared.constant.ConstantType.TheVariants.{Int, Unsigned, Long, UnsignedLong}
use Rattle.c_token.specs.declared.constant.Constant.{Constant}
use Rattle.c_token.specs.declared.constant.Constant.TheVariants.{Typed, TooLarge}
use Rattle.c_token.specs.declared.constant.Base.{Base}
use Rattle.c_token.specs.declared.constant.Base.TheVariants.{Decimal, Octal, Hexadecimal}
use Rattle.c_token.specs.declared.constant.Suffix.{Suffix}
use Rattle.c_token.specs.Spelling.{Bytes}

-- ---- the base, by the first bytes

abbrev pub has_hexadecimal_prefix : Bytes → Bool
has_hexadecimal_prefix word = starts_with nat_eq word (codes "0x") || starts_with nat_eq word (codes "0X")

abbrev pub base_of : Bytes → Base
base_of word = if has_hexadecimal_prefix word then Hexadecimal else (if starts_with nat_eq word (codes "0") then Octal else Decimal)

abbrev pub prefix_length : Base → ℕ
prefix_length Decimal = 0
prefix_length Octal = 0
prefix_length Hexadecimal = 2

-- ---- digits and the number that they spell

abbrev pub radix : Base → ℕ
radix Decimal = 10
radix Octal = 8
radix Hexadecimal = 16

abbrev pub is_lower_hexadecimal : ℕ → Bool
is_lower_hexadecimal b = nat_le 97 b && nat_le b 102

abbrev pub is_upper_hexadecimal : ℕ → Bool
is_upper_hexadecimal b = nat_le 65 b && nat_le b 70

abbrev pub is_digit : Base → ℕ → Bool
is_digit Decimal b = is_ascii_digit b
is_digit Octal b = nat_le 48 b && nat_le b 55
is_digit Hexadecimal b = is_ascii_digit b || (is_lower_hexadecimal b || is_upper_hexadecimal b)

-- what a digit of any base counts: 0 to 9, a or A 10, f or F 15
abbrev pub digit_value : ℕ → ℕ
digit_value b = if is_lower_hexadecimal b then b - 87 else (if is_upper_hexadecimal b then b - 55 else b - 48)

-- the number n with these digits behind it
unfoldable pub number_from : Base → ℕ → Bytes → ℕ
number_from base n [] = n
number_from base n (b ∷ digits) = number_from base (n * radix base + digit_value b) digits

abbrev pub below_two_to_64 : ℕ → Option ℕ
below_two_to_64 n = if nat_lt n (2 ^ 64) then Some n else None

-- ---- suffixes

abbrev pub is_unsigned_suffix : Bytes → Bool
is_unsigned_suffix z = bytes_eq z (codes "u") || bytes_eq z (codes "U")

abbrev pub is_long_suffix : Bytes → Bool
is_long_suffix z = bytes_eq z (codes "l") || (bytes_eq z (codes "L") || (bytes_eq z (codes "ll") || bytes_eq z (codes "LL")))

-- both, in either order
abbrev pub is_unsigned_long_suffix : Bytes → Bool
is_unsigned_long_suffix z =
    (is_unsigned_suffix (take 1 z) && is_long_suffix (drop 1 z))
    || (is_long_suffix (take (length z - 1) z) && is_unsigned_suffix (drop (length z - 1) z))

unfoldable pub suffix_of : Bytes → Option Suffix
suffix_of z =
    if bytes_eq z (codes "") then Some (record { is_unsigned = false; is_long = false })
    else (if is_unsigned_suffix z then Some (record { is_unsigned = true; is_long = false })
    else (if is_long_suffix z then Some (record { is_unsigned = false; is_long = true })
    else (if is_unsigned_long_suffix z then Some (record { is_unsigned = true; is_long = true })
    else None)))

-- ---- types

-- the largest value of the type
abbrev pub maximum : ConstantType → ℕ
maximum Int = 2 ^ 31 - 1
maximum Unsigned = 2 ^ 32 - 1
maximum Long = 2 ^ 63 - 1
maximum UnsignedLong = 2 ^ 64 - 1

-- the types that a constant may have, in the order in which they are tried: by its base, and whether it is unsigned and long
abbrev pub types_by : Base → Bool → Bool → List ConstantType
types_by Decimal false false = Int ∷ Long ∷ []
types_by Octal false false = Int ∷ Unsigned ∷ Long ∷ UnsignedLong ∷ []
types_by Hexadecimal false false = Int ∷ Unsigned ∷ Long ∷ UnsignedLong ∷ []
types_by base true false = Unsigned ∷ UnsignedLong ∷ []
types_by Decimal false true = Long ∷ []
types_by Octal false true = Long ∷ UnsignedLong ∷ []
types_by Hexadecimal false true = Long ∷ UnsignedLong ∷ []
types_by base true true = UnsignedLong ∷ []

abbrev pub types_of : Base → Suffix → List ConstantType
types_of base s = types_by base s.is_unsigned s.is_long

abbrev pub typed_by : ℕ → Option ConstantType → Constant
typed_by n None = TooLarge
typed_by n (Some t) = Typed n t

-- the value with the first type that holds it
unfoldable pub typed : List ConstantType → ℕ → Constant
typed types n = typed_by n (find (λ t. nat_le n (maximum t)) types)

-- the same of a value that may be too large for every type
abbrev pub typed_value : List ConstantType → Option ℕ → Constant
typed_value types None = TooLarge
typed_value types (Some n) = typed types n

-- ---- integer constants

abbrev pub with_suffix : Base → Bytes → Option Suffix → Option Constant
with_suffix base digits None = None
with_suffix base digits (Some s) = Some (typed (types_of base s) (number_from base 0 digits))

-- at least one digit of the base, as many as there are, and then a suffix
unfoldable pub integer_by : Base → Bytes → Option Constant
integer_by base body =
    if nat_lt 0 (prefix_len (is_digit base) body)
    then with_suffix base (take (prefix_len (is_digit base) body) body) (suffix_of (drop (prefix_len (is_digit base) body) body))
    else None

-- The constant that the bytes spell; None where they spell none.
unfoldable pub integer_of : Bytes → Option Constant
integer_of word = integer_by (base_of word) (drop (prefix_length (base_of word)) word)

-- ---- character constants (C99 6.4.4.4)

-- what the byte behind a backslash stands for: n t r 0 \ ' "
unfoldable pub escape_value : ℕ → Option ℕ
escape_value b =
    if b == 110 then Some 10
    else (if b == 116 then Some 9
    else (if b == 114 then Some 13
    else (if b == 48 then Some 0
    else (if b == 92 || (b == 39 || b == 34) then Some b
    else None))))

-- 0x20 to 0x7E, but for the quote and the backslash
abbrev pub is_character_byte : ℕ → Bool
is_character_byte b = (nat_le 32 b && nat_le b 126) && (not (b == 39) && not (b == 92))

abbrev pub is_between_quotes : Bytes → Bool
is_between_quotes word = slice_index word 0 == 39 && slice_index word (length word - 1) == 39

abbrev pub is_plain_character : Bytes → Bool
is_plain_character word = length word == 3 && (is_between_quotes word && is_character_byte (slice_index word 1))

abbrev pub is_escaped_character : Bytes → Bool
is_escaped_character word = length word == 4 && (is_between_quotes word && slice_index word 1 == 92)

-- The constant that the bytes spell from quote to quote: one byte, or a backslash and one byte. None where they spell none.
unfoldable pub character_of : Bytes → Option Constant
character_of word =
    if is_plain_character word then Some (Typed (slice_index word 1) Int)
    else (if is_escaped_character word then option_map (λ n. Typed n Int) (escape_value (slice_index word 2))
    else None)
