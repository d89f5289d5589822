-- Which type a list of words spells (C99 6.7.2, 6.7.1, 6.7.3).
use denote.Enum.Bare.{sameb}
use Rattle.std.specs.Prelude.{ℕ, Bool, true, false, ◌||◌, ◌&&◌, nat_eq, nat_lt, nat_le, if◌then◌else◌, List, [], ◌∷◌, count_by, Option, Some, None, option_map}
use Rattle.hls_ints.specs.Types.{IntegerType, bits_8, bits_16, int_type, unsigned_int, long_int, unsigned_long}
use Rattle.c_tree.specs.declared.expression.TypeWord.{TypeWord}
use Rattle.c_tree.specs.declared.expression.TypeWord.TheVariants as w
use Rattle.c_tree.specs.contracts.expression.TypeWord as type_word
use Rattle.c_tree.specs.declared.expression.Specifiers.{Specifiers}
use Rattle.c_rules.specs.declared.specifiers.BasicType.{BasicType}
use Rattle.c_rules.specs.declared.specifiers.BasicType.TheVariants.{Char, UnsignedChar, Short, UnsignedShort, Int, UnsignedInt, Long, UnsignedLong}
use Rattle.c_rules.specs.declared.specifiers.BaseType.{BaseType}
use Rattle.c_rules.specs.declared.specifiers.BaseType.TheVariants as base
use Rattle.c_rules.specs.declared.specifiers.Spelled.{Spelled}

abbrev pub c_type : BasicType → IntegerType
c_type Char = record { width = bits_8; signed = true }
c_type UnsignedChar = record { width = bits_8; signed = false }
c_type Short = record { width = bits_16; signed = true }
c_type UnsignedShort = record { width = bits_16; signed = false }
c_type Int = int_type
c_type UnsignedInt = unsigned_int
c_type Long = long_int
c_type UnsignedLong = unsigned_long

abbrev pub unsigned : BasicType → BasicType
unsigned Char = UnsignedChar
unsigned UnsignedChar = UnsignedChar
unsigned Short = UnsignedShort
unsigned UnsignedShort = UnsignedShort
unsigned Int = UnsignedInt
unsigned UnsignedInt = UnsignedInt
unsigned Long = UnsignedLong
unsigned UnsignedLong = UnsignedLong

-- how often a word is among the words
abbrev pub count : List TypeWord → TypeWord → ℕ
count words word = count_by (λ x. sameb type_word.the_type x word) words

abbrev pub has : List TypeWord → TypeWord → Bool
has words word = nat_lt 0 (count words word)

-- the signed integer type of so many of the words, with a word for the sign or without
abbrev pub signed_by : Bool → ℕ → ℕ → ℕ → ℕ → Option BasicType
signed_by sign chars shorts ints longs =
    if nat_eq chars 1 && nat_eq shorts 0 && nat_eq ints 0 && nat_eq longs 0 then Some Char
    else (if nat_eq chars 0 && nat_eq shorts 1 && nat_le ints 1 && nat_eq longs 0 then Some Short
    else (if nat_eq chars 0 && nat_eq shorts 0 && nat_le ints 1 && (nat_eq longs 1 || nat_eq longs 2) then Some Long
    else (if nat_eq chars 0 && nat_eq shorts 0 && nat_eq longs 0 && (nat_eq ints 1 || (nat_eq ints 0 && sign)) then Some Int
    else None)))

abbrev pub signed_integer : List TypeWord → Bool → Option BasicType
signed_integer words sign = signed_by sign (count words w.Char) (count words w.Short) (count words w.Int) (count words w.Long)

-- with at most one of signed and unsigned
abbrev pub integer_by : ℕ → ℕ → (Bool → Option BasicType) → Option BasicType
integer_by signs unsigneds of_sign =
    if nat_eq signs 0 && nat_eq unsigneds 0 then of_sign false
    else (if nat_eq signs 1 && nat_eq unsigneds 0 then of_sign true
    else (if nat_eq signs 0 && nat_eq unsigneds 1 then option_map unsigned (of_sign true)
    else None))

abbrev pub integer : List TypeWord → Option BasicType
integer words = integer_by (count words w.Signed) (count words w.Unsigned) (signed_integer words)

-- void and the types of POSIX threads stand alone, but for a static
abbrev pub lone_by : ℕ → ℕ → ℕ → ℕ → BaseType
lone_by voids threads mutexes barriers =
    if nat_eq voids 1 && nat_eq threads 0 && nat_eq mutexes 0 && nat_eq barriers 0 then base.Void
    else (if nat_eq voids 0 && nat_eq threads 1 && nat_eq mutexes 0 && nat_eq barriers 0 then base.Thread
    else (if nat_eq voids 0 && nat_eq threads 0 && nat_eq mutexes 1 && nat_eq barriers 0 then base.Mutex
    else (if nat_eq voids 0 && nat_eq threads 0 && nat_eq mutexes 0 && nat_eq barriers 1 then base.Barrier
    else base.Unlisted)))

abbrev pub lone : List TypeWord → BaseType
lone words = lone_by (count words w.Void) (count words w.ThreadId) (count words w.Mutex) (count words w.Barrier)

abbrev pub has_lone_word : List TypeWord → Bool
has_lone_word words = has words w.Void || has words w.ThreadId || has words w.Mutex || has words w.Barrier

abbrev pub has_integer_word : List TypeWord → Bool
has_integer_word words =
    has words w.Char || has words w.Short || has words w.Int || has words w.Long || has words w.Signed || has words w.Unsigned

abbrev pub integer_base : Option BasicType → BaseType
integer_base None = base.Unlisted
integer_base (Some ty) = base.Integer ty

-- the type of a list of words, with at most one static, and const beside integer types alone
unfoldable pub base_of : List TypeWord → BaseType
base_of words =
    if nat_lt 1 (count words w.Static) then base.Unlisted
    else (if has_lone_word words then (if has_integer_word words || has words w.Const then base.Unlisted else lone words)
    else integer_base (integer words))

abbrev pub spelled_by : Specifiers → Spelled
spelled_by s = record { base = base_of s.words; is_static = has s.words w.Static; is_const = has s.words w.Const }

abbrev pub plain : Bool → BaseType → Option BasicType
plain false (base.Integer ty) = Some ty
plain static other = None

-- the integer type that words without static spell: of a cast, a local or a parameter
abbrev pub plain_integer : Specifiers → Option BasicType
plain_integer s = plain (has s.words w.Static) (base_of s.words)

-- whether the words are void alone
abbrev pub is_void_word : TypeWord → Bool
is_void_word w.Void = true
is_void_word other = false

abbrev pub is_void : List TypeWord → Bool
is_void [] = false
is_void (word ∷ []) = is_void_word word
is_void (word ∷ next ∷ more) = false
