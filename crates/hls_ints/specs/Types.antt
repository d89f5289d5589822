-- The integer types of C, their values, and the conversions between them (C99 6.2.5, 6.3.1).
use Rattle.std.specs.Prelude.{◌≡◌, ℕ, ◌-◌, ◌^◌, Bool, true, false, ◌&&◌, ◌||◌, not, if◌then◌else◌, nat_eq, nat_lt, ℤ, pos, negsuc, IsTrue}
use Rattle.hls_ints.specs.Residues.{residue_of, signed_value_of}

-- how many bits an integer type has: char 8, short 16, int 32, long and long long 64
pub data Width : Type 0 where
  bits_8 : Width
  bits_16 : Width
  bits_32 : Width
  bits_64 : Width

abbrev pub bits : Width → ℕ
bits bits_8 = 8
bits bits_16 = 16
bits bits_32 = 32
bits bits_64 = 64

-- an integer type: its width, and whether it has negative values
pub record IntegerType : Type 0 where
  pub width : Width
  pub signed : Bool

abbrev pub width_of : IntegerType → ℕ
width_of ty = bits ty.width

-- the width of n bits, n being one of the four numbers
abbrev pub width_at : ℕ → Width
width_at n =
    if nat_eq n 8 then bits_8
    else (if nat_eq n 16 then bits_16
    else (if nat_eq n 32 then bits_32
    else bits_64))

-- n is 8, 16, 32 or 64: the width of n bits has n bits
abbrev pub IsWidth : ℕ → Type 0
IsWidth n = bits (width_at n) ≡ n

abbrev pub int_type : IntegerType
int_type = record { width = bits_32; signed = true }

abbrev pub unsigned_int : IntegerType
unsigned_int = record { width = bits_32; signed = false }

abbrev pub long_int : IntegerType
long_int = record { width = bits_64; signed = true }

abbrev pub unsigned_long : IntegerType
unsigned_long = record { width = bits_64; signed = false }

-- from -h up to h, without h
abbrev pub in_signed_range : ℕ → ℤ → Bool
in_signed_range h (pos n) = nat_lt n h
in_signed_range h (negsuc n) = nat_lt n h

-- from 0 up to m, without m
abbrev pub in_unsigned_range : ℕ → ℤ → Bool
in_unsigned_range m (pos n) = nat_lt n m
in_unsigned_range m (negsuc n) = false

-- whether z is a value of the type (6.2.5, 6.2.6.2)
abbrev pub in_range : IntegerType → ℤ → Bool
in_range ty z = if ty.signed then in_signed_range (2 ^ (width_of ty - 1)) z else in_unsigned_range (2 ^ width_of ty) z

abbrev pub HasType : IntegerType → ℤ → Type 0
HasType ty z = IsTrue (in_range ty z)

-- conversion to a type: the value of the type that is z modulo 2 to the width (6.3.1.3)
unfoldable pub wrapped : IntegerType → ℤ → ℤ
wrapped ty z =
    if ty.signed then signed_value_of (width_of ty) (residue_of (width_of ty) z) else pos (residue_of (width_of ty) z)

-- the integer promotions: int has each value of the narrower types (6.3.1.1)
abbrev pub promoted : IntegerType → IntegerType
promoted ty = if nat_lt (width_of ty) 32 then int_type else ty

abbrev pub is_unsigned_at : ℕ → IntegerType → Bool
is_unsigned_at w ty = nat_eq (width_of ty) w && not ty.signed

-- the usual arithmetic conversions, the promotions among them (6.3.1.8)
abbrev pub usual_type : IntegerType → IntegerType → IntegerType
usual_type a b =
    if is_unsigned_at 64 a || is_unsigned_at 64 b then unsigned_long
    else (if nat_eq (width_of a) 64 || nat_eq (width_of b) 64 then long_int
    else (if is_unsigned_at 32 a || is_unsigned_at 32 b then unsigned_int
    else int_type))
