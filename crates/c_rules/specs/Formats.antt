-- The format of a printf (C99 7.19.6.1, 6.4.4.4): text and conversions.
use Rattle.std.specs.Prelude.{ℕ, zero, suc, nat_eq, if◌then◌else◌, List, [], ◌∷◌, ◌++◌, length, Option, Some, None, option_and_then, option_map}
use Rattle.c_program.specs.Tree.{Piece}
use Rattle.c_rules.specs.declared.specifiers.BasicType.{BasicType}
use Rattle.c_rules.specs.declared.specifiers.BasicType.TheVariants.{Int, UnsignedInt, Long, UnsignedLong}
use Rattle.c_rules.specs.declared.format.Part.{Part}
use Rattle.c_rules.specs.declared.format.Part.TheVariants.{Byte, Conversion}
use Rattle.c_rules.specs.Specifiers.{c_type}

-- the first byte, and the rest
abbrev pub front : List ℕ → Option (ℕ × List ℕ)
front [] = None
front (byte ∷ rest) = Some (byte, rest)

-- the byte that an escape stands for: \n, \t, \\ and \"
abbrev pub escaped : ℕ → Option ℕ
escaped byte =
    if nat_eq byte 110 then Some 10
    else (if nat_eq byte 116 then Some 9
    else (if nat_eq byte 92 then Some 92
    else (if nat_eq byte 34 then Some 34
    else None)))

-- a part, and the text behind it
abbrev pub Reading : Type 0
Reading = Option (Part × List ℕ)

-- what the first byte and the rest give, if there is a first byte
abbrev pub after_front : List ℕ → (ℕ → List ℕ → Reading) → Reading
after_front text reads = option_and_then (λ (p : ℕ × List ℕ). reads p.0 p.1) (front text)

-- the letter of a conversion: d or u
abbrev pub lettered : BasicType → BasicType → List ℕ → Reading
lettered signed unsigned text = after_front text (λ byte rest.
    if nat_eq byte 100 then Some (Conversion signed, rest)
    else (if nat_eq byte 117 then Some (Conversion unsigned, rest)
    else None))

-- behind %l: one more l may stand
abbrev pub long : List ℕ → Reading
long text = after_front text (λ byte rest.
    if nat_eq byte 108 then lettered Long UnsignedLong rest else lettered Long UnsignedLong text)

-- behind %: another % or a conversion
abbrev pub conversion : List ℕ → Reading
conversion text = after_front text (λ byte rest.
    if nat_eq byte 37 then Some (Byte 37, rest)
    else (if nat_eq byte 108 then long rest
    else lettered Int UnsignedInt text))

-- behind a backslash
abbrev pub escape : List ℕ → Reading
escape text = after_front text (λ byte rest. option_map (λ b. (Byte b, rest)) (escaped byte))

-- the first part of a text
abbrev pub first_part : List ℕ → Reading
first_part text = after_front text (λ byte rest.
    if nat_eq byte 92 then escape rest
    else (if nat_eq byte 37 then conversion rest
    else Some (Byte byte, rest)))

-- pieces, and the text behind them: bytes that stand side by side are one piece
abbrev pub flushed : List Piece → List ℕ → List Piece
flushed pieces [] = pieces
flushed pieces (byte ∷ more) = pieces ++ Piece.Text (byte ∷ more) ∷ []

abbrev pub Draft : Type 0
Draft = List Piece × List ℕ

abbrev pub with_conversion : List Piece → List ℕ → BasicType → Draft
with_conversion pieces text ty = (flushed pieces text ++ Piece.Conversion (c_type ty) ∷ [], [])

abbrev pub with_part : List Piece → List ℕ → Part → Draft
with_part pieces text (Byte byte) = (pieces, text ++ byte ∷ [])
with_part pieces text (Conversion ty) = with_conversion pieces text ty

-- the parts of what is left behind a draft; each part is a byte at least
unfoldable pub pieces_from : ℕ → Draft → List ℕ → Option (List Piece)
pieces_from bytes draft [] = Some (flushed draft.0 draft.1)
pieces_from zero draft (byte ∷ rest) = None
pieces_from (suc bytes) draft (byte ∷ rest) =
    option_and_then (λ (p : Part × List ℕ). pieces_from bytes (with_part draft.0 draft.1 p.0) p.1) (first_part (byte ∷ rest))

-- the pieces of a format; none where an escape or a conversion in it is none of the profile
abbrev pub pieces_in : List ℕ → Option (List Piece)
pieces_in format = pieces_from (length format) ([], []) format
