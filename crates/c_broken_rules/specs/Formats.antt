-- The formats of printf: bytes, escapes and conversions (C99 7.19.6.1, 6.4.4.4).
use Rattle.std.specs.Prelude.{◌≡◌, ◌≢◌, ◌⊎◌, ℕ, suc, List, [], ◌∷◌}

-- \n, \t, \\ and \" are the escapes
abbrev pub IsEscaped : ℕ → Type 0
IsEscaped byte = (byte ≡ 110) ⊎ (byte ≡ 116) ⊎ (byte ≡ 92) ⊎ (byte ≡ 34)

-- d and u are the letters of conversions
abbrev pub IsConverted : ℕ → Type 0
IsConverted byte = (byte ≡ 100) ⊎ (byte ≡ 117)

-- a format with so many conversions: % is 37, a backslash 92, l is 108
pub data IsFormat : List ℕ → ℕ → Type 0 where
  End : IsFormat [] 0
  Byte : (byte : ℕ) (rest : List ℕ) (n : ℕ) (no_escape : byte ≢ 92) (no_conversion : byte ≢ 37) (more : IsFormat rest n) → IsFormat (byte ∷ rest) n
  Escape : (byte : ℕ) (rest : List ℕ) (n : ℕ) (escaped : IsEscaped byte) (more : IsFormat rest n) → IsFormat (92 ∷ byte ∷ rest) n
  Percent : (rest : List ℕ) (n : ℕ) (more : IsFormat rest n) → IsFormat (37 ∷ 37 ∷ rest) n
  Conversion : (letter : ℕ) (rest : List ℕ) (n : ℕ) (converted : IsConverted letter) (more : IsFormat rest n) → IsFormat (37 ∷ letter ∷ rest) (suc n)
  Long : (letter : ℕ) (rest : List ℕ) (n : ℕ) (converted : IsConverted letter) (more : IsFormat rest n) → IsFormat (37 ∷ 108 ∷ letter ∷ rest) (suc n)
  LongLong : (letter : ℕ) (rest : List ℕ) (n : ℕ) (converted : IsConverted letter) (more : IsFormat rest n) →
      IsFormat (37 ∷ 108 ∷ 108 ∷ letter ∷ rest) (suc n)
