-- The words of a line of a report: a keyword, and behind blanks further words and numbers.
use Rattle.std.specs.Prelude.{ℕ, suc, List, [], ◌∷◌, ◌++◌, Bool, true, false, codes, decimal}
use Rattle.hls_ints.specs.Types.{IntegerType, width_of}

-- a further word
abbrev pub word : List ℕ → List ℕ
word text = 32 ∷ text

-- a further number
abbrev pub number : ℕ → List ℕ
number n = 32 ∷ decimal n

abbrev pub sign_word : Bool → List ℕ
sign_word true = codes "signed"
sign_word false = codes "unsigned"

-- an integer type: its width in bits, and whether it has negative values
abbrev pub type_words : IntegerType → List ℕ
type_words ty = number (width_of ty) ++ word (sign_word ty.signed)

-- what a keyword and one number say
abbrev pub fact : List ℕ → ℕ → List ℕ
fact keyword n = keyword ++ number n ++ 10 ∷ []

-- and two numbers
abbrev pub pair : List ℕ → ℕ → ℕ → List ℕ
pair keyword m n = keyword ++ number m ++ number n ++ 10 ∷ []

-- and three
abbrev pub triple : List ℕ → ℕ → ℕ → ℕ → List ℕ
triple keyword l m n = keyword ++ number l ++ number m ++ number n ++ 10 ∷ []

-- the texts of the members of a list, each with its number, counted on from k
abbrev pub numbered : {A : Type 0} → (ℕ → A → List ℕ) → ℕ → List A → List ℕ
numbered text k [] = []
numbered text k (x ∷ xs) = text k x ++ numbered text (suc k) xs
