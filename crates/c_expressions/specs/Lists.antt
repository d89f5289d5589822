-- Lists of one, two, three and four.
use Rattle.std.specs.Prelude.{List, [], ◌∷◌, Option, Some, None}

module _ {A : Type 0} where
  abbrev pub front : List A → Option (A × List A)
  front [] = None
  front (first ∷ rest) = Some (first, rest)

  abbrev pub one : List A → Option A
  one [] = None
  one (a ∷ []) = Some a
  one (a ∷ b ∷ more) = None

  abbrev pub two : List A → Option (A × A)
  two [] = None
  two (a ∷ []) = None
  two (a ∷ b ∷ []) = Some (a, b)
  two (a ∷ b ∷ c ∷ more) = None

  abbrev pub three : List A → Option (A × A × A)
  three [] = None
  three (a ∷ []) = None
  three (a ∷ b ∷ []) = None
  three (a ∷ b ∷ c ∷ []) = Some (a, b, c)
  three (a ∷ b ∷ c ∷ d ∷ more) = None

  abbrev pub four : List A → Option (A × A × A × A)
  four [] = None
  four (a ∷ []) = None
  four (a ∷ b ∷ []) = None
  four (a ∷ b ∷ c ∷ []) = None
  four (a ∷ b ∷ c ∷ d ∷ []) = Some (a, b, c, d)
  four (a ∷ b ∷ c ∷ d ∷ e ∷ more) = None
