-- Names with what they stand for, in the order of their declarations.
use Rattle.std.specs.Prelude.{ℕ, ◌^◌, List, [], ◌∷◌, Option, Some, None, is_some, if◌then◌else◌, nat_lt}
use Rattle.std.specs.Str.{bytes_eq}
use denote.Bor.{Bor}
use Rattle.c_rules.specs.declared.names.Meaning.{Meaning}
use Rattle.c_rules.specs.declared.names.Meaning.TheVariants as meaning

-- what a reference to a name refers to
abbrev pub pointed : Bor (List ℕ) → List ℕ
pointed r = r.now

module _ {A : Type 0} where
  -- an entry of a table whose keys refer to their names
  abbrev pub plain : Bor (List ℕ) × A → List ℕ × A
  plain e = (e.0.now, e.1)

  -- what a name stands for
  abbrev pub named_in : List (List ℕ × A) → List ℕ → Option A
  named_in [] name = None
  named_in (d ∷ more) name = if bytes_eq name d.0 then Some d.1 else named_in more name

  -- a name that is there stands for something else, and a new one goes last
  abbrev pub inserted : List (List ℕ × A) → List ℕ → A → List (List ℕ × A)
  inserted [] name a = (name, a) ∷ []
  inserted (d ∷ more) name a = if bytes_eq name d.0 then (d.0, a) ∷ more else d ∷ inserted more name a

  -- a new name goes last, and one that is there stays
  abbrev pub noted : List (List ℕ × A) → List ℕ → A → List (List ℕ × A)
  noted names name a = if is_some (named_in names name) then names else inserted names name a

-- the number of a definition that a name is noted with
abbrev pub number_in : Meaning → ℕ
number_in (meaning.Function n) = if nat_lt n (2 ^ 32) then n else 0
number_in m = 0

-- a name with the number of its definition
abbrev pub numbered : List ℕ × Meaning → List ℕ × ℕ
numbered e = (e.0, number_in e.1)
