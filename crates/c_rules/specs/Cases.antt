-- The values of the cases of a switch (C99 6.8.4.2).
use Rattle.std.specs.Prelude.{ℤ, Bool, List, [], ◌∷◌, ◌++◌, if◌then◌else◌}
use Rattle.std.specs.List.{list_any}
use Rattle.std.specs.Ordering.{int_eq}

abbrev pub stands : List ℤ → ℤ → Bool
stands values z = list_any (int_eq z) values

-- with one more, unless it is among them already
abbrev pub noted : List ℤ → ℤ → List ℤ
noted values z = if stands values z then values else values ++ z ∷ []
