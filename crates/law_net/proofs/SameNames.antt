-- Names that are the same, and names that are not.
use Rattle.std.proofs.Common.{◌≡◌, ◌≢◌, ℕ, Bool, true, false, List, refl, arith}
use Rattle.std.specs.Str.{bytes_eq}
use Rattle.std.proofs.lemmas.Slice.Eq.{bytes_eq-Decides}

pub other_name : (x y : List ℕ) → x ≢ y → bytes_eq x y ≡ false
other_name x y h = by_test (bytes_eq x y) refl
  where
    by_test : (b : Bool) → bytes_eq x y ≡ b → b ≡ false
    by_test false e = refl
    by_test true e = absurd (let z : x ≡ y = grind (arith, bytes_eq-Decides) in h z)
