-- Names that are the same.
use Rattle.std.proofs.Common.{◌≡◌, ℕ, List, true, false, refl, Bool}
use Rattle.std.specs.Str.{bytes_eq}
use Rattle.std.proofs.lemmas.Slice.Eq.{bytes_eq-Decides}
use Rattle.std.proofs.lemmas.Bool.{false_from_ne_true}

-- a test of names is the same either way
pub turned : (x y : List ℕ) (b : Bool) → bytes_eq x y ≡ b → bytes_eq y x ≡ b
turned x y true e = (bytes_eq-Decides y x).1 (let same = (bytes_eq-Decides x y).0 e in cc)
turned x y false e = false_from_ne_true (bytes_eq y x) (λ h. let same : x ≡ y = (let back = (bytes_eq-Decides y x).0 h in cc) in let yes = (bytes_eq-Decides x y).1 same in cc)
