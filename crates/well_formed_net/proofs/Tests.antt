-- Tests that hold or fail.
use Rattle.std.proofs.Common.{◌≡◌, List, [], ◌∷◌, Bool, true, false, refl, sym, ap, ◌∙◌, inl, inr}
use Rattle.std.specs.Prelude.{not, ◌&&◌, ◌||◌}
use Rattle.std.proofs.lemmas.Bool.{and_parts}
use Rattle.verilog_tree.specs.Rules.{all_right}
use Rattle.netlist_text.proofs.Members.{In, in_none, in_cons}

-- a test that holds and fails
pub both : {X : Type 0} {b : Bool} → b ≡ false → b ≡ true → X
both p q = absurd (let z : false ≡ true = sym p ∙ q in cc)

pub implied : (a b : Bool) → (not a || b) ≡ true → a ≡ true → b ≡ true
implied true b h e = h
implied false b h e = both refl e

pub or_there : (a b : Bool) → (a || b) ≡ true → a ≡ false → b ≡ true
or_there true b h e = both e refl
or_there false b h e = h

pub second_false : (a b : Bool) → (a && b) ≡ false → a ≡ true → b ≡ false
second_false true b e h = e
second_false false b e h = both refl h

-- ---- over lists

pub right_in : {A : Type 0} (p : A → Bool) (xs : List A) (x : A) → all_right p xs ≡ true → In xs x → p x ≡ true
right_in p [] x h q = absurd (in_none x q)
right_in p (y ∷ xs) x h q = elim (in_cons y x xs q) [
  | inl e ↦ ap p (sym e) ∙ (and_parts (p y) (all_right p xs) h).0
  | inr r ↦ right_in p xs x (and_parts (p y) (all_right p xs) h).1 r
]
