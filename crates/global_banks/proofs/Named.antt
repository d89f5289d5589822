-- The first place of a name, and what a name is.
use Rattle.std.specs.Prelude.{◌≡◌, ℕ, zero, suc, ◌+◌, ◌<◌, Bool, true, false, not, ◌&&◌, nat_lt, List, [], ◌∷◌, ◌++◌, length, map}
use Rattle.std.specs.Prelude.{take, drop, Option, Some, None, option_map, option_and_then, slice_get, codes, if◌then◌else◌, refl}
use Rattle.std.specs.Str.{bytes_eq}
use Rattle.std.specs.List.{position_or_len}
use Rattle.std.proofs.Common.{ap, sym, ◌∙◌, subst, cond, arith, append_assoc}
use Rattle.std.proofs.lemmas.Bool.Decides.{nat_tests}
use Rattle.std.proofs.lemmas.Slice.Eq.{bytes_eq-Decides}
use Rattle.std.proofs.lemmas.Option.{same_Some, none-some, slice_get-map}
use Rattle.std.proofs.lemmas.List.{take-append-drop}
use Rattle.std.proofs.Math.Seq.{take-append_seam, drop-append_seam}
use Rattle.netlist.specs.Laid.{AreApart}
use Rattle.verilog_meaning.specs.Names.{with_digits}
use Rattle.global_banks.specs.Banks.{behind, rest_of, is_rest}

-- ---- the first place where a test holds

module _ {X : Type 0} (p : X → Bool) where
  step : (y : X) (ys : List X) (b : Bool) → p y ≡ b → position_or_len p (y ∷ ys) ≡ cond (not b) (1 + position_or_len p ys) 0
  step y ys b e = ap (λ t. cond (not t) (1 + position_or_len p ys) 0) e

  -- what stands there passes
  pub record Holds (xs : List X) (k : ℕ) : Type 0 where
    pub item : X
    pub listed : slice_get xs k ≡ Some item
    pub passes : p item ≡ true

  holds_by : (y : X) (ys : List X) (b : Bool) → p y ≡ b → position_or_len p (y ∷ ys) < length (y ∷ ys) → (position_or_len p ys < length ys → Holds ys (position_or_len p ys))
      → Holds (y ∷ ys) (position_or_len p (y ∷ ys))
  holds_by y ys true e l rest = subst (Holds (y ∷ ys)) (sym (step y ys true e)) (record { item = y; listed = refl; passes = e })
  holds_by y ys false e l rest =
      let z : position_or_len p (y ∷ ys) ≡ suc (position_or_len p ys) = step y ys false e ∙ omega arith in
      let r = rest (omega (arith, z, l)) in
      subst (Holds (y ∷ ys)) (sym z) (record { item = r.item; listed = r.listed; passes = r.passes })

  pub found_at : (xs : List X) → position_or_len p xs < length xs → Holds xs (position_or_len p xs)
  found_at [] l = absurd (omega arith)
  found_at (y ∷ ys) l = holds_by y ys (p y) refl l (found_at ys)

  within_by : (y : X) (ys : List X) (b : Bool) → p y ≡ b → position_or_len p ys < length ys → position_or_len p (y ∷ ys) < length (y ∷ ys)
  within_by y ys true e l = let z = step y ys true e in omega (arith, z)
  within_by y ys false e l = let z : position_or_len p (y ∷ ys) ≡ suc (position_or_len p ys) = step y ys false e ∙ omega arith in omega (arith, z, l)

  pub within : (xs : List X) (k : ℕ) (x : X) → slice_get xs k ≡ Some x → p x ≡ true → position_or_len p xs < length xs
  within [] k x e q = absurd cc
  within (y ∷ ys) zero x e q =
      let same : y ≡ x = same_Some y x e in
      let z = step y ys true (ap p same ∙ q) in omega (arith, z)
  within (y ∷ ys) (suc k) x e q = within_by y ys (p y) refl (within ys k x e q)

-- where a test is one of names, and names are apart, it holds at one place
module _ {X : Type 0} (name : X → List ℕ) (key : List ℕ) (p : X → Bool) (only : (x : X) → p x ≡ true → name x ≡ key) (all : (x : X) → name x ≡ key → p x ≡ true) (xs : List X) where
  pub one_place : AreApart (map name xs) → (k : ℕ) (x : X) → slice_get xs k ≡ Some x → name x ≡ key → position_or_len p xs ≡ k
  one_place apart k x e q =
      let h = found_at p xs (within p xs k x e (all x q)) in
      let here : slice_get (map name xs) (position_or_len p xs) ≡ Some key = slice_get-map name xs (position_or_len p xs) ∙ ap (option_map name) h.listed ∙ ap Some (only h.item h.passes) in
      let there : slice_get (map name xs) k ≡ Some key = slice_get-map name xs k ∙ ap (option_map name) e ∙ ap Some q in
      apart (position_or_len p xs) k key here there

-- ---- names

-- a name that is a stem, the name of a global, `_` and digits
abbrev pub bank_name : List ℕ → List ℕ → List ℕ → List ℕ
bank_name stem x digits = with_digits (stem ++ x) digits

behind_by : (b : Bool) (stem name r : List ℕ) → bytes_eq (take (length stem) name) stem ≡ b → (if b then Some (drop (length stem) name) else None) ≡ Some r → name ≡ stem ++ r
behind_by true stem name r q e =
    sym (take-append-drop (length stem) name) ∙ ap (λ z. z ++ drop (length stem) name) ((bytes_eq-Decides (take (length stem) name) stem).0 q)
    ∙ ap (λ z. stem ++ z) (same_Some (drop (length stem) name) r e)
behind_by false stem name r q e = absurd (none-some r e)

behind_some : (stem name r : List ℕ) → behind stem name ≡ Some r → name ≡ stem ++ r
behind_some stem name r e = behind_by (bytes_eq (take (length stem) name) stem) stem name r refl e

behind_is : (stem r : List ℕ) → behind stem (stem ++ r) ≡ Some r
behind_is stem r =
    ap (λ (b : Bool). if b then Some (drop (length stem) (stem ++ r)) else None) ((bytes_eq-Decides (take (length stem) (stem ++ r)) stem).1 (take-append_seam stem r))
    ∙ ap Some (drop-append_seam stem r)

rest_by : (stem x name digits : List ℕ) (a b : Option (List ℕ)) → behind stem name ≡ a → option_and_then (behind x) a ≡ b → option_and_then (behind (codes "_")) b ≡ Some digits
    → name ≡ bank_name stem x digits
rest_by stem x name digits None None p q e = absurd (none-some digits e)
rest_by stem x name digits None (Some r) p q e = absurd (none-some r q)
rest_by stem x name digits (Some s) None p q e = absurd (none-some digits e)
rest_by stem x name digits (Some s) (Some r) p q e =
    behind_some stem name s p ∙ ap (λ z. stem ++ z) (behind_some x s r q ∙ ap (λ z. x ++ z) (behind_some (codes "_") r digits e)) ∙ sym (append_assoc stem x (95 ∷ digits))

pub rest_named : (stem x name digits : List ℕ) → rest_of stem x name ≡ Some digits → name ≡ bank_name stem x digits
rest_named stem x name digits e = rest_all (behind stem name) refl e where
  rest_all : (a : Option (List ℕ)) → behind stem name ≡ a → option_and_then (λ r. option_and_then (behind (codes "_")) (behind x r)) a ≡ Some digits → name ≡ bank_name stem x digits
  rest_all None p q = absurd (none-some digits q)
  rest_all (Some s) p q = rest_by stem x name digits (Some s) (behind x s) p refl q

pub named_rest : (stem x name digits : List ℕ) → name ≡ bank_name stem x digits → rest_of stem x name ≡ Some digits
named_rest stem x name digits e =
    let long : name ≡ stem ++ (x ++ (codes "_" ++ digits)) = e ∙ append_assoc stem x (95 ∷ digits) in
    ap (λ z. option_and_then (λ r. option_and_then (behind (codes "_")) (behind x r)) (behind stem z)) long
    ∙ ap (option_and_then (λ r. option_and_then (behind (codes "_")) (behind x r))) (behind_is stem (x ++ (codes "_" ++ digits)))
    ∙ ap (option_and_then (behind (codes "_"))) (behind_is x (codes "_" ++ digits))
    ∙ behind_is (codes "_") digits

is_rest_by : (o : Option (List ℕ)) (digits : List ℕ) → is_rest o digits ≡ true → o ≡ Some digits
is_rest_by None digits e = absurd cc
is_rest_by (Some r) digits e = ap Some ((bytes_eq-Decides r digits).0 e)

pub rest_only : (stem x name digits : List ℕ) → is_rest (rest_of stem x name) digits ≡ true → name ≡ bank_name stem x digits
rest_only stem x name digits e = rest_named stem x name digits (is_rest_by (rest_of stem x name) digits e)

pub rest_all : (stem x name digits : List ℕ) → name ≡ bank_name stem x digits → is_rest (rest_of stem x name) digits ≡ true
rest_all stem x name digits e = ap (λ o. is_rest o digits) (named_rest stem x name digits e) ∙ (bytes_eq-Decides digits digits).1 refl
