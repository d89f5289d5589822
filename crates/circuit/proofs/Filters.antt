-- What a test keeps of a list, where it goes by the places; and what holds of each element.
use Rattle.std.proofs.Common.{◌≡◌, ℕ, zero, suc, ◌+◌, ◌<◌, ◌≤◌, Bool, true, false, if◌then◌else◌, List, [], ◌∷◌, ◌++◌, length, take, drop, Some, refl, ap, ◌∙◌, subst, arith, sym}
use Rattle.std.specs.Prelude.{slice_get, filter}
use Rattle.std.proofs.lemmas.Option.{same_Some, none-some}
use Rattle.std.proofs.lemmas.List.{take-append-drop}
use Rattle.verilog_tree.specs.Rules.{all_right}
use Rattle.verilog_tree.proofs.Tests.{and_both}
use Rattle.circuit.specs.Rows.{EachOf}

filtered : {A : Type 0} (p : A → Bool) (b : Bool) (x : A) (xs : List A) → p x ≡ b → filter p (x ∷ xs) ≡ (if b then x ∷ filter p xs else filter p xs)
filtered p b x xs e = ap (λ z. if z then x ∷ filter p xs else filter p xs) e

-- P of each element and its place
abbrev Each : {A : Type 0} → List A → (ℕ → A → Type 0) → Type 0
Each {A} xs P = (k : ℕ) (x : A) → slice_get xs k ≡ Some x → P k x

all_kept : {A : Type 0} (p : A → Bool) (xs : List A) → Each xs (λ k x. p x ≡ true) → filter p xs ≡ xs
all_kept p [] h = refl
all_kept p (x ∷ xs) h = filtered p true x xs (h 0 x refl) ∙ ap (λ l. x ∷ l) (all_kept p xs (λ k y e. h (suc k) y e))

none_kept : {A : Type 0} (p : A → Bool) (xs : List A) → Each xs (λ k x. p x ≡ false) → filter p xs ≡ []
none_kept p [] h = refl
none_kept p (x ∷ xs) h = filtered p false x xs (h 0 x refl) ∙ none_kept p xs (λ k y e. h (suc k) y e)

pub front_kept : {A : Type 0} (p : A → Bool) (n : ℕ) (xs : List A) → Each xs (λ k x. k < n → p x ≡ true) → Each xs (λ k x. n ≤ k → p x ≡ false) → filter p xs ≡ take n xs
front_kept p zero xs f g = none_kept p xs (λ k x e. g k x e (omega arith))
front_kept p (suc n) [] f g = refl
front_kept p (suc n) (x ∷ xs) f g =
    filtered p true x xs (f 0 x refl (omega arith))
    ∙ ap (λ l. x ∷ l) (front_kept p n xs (λ k y e l. f (suc k) y e (omega arith)) (λ k y e l. g (suc k) y e (omega arith)))

pub back_kept : {A : Type 0} (p : A → Bool) (n : ℕ) (xs : List A) → Each xs (λ k x. k < n → p x ≡ false) → Each xs (λ k x. n ≤ k → p x ≡ true) → filter p xs ≡ drop n xs
back_kept p zero xs f g = all_kept p xs (λ k x e. g k x e (omega arith))
back_kept p (suc n) [] f g = refl
back_kept p (suc n) (x ∷ xs) f g =
    filtered p false x xs (f 0 x refl (omega arith))
    ∙ back_kept p n xs (λ k y e l. f (suc k) y e (omega arith)) (λ k y e l. g (suc k) y e (omega arith))

pub middle_kept : {A : Type 0} (p : A → Bool) (a b : ℕ) (xs : List A) → a ≤ b → Each xs (λ k x. k < a → p x ≡ false) → Each xs (λ k x. a ≤ k → k < b → p x ≡ true)
    → Each xs (λ k x. b ≤ k → p x ≡ false) → filter p xs ≡ drop a (take b xs)
middle_kept p zero b xs l f g h = front_kept p b xs (λ k x e m. g k x e (omega arith) m) h
middle_kept p (suc a) zero xs l f g h = absurd (omega arith)
middle_kept p (suc a) (suc b) [] l f g h = refl
middle_kept p (suc a) (suc b) (x ∷ xs) l f g h =
    filtered p false x xs (f 0 x refl (omega arith))
    ∙ middle_kept p a b xs (omega arith) (λ k y e m. f (suc k) y e (omega arith)) (λ k y e m n. g (suc k) y e (omega arith) (omega arith)) (λ k y e m. h (suc k) y e (omega arith))

pub split_three : {A : Type 0} (a b : ℕ) (xs : List A) → a ≤ b → xs ≡ take a xs ++ drop a (take b xs) ++ drop b xs
split_three zero b xs l = sym (take-append-drop b xs)
split_three (suc a) zero xs l = absurd (omega arith)
split_three (suc a) (suc b) [] l = refl
split_three (suc a) (suc b) (x ∷ xs) l = ap (λ z. x ∷ z) (split_three a b xs (omega arith))

pub length_back : {A : Type 0} (n k : ℕ) (xs : List A) → length xs ≡ n + k → length (drop n xs) ≡ k
length_back zero k xs e = (omega arith)
length_back (suc n) k [] e = absurd (omega arith)
length_back (suc n) k (x ∷ xs) e = length_back n k xs (omega arith)

pub each_there : {A : Type 0} (P : A → Type 0) (xs : List A) → EachOf P xs → (k : ℕ) (x : A) → slice_get xs k ≡ Some x → P x
each_there P [] e k x h = absurd (none-some x h)
each_there P (y ∷ ys) e zero x h = subst P (same_Some y x h) e.0
each_there P (y ∷ ys) e (suc k) x h = each_there P ys e.1 k x h

pub all_of : {A : Type 0} (p : A → Bool) (xs : List A) → ((k : ℕ) (x : A) → slice_get xs k ≡ Some x → p x ≡ true) → all_right p xs ≡ true
all_of p [] h = refl
all_of p (x ∷ xs) h = and_both (p x) (all_right p xs) (h 0 x refl) (all_of p xs (λ k y e. h (suc k) y e))
