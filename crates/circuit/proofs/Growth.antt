-- Lists that grow by one.
use Rattle.std.proofs.Common.{◌≡◌, ℕ, zero, suc, ◌+◌, ◌<◌, List, [], ◌∷◌, ◌++◌, length, take, slice_get, Some, refl, sym, ap, ◌∙◌, arith, append_assoc, add-one}
use Rattle.std.proofs.Common.{zero-add}
use Rattle.std.specs.Prelude.{Result, Ok, Err, IfOk}
use Rattle.circuit.specs.Rows.{spread}

pub length-spread : {X : Type 0} (f : ℕ → X) (i n : ℕ) → length (spread f i n) ≡ n
length-spread f i zero = refl
length-spread f i (suc n) = ap suc (length-spread f (i + 1) n)

spread-last : {X : Type 0} (f : ℕ → X) (i n : ℕ) → spread f i (suc n) ≡ spread f i n ++ f (i + n) ∷ []
spread-last f i zero = let e : i ≡ i + 0 = omega arith in ap (λ j. f j ∷ []) e
spread-last f i (suc n) =
    let e : i + 1 + n ≡ i + suc n = omega arith in
    ap (λ xs. f i ∷ xs) (spread-last f (i + 1) n ∙ ap (λ j. spread f (i + 1) n ++ f j ∷ []) e)

pub spread-next : {X : Type 0} (f : ℕ → X) (n : ℕ) → spread f 0 (n + 1) ≡ spread f 0 n ++ f n ∷ []
spread-next f n = ap (spread f 0) (add-one n) ∙ spread-last f 0 n ∙ ap (λ j. spread f 0 n ++ f j ∷ []) (zero-add n)

-- one more of a row
pub row_grows : {X : Type 0} (a b c : List X) (n : ℕ) (f : ℕ → X) → b ≡ a ++ spread f 0 n → c ≡ b ++ f n ∷ [] → c ≡ a ++ spread f 0 (n + 1)
row_grows a b c n f e g = g ∙ ap (λ l. l ++ f n ∷ []) e ∙ append_assoc a (spread f 0 n) (f n ∷ []) ∙ ap (λ l. a ++ l) (sym (spread-next f n))

pub take-next : {X : Type 0} (xs : List X) (i : ℕ) (x : X) → slice_get xs i ≡ Some x → take (suc i) xs ≡ take i xs ++ x ∷ []
take-next [] i x e = absurd cc
take-next (y ∷ xs) zero x e = let same : y ≡ x = cc in ap (λ z. z ∷ []) same
take-next (y ∷ xs) (suc i) x e = ap (λ l. y ∷ l) (take-next xs i x e)

pub more_of : {X : Type 0} (b c : List X) (f : ℕ → X) (n : ℕ) → b ≡ spread f 0 n → c ≡ b ++ f n ∷ [] → c ≡ spread f 0 (n + 1)
more_of b c f n e g = g ∙ ap (λ l. l ++ f n ∷ []) e ∙ sym (spread-next f n)

-- a weaker fact of an answer
pub of_ok : {A E : Type 0} (x : Result A E) (P Q : A → Type 0) → ((a : A) → P a → Q a) → IfOk x P → IfOk x Q
of_ok (Ok a) P Q h p = h a p
of_ok (Err e) P Q h p = tt

pub slice_get-spread : {X : Type 0} (f : ℕ → X) (i n k : ℕ) → k < n → slice_get (spread f i n) k ≡ Some (f (i + k))
slice_get-spread f i zero k l = absurd (omega arith)
slice_get-spread f i (suc n) zero l = let e : i ≡ i + 0 = omega arith in ap (λ j. Some (f j)) e
slice_get-spread f i (suc n) (suc k) l = let e : i + 1 + k ≡ i + suc k = omega arith in slice_get-spread f (i + 1) n k (omega arith) ∙ ap (λ j. Some (f j)) e

pub spread-same : {X : Type 0} (f g : ℕ → X) (i n : ℕ) → ((k : ℕ) → k < n → f (i + k) ≡ g (i + k)) → spread f i n ≡ spread g i n
spread-same f g i zero h = refl
spread-same f g i (suc n) h =
    let z : i + 0 ≡ i = omega arith in
    ap (λ x. x ∷ spread f (i + 1) n) (sym (ap f z) ∙ h 0 (omega arith) ∙ ap g z)
    ∙ ap (λ l. g i ∷ l) (spread-same f g (i + 1) n (λ k l. let y : i + 1 + k ≡ i + suc k = omega arith in ap f y ∙ h (suc k) (omega arith) ∙ sym (ap g y)))
