-- One element more.
use Rattle.std.proofs.Common.{◌≡◌, ℕ, suc, ◌+◌, ◌<◌, List, [], ◌∷◌, ◌++◌, sym, ap, ◌∙◌, append_assoc, add-zero, subst, length, take, get_or, arith}
use Rattle.std.proofs.lemmas.List.{take_more, length-take-le, get_or_default}
use Rattle.netlist_text.specs.LaidOut.{with_places}

take_next : {A : Type 0} (xs : List A) (i : ℕ) (x : A) → x ≡ get_or xs i x → i < length xs → take (i + 1) xs ≡ take i xs ++ x ∷ []
take_next xs i x is lt = take_more xs i x lt ∙ ap (λ y. take i xs ++ y ∷ []) (sym is)

-- ---- with places

with_places-append : {A B : Type 0} (f : ℕ → A → B) (k : ℕ) (xs ys : List A) → with_places f k (xs ++ ys) ≡ with_places f k xs ++ with_places f (k + length xs) ys
with_places-append f k [] ys = ap (λ j. with_places f j ys) (sym (add-zero k))
with_places-append f k (x ∷ xs) ys =
    let e : k + 1 + length xs ≡ k + suc (length xs) = omega arith in
    ap (λ l. f k x ∷ l) (with_places-append f (k + 1) xs ys ∙ ap (λ j. with_places f (k + 1) xs ++ with_places f j ys) e)

places_next : {A B : Type 0} (f : ℕ → A → B) (k : ℕ) (xs : List A) (i : ℕ) (x : A) → x ≡ get_or xs i x → i < length xs
    → with_places f k (take (i + 1) xs) ≡ with_places f k (take i xs) ++ f (k + i) x ∷ []
places_next f k xs i x is lt =
    let n : length (take i xs) ≡ i = length-take-le i xs (omega arith) in
    ap (with_places f k) (take_next xs i x is lt) ∙ with_places-append f k (take i xs) (x ∷ [])
    ∙ ap (λ j. with_places f k (take i xs) ++ f (k + j) x ∷ []) n

pub places_onto : {A B : Type 0} (f : ℕ → A → B) (k : ℕ) (a b c : List B) (xs : List A) (i j : ℕ) (x : A) → b ≡ a ++ with_places f k (take i xs) → c ≡ b ++ f j x ∷ []
    → j ≡ k + i → x ≡ get_or xs i x → i < length xs → c ≡ a ++ with_places f k (take (i + 1) xs)
places_onto f k a b c xs i j x e h at is lt =
    h ∙ ap (λ l. l ++ f j x ∷ []) e ∙ ap (λ n. a ++ with_places f k (take i xs) ++ f n x ∷ []) at ∙ append_assoc a (with_places f k (take i xs)) (f (k + i) x ∷ [])
    ∙ ap (λ l. a ++ l) (sym (places_next f k xs i x is lt))

-- ---- a block of at least one

-- ---- of a list of numbers that is read by its places

pub places_numbers : {B : Type 0} (f : ℕ → ℕ → B) (k : ℕ) (a b c : List B) (xs read : List ℕ) (i j : ℕ) → read ≡ xs → b ≡ a ++ with_places f k (take i xs)
    → c ≡ b ++ f j (get_or read i 0) ∷ [] → j ≡ k + i → i < length read → c ≡ a ++ with_places f k (take (i + 1) xs)
places_numbers f k a b c xs read i j same e h at lt =
    let below : i < length xs = subst (λ (l : List ℕ). i < length l) same lt in
    places_onto f k a b c xs i j (get_or xs i 0) e (h ∙ ap (λ l. b ++ f j (get_or l i 0) ∷ []) same) at (get_or_default xs i 0 (get_or xs i 0) below) below
