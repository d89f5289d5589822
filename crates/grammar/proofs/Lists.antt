-- Lists of tokens with their nesting.
use Rattle.std.proofs.Common.{◌≡◌, ℕ, ◌+◌, ◌<◌, ◌≤◌, List, [], ◌∷◌, ◌++◌, length, Bool, true, false, refl, sym, ap, ◌⊎◌, inl, inr, ⊎_elim, length-append, arith}
use Rattle.std.specs.Prelude.{◌||◌}
use Rattle.grammar.specs.Rules.{Placed}
use Rattle.grammar.specs.Sentences.{plain, Within}

-- ---- tests

pub or_cases : {X : Type 0} (a b : Bool) → (a || b) ≡ true → (a ≡ true → X) → (b ≡ true → X) → X
or_cases true b e f h = f refl
or_cases false b e f h = h e

module _ {T : Type 0} where
  -- two ways to cut a list
  pub cuts : (x y a b : List T) → x ++ y ≡ a ++ b → ((z : List T) × (a ≡ x ++ z) × (y ≡ z ++ b)) ⊎ ((u : T) × (z : List T) × (x ≡ a ++ (u ∷ z)) × (b ≡ u ∷ (z ++ y)))
  cuts [] y a b e = inl (a, refl, e)
  cuts (t ∷ x) y [] b e = inr (t, x, refl, sym e)
  cuts (t ∷ x) y (s ∷ a) b e =
      let heads : t ≡ s = cc in
      let tails : x ++ y ≡ a ++ b = cc in
      ⊎_elim (λ h. inl (h.0, (let i : s ∷ a ≡ t ∷ (x ++ h.0) = cc (h.1) in i), h.2)) (λ h. inr (h.0, h.1, (let i : t ∷ x ≡ s ∷ (a ++ (h.0 ∷ h.1)) = cc (h.2) in i), h.3)) (cuts x y a b tails)

  pub no_more : (z l : List T) → l ≡ z ++ l → z ≡ []
  no_more [] l e = refl
  no_more (x ∷ z) l e = absurd (omega (arith, ap length e, length-append (x ∷ z) l))

  pub no_tokens : (ts : List T) → length ts < 1 → ts ≡ []
  no_tokens [] lt = refl
  no_tokens (t ∷ ts) lt = absurd (omega arith)

  -- ---- tokens without their nesting

  pub plain-append : (x y : List (Placed T)) → plain (x ++ y) ≡ plain x ++ plain y
  plain-append [] y = refl
  plain-append (t ∷ x) y = ap (λ l. t.0 ∷ l) (plain-append x y)

  pub length-plain : (w : List (Placed T)) → length (plain w) ≡ length w
  length-plain [] = refl
  length-plain (t ∷ w) = let e = length-plain w in omega (arith, e)

  -- a cut of the tokens is one of the tokens with their nesting
  pub plain_cut : (w : List (Placed T)) (x y : List T) → plain w ≡ x ++ y → (a : List (Placed T)) × (b : List (Placed T)) × (w ≡ a ++ b) × (plain a ≡ x) × (plain b ≡ y)
  plain_cut w [] y e = ([], w, refl, refl, e)
  plain_cut [] (t ∷ x) y e = cc
  plain_cut (s ∷ w) (t ∷ x) y e =
      let heads : s.0 ≡ t = cc in
      let tails : plain w ≡ x ++ y = cc in
      let k = plain_cut w x y tails in
      (s ∷ k.0, k.1, ap (λ l. s ∷ l) k.2, (let i : s.0 ∷ plain k.0 ≡ t ∷ x = cc (heads, k.3) in i), k.4)

  -- ---- limits

  pub within-append : (k : ℕ) (x y : List (Placed T)) → Within k x → Within k y → Within k (x ++ y)
  within-append k [] y h g = g
  within-append k (t ∷ x) y h g = (h.0, within-append k x y h.1 g)

  pub within_front : (k : ℕ) (x y : List (Placed T)) → Within k (x ++ y) → Within k x
  within_front k [] y h = tt
  within_front k (t ∷ x) y h = (h.0, within_front k x y h.1)

  pub within_back : (k : ℕ) (x y : List (Placed T)) → Within k (x ++ y) → Within k y
  within_back k [] y h = h
  within_back k (t ∷ x) y h = within_back k x y h.1

  pub within_wider : (k j : ℕ) → k ≤ j → (w : List (Placed T)) → Within k w → Within j w
  within_wider k j le [] h = tt
  within_wider k j le (t ∷ w) h = ((let i : t.1 ≤ j = omega (arith, h.0) in i), within_wider k j le w h.1)

  -- a limit that no nesting is above
  abbrev pub roof : List (Placed T) → ℕ
  roof [] = 0
  roof (t ∷ w) = t.1 + roof w

  pub within_roof : (k : ℕ) (w : List (Placed T)) → Within (roof w + k) w
  within_roof k [] = tt
  within_roof k (t ∷ w) = ((let i : t.1 ≤ (t.1 + roof w) + k = omega arith in i), within_wider (roof w + k) ((t.1 + roof w) + k) (omega arith) w (within_roof k w))

  -- ---- as long as the tokens are the same, so are their nestings

  abbrev pub Agrees : List (Placed T) → List (Placed T) → Type 0
  Agrees [] w' = Unit {0}
  Agrees (x ∷ w) [] = Unit {0}
  Agrees (x ∷ w) (y ∷ w') = x.0 ≡ y.0 → (x.1 ≡ y.1) × Agrees w w'

  pub agrees-sym : (w w' : List (Placed T)) → Agrees w w' → Agrees w' w
  agrees-sym [] [] h = tt
  agrees-sym [] (y ∷ w') h = tt
  agrees-sym (x ∷ w) [] h = tt
  agrees-sym (x ∷ w) (y ∷ w') h = λ e. let k = h (sym e) in (sym k.0, agrees-sym w w' k.1)

  -- the same tokens have the same nestings
  pub agrees_same : (w w' : List (Placed T)) → Agrees w w' → plain w ≡ plain w' → w ≡ w'
  agrees_same [] [] h e = refl
  agrees_same [] (y ∷ w') h e = cc
  agrees_same (x ∷ w) [] h e = cc
  agrees_same (x ∷ w) (y ∷ w') h e =
      let heads : x.0 ≡ y.0 = cc in
      let tails : plain w ≡ plain w' = cc in
      let k = h heads in
      let rest = agrees_same w w' k.1 tails in
      (λ i. (heads i, k.0 i) ∷ rest i)

  pub agrees_front : (w w' b b' : List (Placed T)) → Agrees (w ++ b) (w' ++ b') → Agrees w w'
  agrees_front [] w' b b' h = tt
  agrees_front (x ∷ w) [] b b' h = tt
  agrees_front (x ∷ w) (y ∷ w') b b' h = λ e. let k = h e in (k.0, agrees_front w w' b b' k.1)

  pub agrees-append : (f f' b b' : List (Placed T)) → Agrees f f' → (f ≡ f' → Agrees b b')
      → ((t : Placed T) (z : List (Placed T)) → f' ≡ f ++ (t ∷ z) → Agrees b (t ∷ (z ++ b')))
      → ((t : Placed T) (z : List (Placed T)) → f ≡ f' ++ (t ∷ z) → Agrees (t ∷ (z ++ b)) b')
      → Agrees (f ++ b) (f' ++ b')
  agrees-append [] [] b b' h same longer shorter = same refl
  agrees-append [] (y ∷ f') b b' h same longer shorter = longer y f' refl
  agrees-append (x ∷ f) [] b b' h same longer shorter = shorter x f refl
  agrees-append (x ∷ f) (y ∷ f') b b' h same longer shorter = λ e.
      let k = h e in
      let heads : x ≡ y = (λ i. (e i, k.0 i)) in (
        k.0,
        agrees-append f f' b b' k.1
            (λ s. same (λ i. heads i ∷ s i))
            (λ t z s. longer t z (λ i. sym heads i ∷ s i))
            (λ t z s. shorter t z (λ i. heads i ∷ s i)),
      )
