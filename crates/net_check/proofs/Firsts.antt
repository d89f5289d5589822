-- The first of a list that fails, and the others before it.
use Rattle.std.proofs.Common.{◌≡◌, ℕ, zero, suc, ◌+◌, ◌<◌, take, arith, List, [], ◌∷◌, Some, None, Bool, true, false, refl, subst}
use Rattle.std.specs.Prelude.{slice_get, if◌then◌else◌}
use Rattle.verilog_tree.specs.Facts.{after}
use Rattle.verilog_tree.specs.WellFormed.{EachAfter}
use Rattle.net_check.specs.Search.{first_wrong}

module _ {S A : Type 0} (P : S → A → Type 0) (step : S → A → S) where
  -- one of a list of which each stands
  pub each_at : (s : S) (xs : List A) (k : ℕ) (x : A) → EachAfter P step s xs → slice_get xs k ≡ Some x → P (after step s (take k xs)) x
  each_at s [] k x h e = cc
  each_at s (y ∷ xs) zero x h e = let same : y ≡ x = cc in subst (P s) same h.0
  each_at s (y ∷ xs) (suc k) x h e = each_at (step s y) xs k x h.1 e

module _ {S A : Type 0} (test : S → A → Bool) (step : S → A → S) where
  abbrev pub Passes : S → List A → ℕ → Type 0
  Passes s xs j = (x : A) → slice_get xs j ≡ Some x → test (after step s (take j xs)) x ≡ true

  pub record Fails (s : S) (xs : List A) (at : ℕ) : Type 0 where
    pub item : A
    pub here : slice_get xs at ≡ Some item
    pub fails : test (after step s (take at xs)) item ≡ false
    pub before : (j : ℕ) → j < at → Passes s xs j

  pub record FailsAt (s : S) (xs : List A) (k n : ℕ) : Type 0 where
    pub at : ℕ
    pub is : n ≡ k + at
    pub fails : Fails s xs at

  pass_later : (s : S) (x : A) (xs : List A) (at : ℕ) → test s x ≡ true → ((j : ℕ) → j < at → Passes (step s x) xs j) → (j : ℕ) → j < suc at → Passes s (x ∷ xs) j
  pass_later s x xs at e h zero lt y there = let same : x ≡ y = cc in subst (λ z. test s z ≡ true) same e
  pass_later s x xs at e h (suc j) lt y there = h j (omega arith) y there

  later : (s : S) (x : A) (xs : List A) (k n : ℕ) → test s x ≡ true → FailsAt (step s x) xs (k + 1) n → FailsAt s (x ∷ xs) k n
  later s x xs k n e r = record {
    at = suc r.at;
    is = omega (arith, r.is);
    fails = record { item = r.fails.item; here = r.fails.here; fails = r.fails.fails; before = pass_later s x xs r.at e r.fails.before };
  }

  one_fails_at : (s : S) (x : A) (xs : List A) (k n : ℕ) (b : Bool) → test s x ≡ b → (if b then first_wrong test step (step s x) xs (k + 1) else Some k) ≡ Some n
      → (first_wrong test step (step s x) xs (k + 1) ≡ Some n → FailsAt (step s x) xs (k + 1) n) → FailsAt s (x ∷ xs) k n
  one_fails_at s x xs k n true e h rest = later s x xs k n e (rest h)
  one_fails_at s x xs k n false e h rest =
      let same : n ≡ k = cc in
      record { at = 0; is = omega (arith, same); fails = record { item = x; here = refl; fails = e; before = λ j lt. absurd (omega arith) } }

  one_fails : (s : S) (xs : List A) (k n : ℕ) → first_wrong test step s xs k ≡ Some n → FailsAt s xs k n
  one_fails s [] k n h = cc
  one_fails s (x ∷ xs) k n h = one_fails_at s x xs k n (test s x) refl h (one_fails (step s x) xs (k + 1) n)

  pub first_fails : (s : S) (xs : List A) (n : ℕ) → first_wrong test step s xs 0 ≡ Some n → Fails s xs n
  first_fails s xs n h = let r = one_fails s xs 0 n h in let same : r.at ≡ n = omega (arith, r.is) in subst (Fails s xs) same r.fails

  all_pass_at : (s : S) (x : A) (xs : List A) (k : ℕ) (b : Bool) → test s x ≡ b → (if b then first_wrong test step (step s x) xs (k + 1) else Some k) ≡ None
      → (first_wrong test step (step s x) xs (k + 1) ≡ None → EachAfter (λ t y. test t y ≡ true) step (step s x) xs) → EachAfter (λ t y. test t y ≡ true) step s (x ∷ xs)
  all_pass_at s x xs k true e h rest = (e, rest h)
  all_pass_at s x xs k false e h rest = cc

  pub all_pass : (s : S) (xs : List A) (k : ℕ) → first_wrong test step s xs k ≡ None → EachAfter (λ t y. test t y ≡ true) step s xs
  all_pass s [] k h = tt
  all_pass s (x ∷ xs) k h = all_pass_at s x xs k (test s x) refl h (all_pass (step s x) xs (k + 1))

-- a fact of each for another
pub each_after_map : {S A : Type 0} (P Q : S → A → Type 0) (step : S → A → S) (s : S) (xs : List A) → ((t : S) (x : A) → P t x → Q t x) → EachAfter P step s xs
    → EachAfter Q step s xs
each_after_map P Q step s [] f h = tt
each_after_map P Q step s (x ∷ xs) f h = (f s x h.0, each_after_map P Q step (step s x) xs f h.1)
