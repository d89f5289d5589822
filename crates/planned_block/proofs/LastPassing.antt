-- The last of some numbers that passes a test: the one that passes, or none.
use Rattle.std.proofs.Common.{◌≡◌, ◌≢◌, ℕ, zero, suc, ◌<◌, Bool, true, false, if◌then◌else◌, refl, ap, ◌∙◌, arith}
use Rattle.planned_block.specs.Advance.{last_of}

pub last_hit : {A : Type 0} (test : ℕ → Bool) (value : ℕ → A) (old : A) (n k : ℕ) → k < n → test k ≡ true → ((j : ℕ) → j < n → test j ≡ true → j ≡ k) →
    last_of test value old n ≡ value k
last_hit test value old zero k lt e one = absurd (omega arith)
last_hit test value old (suc n) k lt e one = by (test n) refl (λ less. last_hit test value old n k less e (λ j l t. one j (omega arith) t))
  where
    by : (c : Bool) → test n ≡ c → (k < n → last_of test value old n ≡ value k) → (if test n then value n else last_of test value old n) ≡ value k
    by true q rest = ap (λ (c : Bool). if c then value n else last_of test value old n) q ∙ ap value (one n (omega arith) q)
    by false q rest =
        let other : n ≢ k = λ s. absurd (let p = ap test s in cc) in
        ap (λ (c : Bool). if c then value n else last_of test value old n) q ∙ rest (omega arith)

pub last_miss : {A : Type 0} (test : ℕ → Bool) (value : ℕ → A) (old : A) (n : ℕ) → ((k : ℕ) → k < n → test k ≡ true → ⊥) → last_of test value old n ≡ old
last_miss test value old zero none = refl
last_miss test value old (suc n) none = by (test n) refl (last_miss test value old n (λ k l. none k (omega arith)))
  where
    by : (c : Bool) → test n ≡ c → last_of test value old n ≡ old → (if test n then value n else last_of test value old n) ≡ old
    by true q rest = absurd (none n (omega arith) q)
    by false q rest = ap (λ (c : Bool). if c then value n else last_of test value old n) q ∙ rest
