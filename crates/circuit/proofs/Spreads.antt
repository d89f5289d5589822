-- Lists that are read from numbers one after another.
use Rattle.std.proofs.Common.{◌≡◌, ℕ, zero, suc, ◌+◌, ◌<◌, sym, ap, ◌∙◌, arith}
use Rattle.std.specs.Prelude.{slice_index}
use Rattle.circuit.specs.Rows.{spread}

index_is : (f : ℕ → ℕ) (i n k : ℕ) → k < n → slice_index (spread f i n) k ≡ f (i + k)
index_is f i zero k l = absurd (omega arith)
index_is f i (suc n) zero l = let e : i ≡ i + 0 = omega arith in ap f e
index_is f i (suc n) (suc k) l = let e : i + 1 + k ≡ i + suc k = omega arith in index_is f (i + 1) n k (omega arith) ∙ ap f e

-- element k of a list of n numbers
pub spread_is : (f : ℕ → ℕ) (n k : ℕ) → k < n → f k ≡ slice_index (spread f 0 n) k
spread_is f n k l = sym (index_is f 0 n k l ∙ ap f (let e : 0 + k ≡ k = omega arith in e))
