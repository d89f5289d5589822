-- Words modulo 2 to the 64.
use Rattle.std.proofs.Common.{◌≡◌, ℕ, suc, ◌+◌, ◌*◌, ◌%◌, ◌^◌, ◌<◌, ◌≤◌, List, [], ◌∷◌, length, drop, get_or, refl, sym, ap, ◌∙◌, subst, arith}
use Rattle.std.proofs.Math.Seq.{drop-cons}
use Rattle.std.proofs.Math.Nat.{mod-add-mod}
use Rattle.std.proofs.lemmas.Nat.{mul-mod_first, mod_below, pow_pos}
use Rattle.std.proofs.lemmas.List.{drop_all}
use Rattle.hls_ints.specs.Words.{word}
use Rattle.netlist.specs.declared.netlist.Module.{Module}
use Rattle.circuit.specs.Readings.{Reading, joined, repeated, width}
use Rattle.circuit.specs.Rows.{EachOf}

is_small : (x v : ℕ) → x ≡ v → x < 2 ^ 64 → x ≡ word 64 v
is_small x v e l = grind arith

word_word : (a : ℕ) → word 64 (word 64 a) ≡ word 64 a
word_word a = sym (is_small (word 64 a) (word 64 a) refl (mod_below a (2 ^ 64) (pow_pos 64)))

word_step : (a b p n : ℕ) → word 64 a ≡ word 64 b → word 64 (a * p + n) ≡ word 64 (b * p + n)
word_step a b p n e =
    sym (mod-add-mod (a * p) (2 ^ 64) n)
    ∙ ap (λ z. (z + n) % 2 ^ 64) (sym (mul-mod_first a p (2 ^ 64)) ∙ ap (λ z. (z * p) % 2 ^ 64) e ∙ mul-mod_first b p (2 ^ 64))
    ∙ mod-add-mod (b * p) (2 ^ 64) n

joined_word : (m : Module) (r : Reading) (xs : List ℕ) (a b : ℕ) → word 64 a ≡ word 64 b → word 64 (joined m r xs a) ≡ word 64 (joined m r xs b)
joined_word m r [] a b e = e
joined_word m r (x ∷ xs) a b e = joined_word m r xs (a * 2 ^ width m x + r.signal x) (b * 2 ^ width m x + r.signal x) (word_step a b (2 ^ width m x) (r.signal x) e)

-- one part more
pub joined_next : (m : Module) (r : Reading) (xs : List ℕ) (i above out total : ℕ) → i < length xs → total ≡ word 64 (joined m r (drop i xs) above)
    → out ≡ word 64 (above * 2 ^ width m (get_or xs i 0) + r.signal (get_or xs i 0)) → total ≡ word 64 (joined m r (drop (i + 1) xs) out)
joined_next m r xs i above out total l e o =
    let a = above * 2 ^ width m (get_or xs i 0) + r.signal (get_or xs i 0) in
    let next : suc i ≡ i + 1 = omega arith in
    e ∙ ap (λ ys. word 64 (joined m r ys above)) (drop-cons xs i 0 l)
    ∙ joined_word m r (drop (suc i) xs) a out (sym (ap (word 64) o ∙ word_word a))
    ∙ ap (λ k. word 64 (joined m r (drop k xs) out)) next

pub each_next : (P : ℕ → Type 0) (xs : List ℕ) (i : ℕ) → i < length xs → EachOf P (drop i xs) → P (get_or xs i 0) × EachOf P (drop (i + 1) xs)
each_next P xs i l e =
    let next : suc i ≡ i + 1 = omega arith in
    let all = subst (EachOf P) (drop-cons xs i 0 l) e in
    (all.0, subst (λ k. EachOf P (drop k xs)) next all.1)

-- no part more
pub joined_end : (m : Module) (r : Reading) (xs : List ℕ) (i above total : ℕ) → length xs ≤ i → total ≡ word 64 (joined m r (drop i xs) above) → above < 2 ^ 64 → above ≡ total
joined_end m r xs i above total l e small =
    is_small above above refl small ∙ sym (e ∙ ap (λ ys. word 64 (joined m r ys above)) (drop_all i xs l))

-- one copy more
pub repeated_next : (i w n above out : ℕ) → above ≡ word 64 (repeated i w n) → out ≡ word 64 (above * 2 ^ w + n) → out ≡ word 64 (repeated (i + 1) w n)
repeated_next i w n above out e o =
    let next : suc i ≡ i + 1 = omega arith in
    o ∙ word_step above (repeated i w n) (2 ^ w) n (ap (word 64) e ∙ word_word (repeated i w n)) ∙ ap (λ k. word 64 (repeated k w n)) next
