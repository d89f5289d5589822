-- Stages to which ways lead, marked stage after stage.
use Rattle.std.proofs.Common.{◌≡◌, ℕ, zero, suc, ◌+◌, ◌<◌, ◌≤◌, Bool, true, false, List, [], ◌∷◌, ◌++◌, length, take, get_or, Some}
use Rattle.std.proofs.Common.{refl, sym, ap, ◌∙◌, ⊎_elim, arith, lt-ltb}
use Rattle.std.specs.Prelude.{◌||◌, not, nat_eq, nat_lt, slice_get, slice_set, slice_index_or}
use Rattle.std.proofs.lemmas.List.{take_all, length-set}
use Rattle.lists.proofs.Places.{set_element}
use Rattle.block_ir.specs.declared.block.Next.{Next}
use Rattle.block_ir.specs.declared.block.Next.TheVariants.{Jump, Branch}
use Rattle.block_ir.specs.declared.code.Stage.{Stage}
use Rattle.block_ir.specs.declared.code.Stage.TheVariants.{Run, Act}
use Rattle.code_merge.specs.Maximal.{one_way, next_ways, stage_ways, ways}
use Rattle.code_merge.specs.Dropping.{marked_next, marked, AreUnset, AreLed}
use Rattle.code_merge.specs.Used.{is_empty, is_used, used_from, used}
use Rattle.code_merge.proofs.KeptItems.{flag_at}
use Rattle.code_merge.proofs.Lists.{take_next}
use Rattle.code_merge.proofs.Ways.{one_here, one_elsewhere, ways_append}

-- the ways of these stages
pub record Marked (count : ℕ) (done : List Stage) (led : List Bool) : Type 0 where
  pub size : length led ≡ count
  pub is : (m : ℕ) (v : Bool) → slice_get led m ≡ Some v → v ≡ nat_lt 0 (ways m done)

one_marked : (led : List Bool) (l m : ℕ) (v : Bool) (w : ℕ) → ((k : Bool) → slice_get led m ≡ Some k → k ≡ nat_lt 0 w) → slice_get (slice_set led l true) m ≡ Some v →
    v ≡ nat_lt 0 (w + one_way m l)
one_marked led l m v w h e =
    ⊎_elim
    (λ p. p.1 ∙ sym (lt-ltb 0 (w + one_way m l) (let o = ap (λ i. one_way i l) p.0 in let g = one_here l in omega (arith, o, g))))
    (λ p. h v p.1 ∙ ap (nat_lt 0) (let o = one_elsewhere m l p.0 in let g : w ≡ w + one_way m l = omega (arith, o) in g))
    (set_element led l m true v e)

next_marked : (led : List Bool) (nx : Next) (m : ℕ) (v : Bool) (w : ℕ) → ((k : Bool) → slice_get led m ≡ Some k → k ≡ nat_lt 0 w) → slice_get (marked_next led nx) m ≡ Some v →
    v ≡ nat_lt 0 (w + next_ways m nx)
next_marked led (Jump l) m v w h e = one_marked led l m v w h e
next_marked led (Branch test nonzero zero_) m v w h e =
    one_marked (slice_set led nonzero true) zero_ m v (w + one_way m nonzero) (λ k. one_marked led nonzero m k w h) e
    ∙ ap (nat_lt 0) (let g : (w + one_way m nonzero) + one_way m zero_ ≡ w + (one_way m nonzero + one_way m zero_) = omega arith in g)

stage_marked : (led : List Bool) (s : Stage) (m : ℕ) (v : Bool) (w : ℕ) → ((k : Bool) → slice_get led m ≡ Some k → k ≡ nat_lt 0 w) → slice_get (marked led s) m ≡ Some v →
    v ≡ nat_lt 0 (w + stage_ways m s)
stage_marked led (Run b) m v w h e = next_marked led b.next m v w h e
stage_marked led (Act act next) m v w h e = one_marked led next m v w h e

marked_length : (led : List Bool) (s : Stage) → length (marked led s) ≡ length led
marked_length led (Run b) = by b.next
  where
    by : (nx : Next) → length (marked_next led nx) ≡ length led
    by (Jump l) = length-set led l true
    by (Branch test nonzero zero_) = length-set (slice_set led nonzero true) zero_ true ∙ length-set led nonzero true
marked_length led (Act act next) = length-set led next true

pub marked_none : (count : ℕ) (led : List Bool) → AreUnset count led → Marked count [] led
marked_none count led h = record { size = h.0; is = λ m v e. h.1 m v e }

pub marked_more : (ss : List Stage) (k : ℕ) (s : Stage) (led new : List Bool) → k < length ss → s ≡ get_or ss k s → new ≡ marked led s →
    Marked (length ss) (take k ss) led → Marked (length ss) (take (k + 1) ss) new
marked_more ss k s led new lt item is h = rw (take_next ss k s lt item, is) (record {
  size = marked_length led s ∙ h.size;
  is = λ m v e.
      stage_marked led s m v (ways m (take k ss)) (h.is m) e
      ∙ ap (nat_lt 0) (let w = ways_append m (take k ss) (s ∷ []) in let g : ways m (take k ss) + stage_ways m s ≡ ways m (take k ss ++ s ∷ []) = omega (arith, w) in g);
})

pub marked_all : (ss : List Stage) (k : ℕ) (led : List Bool) → length ss ≤ k → Marked (length ss) (take k ss) led → AreLed ss led
marked_all ss k led h t = (t.size, λ m v e. t.is m v e ∙ ap (λ z. nat_lt 0 (ways m z)) (take_all k ss h))

-- ---- which stages are used

used_append : (all : List Stage) (n : ℕ) (xs : List Stage) (s : Stage) → used_from all n (xs ++ s ∷ []) ≡ used_from all n xs ++ is_used all (n + length xs) s ∷ []
used_append all n [] s = let k : n ≡ n + 0 = omega arith in ap (λ z. is_used all z s ∷ []) k
used_append all n (x ∷ xs) s =
    ap (λ z. is_used all n x ∷ z) (used_append all (suc n) xs s
    ∙ (let k : suc n + length xs ≡ n + suc (length xs) = omega arith in ap (λ z. used_from all (suc n) xs ++ is_used all z s ∷ []) k))

take_length : {A : Type 0} (xs : List A) (k : ℕ) → k < length xs → length (take k xs) ≡ k
take_length [] k h = absurd (omega arith)
take_length (x ∷ xs) zero h = refl
take_length (x ∷ xs) (suc k) h = ap suc (take_length xs k (omega arith))

pub used_more : (stages : List Stage) (led us new : List Bool) (k : ℕ) (s : Stage) (v : Bool) → k < length stages → s ≡ get_or stages k s → AreLed stages led →
    us ≡ used_from stages 0 (take k stages) → new ≡ us ++ v ∷ [] → v ≡ (nat_eq k 0 || not (is_empty s) || slice_index_or led k false) →
    new ≡ used_from stages 0 (take (k + 1) stages)
used_more stages led us new k s v lt item are was more is =
    let size = are.0 in
    let value : v ≡ is_used stages k s =
    is ∙ ap (λ z. nat_eq k 0 || not (is_empty s) || z) (are.1 k _ (flag_at led k (slice_index_or led k false) (omega (arith, lt, size)) refl)) in
    let count = take_length stages k lt in
    let place : 0 + length (take k stages) ≡ k = omega (arith, count) in
    more ∙ ap (λ z. z ++ v ∷ []) was ∙ ap (λ z. used_from stages 0 (take k stages) ++ z ∷ []) (value ∙ ap (λ z. is_used stages z s) (sym place))
    ∙ sym (ap (used_from stages 0) (take_next stages k s lt item) ∙ used_append stages 0 (take k stages) s)

pub used_all : (stages : List Stage) (us : List Bool) (k : ℕ) → length stages ≤ k → us ≡ used_from stages 0 (take k stages) → us ≡ used stages
used_all stages us k le is = is ∙ ap (used_from stages 0) (take_all k stages le)

pub used_length : (all : List Stage) (n : ℕ) (xs : List Stage) → length (used_from all n xs) ≡ length xs
used_length all n [] = refl
used_length all n (x ∷ xs) = ap suc (used_length all (suc n) xs)
