-- Ways are counted stage after stage.
use Rattle.std.proofs.Common.{◌≡◌, ◌≢◌, ℕ, zero, suc, ◌+◌, ◌<◌, ◌≤◌, min, List, [], ◌∷◌}
use Rattle.std.proofs.Common.{◌++◌, length, take, get_or, Option, Some, None, refl, ap, ◌∙◌, ⊎_elim, arith}
use Rattle.std.specs.Prelude.{slice_get}
use Rattle.std.proofs.lemmas.List.{take_all, length-set}
use Rattle.lists.proofs.Places.{set_element}
use Rattle.block_ir.specs.declared.block.Next.{Next}
use Rattle.block_ir.specs.declared.block.Next.TheVariants.{Jump, Branch}
use Rattle.block_ir.specs.declared.code.Stage.{Stage}
use Rattle.block_ir.specs.declared.code.Stage.TheVariants.{Run, Act}
use Rattle.code_merge.specs.Maximal.{one_way, next_ways, stage_ways, ways, AreCounted}
use Rattle.code_merge.specs.Counting.{one_more, counted, counted_at, next_counted, stage_counted, AreZero}
use Rattle.code_merge.proofs.Lists.{take_next}
use Rattle.code_merge.proofs.Ways.{one_here, one_elsewhere, ways_append}

-- the ways of these stages
pub record Tallied (count : ℕ) (done : List Stage) (counts : List ℕ) : Type 0 where
  pub size : length counts ≡ count
  pub is : (m c : ℕ) → slice_get counts m ≡ Some c → c ≡ min (ways m done) 2

more_is : (k w : ℕ) → k ≡ min w 2 → one_more k ≡ min (w + 1) 2
more_is zero w e = omega (arith, e)
more_is (suc k) w e = omega (arith, e)

one_counted : (counts : List ℕ) (l m c w : ℕ) → ((k : ℕ) → slice_get counts m ≡ Some k → k ≡ min w 2) → slice_get (counted counts l) m ≡ Some c → c ≡ min (w + one_way m l) 2
one_counted counts l m c w h = by (slice_get counts l) refl
  where
    by : (o : Option ℕ) → slice_get counts l ≡ o → slice_get (counted_at counts l o) m ≡ Some c → c ≡ min (w + one_way m l) 2
    by None at e =
        let apart : m ≢ l = λ same. (let z = ap (slice_get counts) same in cc) in
        let o = one_elsewhere m l apart in
        let is = h c e in
        omega (arith, o, is)
    by (Some k) at e =
        ⊎_elim
        (λ p. let o = ap (λ i. one_way i l) p.0 ∙ one_here l in let was = more_is k w (h k (ap (slice_get counts) p.0 ∙ at)) in let now = p.1 in omega (arith, o, was, now))
        (λ p. let o = one_elsewhere m l p.0 in let is = h c p.1 in omega (arith, o, is))
        (set_element counts l m (one_more k) c e)

next_tallied : (counts : List ℕ) (nx : Next) (m c w : ℕ) → ((k : ℕ) → slice_get counts m ≡ Some k → k ≡ min w 2) → slice_get (next_counted counts nx) m ≡ Some c →
    c ≡ min (w + next_ways m nx) 2
next_tallied counts (Jump l) m c w h e = one_counted counts l m c w h e
next_tallied counts (Branch test nonzero zero_) m c w h e =
    let z = one_counted (counted counts nonzero) zero_ m c (w + one_way m nonzero) (λ k. one_counted counts nonzero m k w h) e in omega (arith, z)

stage_tallied : (counts : List ℕ) (s : Stage) (m c w : ℕ) → ((k : ℕ) → slice_get counts m ≡ Some k → k ≡ min w 2) → slice_get (stage_counted counts s) m ≡ Some c →
    c ≡ min (w + stage_ways m s) 2
stage_tallied counts (Run b) m c w h e = next_tallied counts b.next m c w h e
stage_tallied counts (Act act next) m c w h e = one_counted counts next m c w h e

counted_length : (counts : List ℕ) (l : ℕ) → length (counted counts l) ≡ length counts
counted_length counts l = by (slice_get counts l)
  where
    by : (o : Option ℕ) → length (counted_at counts l o) ≡ length counts
    by None = refl
    by (Some k) = length-set counts l (one_more k)

next_length : (counts : List ℕ) (nx : Next) → length (next_counted counts nx) ≡ length counts
next_length counts (Jump l) = counted_length counts l
next_length counts (Branch test nonzero zero_) = counted_length (counted counts nonzero) zero_ ∙ counted_length counts nonzero

stage_length : (counts : List ℕ) (s : Stage) → length (stage_counted counts s) ≡ length counts
stage_length counts (Run b) = next_length counts b.next
stage_length counts (Act act next) = counted_length counts next

pub tallied_more : (count : ℕ) (done more : List Stage) (s : Stage) (counts new : List ℕ) → more ≡ done ++ s ∷ [] → new ≡ stage_counted counts s →
    Tallied count done counts → Tallied count more new
tallied_more count done more s counts new all is h = rw (all, is) (record {
  size = stage_length counts s ∙ h.size;
  is = λ m c e.
      let z = stage_tallied counts s m c (ways m done) (h.is m) e in
      let w = ways_append m done (s ∷ []) in
      omega (arith, z, w);
})

pub tallied_none : (count : ℕ) (counts : List ℕ) → AreZero count counts → Tallied count [] counts
tallied_none count counts h = record { size = h.0; is = λ m c e. (let z = h.1 m c e in omega (arith, z)) }

pub tallied_all : (ss : List Stage) (k : ℕ) (counts : List ℕ) → length ss ≤ k → Tallied (length ss) (take k ss) counts → AreCounted ss counts
tallied_all ss k counts h t = (t.size, λ m c off e. t.is m c e ∙ ap (λ z. min (ways m z) 2) (take_all k ss h))

pub tallied_next : (ss : List Stage) (k : ℕ) (s : Stage) (counts new : List ℕ) → k < length ss → s ≡ get_or ss k s → new ≡ stage_counted counts s →
    Tallied (length ss) (take k ss) counts → Tallied (length ss) (take (k + 1) ss) new
tallied_next ss k s counts new lt item is h =
    tallied_more (length ss) (take k ss) (take (k + 1) ss) s counts new (take_next ss k s lt item) is h
