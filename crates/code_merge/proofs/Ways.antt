-- Ways that lead to a stage.
use Rattle.std.proofs.Common.{◌≡◌, ◌≢◌, ℕ, zero, suc, ◌+◌, ◌≤◌, Bool, List, [], ◌∷◌, ◌++◌, Option, Some, refl, ap, ⊎_elim, arith}
use Rattle.std.specs.Prelude.{if◌then◌else◌, slice_get, slice_set}
use Rattle.std.proofs.lemmas.Bool.Decides.{eqb_tells}
use Rattle.block_ir.specs.declared.operand.Operand.{Operand}
use Rattle.block_ir.specs.declared.block.Next.{Next}
use Rattle.block_ir.specs.declared.block.Next.TheVariants.{Jump, Branch}
use Rattle.block_ir.specs.declared.code.Stage.{Stage}
use Rattle.code_merge.specs.Joined.{moved_next}
use Rattle.code_merge.specs.Maximal.{one_way, next_ways, stage_ways, ways}

pub one_here : (m : ℕ) → one_way m m ≡ 1
one_here m = ⊎_elim (λ t. ap (λ (b : Bool). if b then 1 else 0) t.0) (λ t. absurd (t.1 refl)) (eqb_tells m m)

pub one_elsewhere : (m l : ℕ) → m ≢ l → one_way m l ≡ 0
one_elsewhere m l apart = ⊎_elim (λ t. absurd (apart t.1)) (λ t. ap (λ (b : Bool). if b then 1 else 0) t.0) (eqb_tells m l)

-- a stage that is changed
pub ways_set : (m : ℕ) (stages : List Stage) (l : ℕ) (s new : Stage) → slice_get stages l ≡ Some s →
    ways m (slice_set stages l new) + stage_ways m s ≡ ways m stages + stage_ways m new
ways_set m [] l s new e = cc
ways_set m (t ∷ ts) zero s new e = let h = ap (stage_ways m) (let h : t ≡ s = cc in h) in omega (arith, h)
ways_set m (t ∷ ts) (suc l) s new e = let h = ways_set m ts l s new e in omega (arith, h)

pub one_of : (m : ℕ) (stages : List Stage) (l : ℕ) (s : Stage) → slice_get stages l ≡ Some s → stage_ways m s ≤ ways m stages
one_of m [] l s e = cc
one_of m (t ∷ ts) zero s e = let h = ap (stage_ways m) (let h : t ≡ s = cc in h) in omega (arith, h)
one_of m (t ∷ ts) (suc l) s e = let h = one_of m ts l s e in omega (arith, h)

pub two_of : (m : ℕ) (stages : List Stage) (k l : ℕ) (s t : Stage) → k ≢ l → slice_get stages k ≡ Some s → slice_get stages l ≡ Some t →
    stage_ways m s + stage_ways m t ≤ ways m stages
two_of m [] k l s t apart e f = cc
two_of m (u ∷ us) zero zero s t apart e f = absurd (apart refl)
two_of m (u ∷ us) zero (suc l) s t apart e f = let h = ap (stage_ways m) (let h : u ≡ s = cc in h) in let g = one_of m us l t f in omega (arith, h, g)
two_of m (u ∷ us) (suc k) zero s t apart e f = let h = ap (stage_ways m) (let h : u ≡ t = cc in h) in let g = one_of m us k s e in omega (arith, h, g)
two_of m (u ∷ us) (suc k) (suc l) s t apart e f = let h = two_of m us k l s t (λ q. apart (ap suc q)) e f in omega (arith, h)

pub ways_append : (m : ℕ) (ss ts : List Stage) → ways m (ss ++ ts) ≡ ways m ss + ways m ts
ways_append m [] ts = omega arith
ways_append m (s ∷ ss) ts = let h = ways_append m ss ts in omega (arith, h)

-- a block that is moved leads where it led
pub moved_ways : (current : List (Option Operand)) (n j : ℕ) (nx : Next) → next_ways j (moved_next n current nx) ≡ next_ways j nx
moved_ways current n j (Jump i) = refl
moved_ways current n j (Branch test nonzero zero_) = refl
