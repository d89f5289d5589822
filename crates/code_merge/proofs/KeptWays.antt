-- Ways that lead to stages which are numbered anew.
use Rattle.std.proofs.Common.{◌≡◌, ℕ, suc, ◌≤◌, Bool, true, false, List, [], ◌∷◌, map, Some, refl, ap, ⊎_elim, arith}
use Rattle.std.specs.Prelude.{◌⊎◌, slice_get}
use Rattle.std.proofs.lemmas.Bool.Decides.{eqb_tells}
use Rattle.block_ir.specs.declared.block.Next.{Next}
use Rattle.block_ir.specs.declared.block.Next.TheVariants.{Jump, Branch}
use Rattle.block_ir.specs.declared.code.Stage.{Stage}
use Rattle.block_ir.specs.declared.code.Stage.TheVariants.{Run, Act}
use Rattle.code_merge.specs.Maximal.{one_way, next_ways, stage_ways, ways}
use Rattle.code_merge.specs.Used.{kept, next_renumbered, renumbered}
use Rattle.code_merge.proofs.Ways.{one_here, one_elsewhere}

-- a way to a stage is a way to its new number
module _ (new : ℕ → ℕ) (m : ℕ) where
  one_kept : (l : ℕ) → one_way m l ≤ one_way (new m) (new l)
  one_kept l =
      ⊎_elim
      (λ t. let h = one_here (new m) in let e = ap (λ z. one_way (new m) (new z)) t.1 in let g = one_here m in let f = ap (one_way m) t.1 in omega (arith, h, e, g, f))
      (λ t. let h = one_elsewhere m l t.1 in omega (arith, h))
      (eqb_tells m l)

  next_kept : (nx : Next) → next_ways m nx ≤ next_ways (new m) (next_renumbered new nx)
  next_kept (Jump l) = one_kept l
  next_kept (Branch test nonzero zero_) = let h = one_kept nonzero in let g = one_kept zero_ in omega (arith, h, g)

  stage_kept : (s : Stage) → stage_ways m s ≤ stage_ways (new m) (renumbered new s)
  stage_kept (Run b) = next_kept b.next
  stage_kept (Act act next) = one_kept next

  -- where the others lead elsewhere
  pub ways_kept : (us : List Bool) (ss : List Stage) → ((l : ℕ) (s : Stage) → slice_get ss l ≡ Some s → (slice_get us l ≡ Some true) ⊎ (stage_ways m s ≡ 0)) →
      ways m ss ≤ ways (new m) (map (renumbered new) (kept us ss))
  ways_kept us [] h = omega arith
  ways_kept [] (s ∷ ss) h = let g = ways_kept [] ss (λ l t e. h (suc l) t e) in ⊎_elim (λ u. absurd cc) (λ z. omega (arith, g, z)) (h 0 s refl)
  ways_kept (true ∷ us) (s ∷ ss) h = let g = ways_kept us ss (λ l t e. h (suc l) t e) in let k = stage_kept s in omega (arith, g, k)
  ways_kept (false ∷ us) (s ∷ ss) h = let g = ways_kept us ss (λ l t e. h (suc l) t e) in ⊎_elim (λ u. absurd cc) (λ z. omega (arith, g, z)) (h 0 s refl)
