-- Which operation of a state asks a bank.
use Rattle.std.specs.Prelude.{Bool, true, false}
use Rattle.std.proofs.Common.{◌≡◌, ◌≢◌, ℕ, zero, suc, ◌<◌, ◌≤◌, ◌⊎◌, List, refl, sym, ◌∙◌, subst, inl, inr, ⊎_elim, arith}
use Rattle.std.proofs.lemmas.Bool.{cases_eq}
use Rattle.bank_partition.specs.declared.banks.Spread.{Spread}
use Rattle.block_ir.specs.declared.block.Block.{Block}
use Rattle.block_ir.specs.declared.plan.BlockPlan.{BlockPlan}
use Rattle.planned_block.specs.Block.{operation_at, size}
use Rattle.planned_block.specs.Plan.{NoTarget, OfGlobal, OfArray, Target, target_of}
use Rattle.planned_block.specs.Slot.{Slot}
use Rattle.planned_block.specs.Advance.{requests}
use Rattle.plan_blocks.specs.View.{planned_view, plan_view}
use Rattle.thread_promise.specs.Globals.{bank_now, IsOpen}
use Rattle.law_banks.specs.Laws.{StoppedIsSilent}

module _ (spreads : List Spread) (b : Block) (p : BlockPlan) (q : Slot) where
  abbrev Opens : ℕ → ℕ → Bool → Type 0
  Opens = IsOpen spreads b p q

  abbrev bank_at_now : ℕ → ℕ → ℕ
  bank_at_now = bank_now spreads b p q

  -- an operation that asks this bank
  abbrev pub IsFound : ℕ → Type 0
  IsFound n = (j : ℕ) × (x : ℕ) × (w : Bool) × Opens j x w × (bank_at_now j x ≡ n)

  at_one : (n j : ℕ) → j < size (planned_view b) → IsFound n ⊎ ((x : ℕ) (w : Bool) → Opens j x w → bank_at_now j x ≡ n → ⊥)
  at_one n j lt = by_target (target_of (operation_at (planned_view b) j).kind) refl (requests (planned_view b) (plan_view b p) q j) refl
    where
      by_target : (z : Target) → target_of (operation_at (planned_view b) j).kind ≡ z → (d : Bool) → requests (planned_view b) (plan_view b p) q j ≡ d →
          IsFound n ⊎ ((x : ℕ) (w : Bool) → Opens j x w → bank_at_now j x ≡ n → ⊥)
      by_target NoTarget is d e = inr (λ x w o same. let z = sym is ∙ o.target in cc)
      by_target (OfArray y v) is d e = inr (λ x w o same. let z = sym is ∙ o.target in cc)
      by_target (OfGlobal y v) is false e = inr (λ x w o same. let z = sym e ∙ o.requested in cc)
      by_target (OfGlobal y v) is true e =
          ⊎_elim
          (λ (same : bank_at_now j y ≡ n). inl (j, y, v, record { below = lt; requested = e; target = is }, same))
          (λ (ne : bank_at_now j y ≢ n).
          inr (λ x w o same. let z = sym is ∙ o.target in let one : x ≡ y = cc in ne (subst (λ i. bank_at_now j i ≡ n) one same)))
          (cases_eq (bank_at_now j y) n)

  pub find : (n count : ℕ) → count ≤ size (planned_view b) → IsFound n ⊎ ((j x : ℕ) (w : Bool) → j < count → Opens j x w → bank_at_now j x ≡ n → ⊥)
  find n zero le = inr (λ j x w lt o same. omega arith)
  find n (suc count) le =
      ⊎_elim
      (λ (found : IsFound n). inl found)
      (λ (none : (j x : ℕ) (w : Bool) → j < count → Opens j x w → bank_at_now j x ≡ n → ⊥).
      ⊎_elim
      (λ (found : IsFound n). inl found)
      (λ (never : (x : ℕ) (w : Bool) → Opens count x w → bank_at_now count x ≡ n → ⊥).
      inr (λ j x w lt o same.
      ⊎_elim
      (λ (last : j ≡ count). never x w (subst (λ i. Opens i x w) last o) (subst (λ i. bank_at_now i x ≡ n) last same))
      (λ (ne : j ≢ count). none j x w (omega arith) o same)
      (cases_eq j count)))
      (at_one n count (omega arith)))
      (find n count (omega arith))

-- where it is not enabled it asks nothing
pub stopped_is_silent : StoppedIsSilent
stopped_is_silent spreads b p q asks off none n l =
    ⊎_elim
    (λ (found : IsFound spreads b p q n).
    subst (λ z. (asks z).asks ≡ false) found.4 (off found.0 found.1 found.2 found.3))
    (λ (never : (j x : ℕ) (w : Bool) → j < size (planned_view b) → IsOpen spreads b p q j x w → bank_now spreads b p q j x ≡ n → ⊥).
    none n l (λ j x w o same. never j x w o.below o same))
    (find spreads b p q n (size (planned_view b)) (omega arith))
