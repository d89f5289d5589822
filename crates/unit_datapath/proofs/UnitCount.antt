-- How many units there are: lemmas of each function that counts.
use Rattle.std.proofs.Common.{◌≡◌, ◌≢◌, ℕ, suc, ◌+◌, ◌≤◌, ◌⊎◌, true, false, length, Option, Some, slice_get, slice_index, refl, sym, ap, subst, ◌∙◌, arith, inl, inr, ⊎_elim}
use Rattle.hls_ints.specs.Types.{IntegerType}
use Rattle.c_program.specs.declared.tree.BinaryOperator.{BinaryOperator}
use Rattle.block_ir.specs.declared.operand.Operand.{Operand}
use Rattle.block_ir.specs.declared.block.Operation.{Operation}
use Rattle.block_ir.specs.declared.block.Operation.TheVariants.{Unary, Binary, ReadGlobal, WriteGlobal, ReadArray, WriteArray}
use Rattle.block_ir.specs.declared.block.Block.{Block}
use Rattle.block_ir.specs.declared.code.Stage.{Stage}
use Rattle.block_ir.specs.declared.code.Stage.TheVariants as stage
use Rattle.block_ir.specs.declared.code.ThreadCode.{ThreadCode}
use Rattle.block_ir.specs.declared.plan.BlockPlan.{BlockPlan}
use Rattle.block_ir.specs.declared.plan.StagePlan.{StagePlan}
use Rattle.block_ir.specs.declared.plan.StagePlan.TheVariants as planned
use Rattle.block_ir.specs.declared.plan.Planned.{Planned}
use Rattle.std.proofs.lemmas.Option.{slice_get_within}
use Rattle.std.proofs.lemmas.Bool.{cases_eq}
use Rattle.unit_datapath.specs.Counts.{IsCountOf, is_made, OperationHas, BlockHas, StageHas, CodeHas}

-- ---- counts

pub count_none : (P : ℕ → Type 0) → ((n : ℕ) → P n → ⊥) → IsCountOf P 0
count_none P none = record { above = λ n p. absurd (none n p); least = inl refl }

pub count_like : (P Q : ℕ → Type 0) (count : ℕ) → ((n : ℕ) → P n → Q n) → ((n : ℕ) → Q n → P n) → IsCountOf P count → IsCountOf Q count
count_like P Q count to from t = record {
  above = λ n q. t.above n (from n q);
  least = ⊎_elim (λ (e : count ≡ 0). inl e) (λ (some : (n : ℕ) × P n × (count ≡ suc n)). inr (some.0, to some.0 some.1, some.2)) t.least;
}

-- one that is above two counts, and one of them
pub count_both : (P Q R : ℕ → Type 0) (a b count : ℕ) → IsCountOf P a → IsCountOf Q b → a ≤ count → b ≤ count → (count ≡ a) ⊎ (count ≡ b) → ((n : ℕ) → P n → R n) →
    ((n : ℕ) → Q n → R n) →
    ((n : ℕ) → R n → P n ⊎ Q n) → IsCountOf R count
count_both P Q R a b count t u left right one from_p from_q either = record {
  above = λ n x.
      ⊎_elim (λ (p : P n). let h = t.above n p in omega arith) (λ (q : Q n). let h = u.above n q in omega arith) (either n x);
  least = ⊎_elim
      (λ (e : count ≡ a).
      ⊎_elim (λ (none : a ≡ 0). inl (e ∙ none)) (λ (some : (n : ℕ) × P n × (a ≡ suc n)). inr (some.0, from_p some.0 some.1, e ∙ some.2)) t.least)
      (λ (e : count ≡ b).
      ⊎_elim (λ (none : b ≡ 0). inl (e ∙ none)) (λ (some : (n : ℕ) × Q n × (b ≡ suc n)). inr (some.0, from_q some.0 some.1, e ∙ some.2)) u.least)
      one;
}

module _ (operator : BinaryOperator) (unit : IntegerType) where
  -- ---- an operation

  pub operation_counted : (p : BlockPlan) (k : ℕ) (o : Operation) (number count : ℕ) → is_made operator unit o ≡ true → number ≡ slice_index p.units k → count ≡ number + 1 →
      IsCountOf (OperationHas operator unit p k o) count
  operation_counted p k o number count made is more = record {
    above = λ n h. (let e = h.1 in omega (arith, e, is, more));
    least = inr (number, (made, sym is), (let e : count ≡ suc number = omega (arith, more) in e));
  }

  pub operation_none : (p : BlockPlan) (k : ℕ) (o : Operation) → is_made operator unit o ≡ false → IsCountOf (OperationHas operator unit p k o) 0
  operation_none p k o none = count_none (OperationHas operator unit p k o) (λ n h. absurd (let e = h.0 in cc))

  -- what is no operator on two operands
  pub none_made : (o : Operation) → ((own : BinaryOperator) (ty : IntegerType) (a b : Operand) → o ≡ Binary own ty a b → ⊥) → is_made operator unit o ≡ false
  none_made (Unary own ty a) other = refl
  none_made (Binary own ty a b) other = absurd (other own ty a b refl)
  none_made (ReadGlobal x n i) other = refl
  none_made (WriteGlobal x n i a) other = refl
  none_made (ReadArray x n i) other = refl
  none_made (WriteArray x n i a) other = refl

  -- ---- a block

  pub block_none : (b : Block) (p : BlockPlan) → IsCountOf (BlockHas operator unit b p 0) 0
  block_none b p = count_none (BlockHas operator unit b p 0) (λ n h. absurd (let e = h.2 in omega arith))

  pub block_more : (b : Block) (p : BlockPlan) (n so_far own count : ℕ) (o : Operation) → IsCountOf (BlockHas operator unit b p n) so_far → slice_get b.operations n ≡ Some o →
      IsCountOf (OperationHas operator unit p n o) own → so_far ≤ count → own ≤ count → (count ≡ so_far) ⊎ (count ≡ own) → IsCountOf (BlockHas operator unit b p (n + 1)) count
  block_more b p n so_far own count o t listed u left right one =
      count_both (BlockHas operator unit b p n) (OperationHas operator unit p n o) (BlockHas operator unit b p (n + 1)) so_far own count t u left right one
      (λ v h. (h.0, h.1, (let less = h.2 in omega arith), h.3, h.4))
      (λ v h. (n, o, omega arith, listed, h))
      (λ v h.
      ⊎_elim
      (λ (same : h.0 ≡ n).
      let e : h.1 ≡ o = (let there = h.3 in let at = ap (slice_get b.operations) same in cc) in
      inr (subst (λ (z : Operation). OperationHas operator unit p n z v) e (subst (λ (z : ℕ). OperationHas operator unit p z h.1 v) same h.4)))
      (λ (ne : h.0 ≢ n). inl (h.0, h.1, (let less = h.2 in omega arith), h.3, h.4))
      (cases_eq h.0 n))

  -- ---- a stage

  pub stage_none : (s : Stage) (plan : Option StagePlan) → ((b : Block) (p : BlockPlan) → s ≡ stage.Run b → plan ≡ Some (planned.Run p) → ⊥) →
      IsCountOf (StageHas operator unit s plan) 0
  stage_none s plan none = count_none (StageHas operator unit s plan) (λ n h. absurd (none h.0 h.1 h.2 h.3))

  pub stage_counted : (b : Block) (p : BlockPlan) (count n : ℕ) → n ≡ length b.operations → IsCountOf (BlockHas operator unit b p n) count →
      IsCountOf (StageHas operator unit (stage.Run b) (Some (planned.Run p))) count
  stage_counted b p count n all t =
      count_like (BlockHas operator unit b p n) (StageHas operator unit (stage.Run b) (Some (planned.Run p))) count
      (λ v h. (b, p, refl, refl, (h.0, h.1, h.3, h.4)))
      (λ v h.
      let e : h.0 ≡ b = (let f = h.2 in cc) in
      let g : h.1 ≡ p = (let f = h.3 in cc) in
      let there : slice_get b.operations h.4.0 ≡ Some h.4.1 = subst (λ (z : Block). slice_get z.operations h.4.0 ≡ Some h.4.1) e h.4.2 in (
        h.4.0,
        h.4.1,
        (let less = slice_get_within b.operations h.4.0 h.4.1 there in omega arith),
        there,
        subst (λ (z : BlockPlan). OperationHas operator unit z h.4.0 h.4.1 v) g h.4.3,
      ))
      t

  -- ---- the code

  pub code_none : (code : ThreadCode) (plan : Planned) → IsCountOf (CodeHas operator unit code plan 0) 0
  code_none code plan = count_none (CodeHas operator unit code plan 0) (λ n h. absurd (let e = h.2 in omega arith))

  pub code_more : (code : ThreadCode) (plan : Planned) (l so_far own count : ℕ) (s : Stage) → IsCountOf (CodeHas operator unit code plan l) so_far →
      slice_get code.stages l ≡ Some s →
      IsCountOf (StageHas operator unit s (slice_get plan.stages l)) own → so_far ≤ count → own ≤ count → (count ≡ so_far) ⊎ (count ≡ own) →
      IsCountOf (CodeHas operator unit code plan (l + 1)) count
  code_more code plan l so_far own count s t listed u left right one =
      count_both (CodeHas operator unit code plan l) (StageHas operator unit s (slice_get plan.stages l))
      (CodeHas operator unit code plan (l + 1)) so_far own count t u left right one
      (λ v h. (h.0, h.1, (let less = h.2 in omega arith), h.3, h.4))
      (λ v h. (l, s, omega arith, listed, h))
      (λ v h.
      ⊎_elim
      (λ (same : h.0 ≡ l).
      let e : h.1 ≡ s = (let there = h.3 in let at = ap (slice_get code.stages) same in cc) in
      inr (subst (λ (z : Stage). StageHas operator unit z (slice_get plan.stages l) v) e (subst (λ (z : ℕ). StageHas operator unit h.1 (slice_get plan.stages z) v) same h.4)))
      (λ (ne : h.0 ≢ l). inl (h.0, h.1, (let less = h.2 in omega arith), h.3, h.4))
      (cases_eq h.0 l))
