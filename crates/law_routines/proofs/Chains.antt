-- The plans of typed code are short, and so are its chains.
use Rattle.std.proofs.Common.{◌≡◌, ℕ, zero, suc, ◌+◌, ◌*◌, ◌<◌, ◌≤◌, List, length, Option, Some, None, sym, ap, ◌∙◌, subst, arith, ℤ}
use Rattle.std.specs.Prelude.{slice_get, Bool, true, false, if◌then◌else◌}
use Rattle.plan_blocks.proofs.ViewRuns.{size-view}
use Rattle.c_program.specs.Tree.{Program}
use Rattle.c_program.specs.Weight.{weight}
use Rattle.block_ir.specs.declared.block.Block.{Block as CodeBlock}
use Rattle.block_ir.specs.declared.block.Operation.{Operation as CodeOperation}
use Rattle.block_ir.specs.declared.block.Next.{Next as CodeNext}
use Rattle.block_ir.specs.declared.block.Next.TheVariants as code_next
use Rattle.block_ir.specs.declared.code.Stage.{Stage}
use Rattle.block_ir.specs.declared.code.Stage.TheVariants as stage
use Rattle.block_ir.specs.declared.code.ThreadCode.{ThreadCode}
use Rattle.block_ir.specs.declared.plan.BlockPlan.{BlockPlan}
use Rattle.block_ir.specs.declared.plan.StagePlan.TheVariants as planned
use Rattle.block_ir.specs.declared.plan.Planned.{Planned}
use Rattle.planned_block.specs.Block.{Block, Operand, Kind, Simple, Multiply, Divide, BankRead, BankWrite, ArrayRead, ArrayWrite, operation_at, size, is_zero, leads_to}
use Rattle.planned_block.specs.Table.{latency, latencies_before}
use Rattle.planned_block.proofs.Tables.{sequential_short}
use Rattle.block_ir.specs.declared.operand.Operand.{Operand as CodeOperand}
use Rattle.plan_blocks.specs.View.{planned_view, next_view, operand_view}
use Rattle.planned_block.specs.Following.{own_latencies}
use Rattle.block_refine.specs.Threads.{block_at, plan_at}
use Rattle.plan_conditions.specs.Right.{IsRight, IsRightPlan}
use Rattle.plan_conditions.proofs.Stages.{right_plans_are_there}
use Rattle.law_routines.specs.Planned.{PlansAreSmall}
use Rattle.law_routines.specs.Plans.{stage_chain}
use Rattle.code_following.specs.Idle.{fall}
use Rattle.code_following.specs.Typed.{Types, types_of, most_operations, IsTypedNext, IsTypedBlock, IsTypedCode}
use Rattle.code_following.proofs.IdleStages.{fall_most, falls}

latency_most : (kind : Kind) → latency kind ≤ 8
latency_most (Simple f) = omega arith
latency_most (Multiply f) = omega arith
latency_most (Divide f) = omega arith
latency_most (BankRead x) = omega arith
latency_most (BankWrite x) = omega arith
latency_most (ArrayRead x) = omega arith
latency_most (ArrayWrite x) = omega arith

latencies_most : (b : Block) (n : ℕ) → latencies_before b n ≤ 8 * n
latencies_most b zero = omega arith
latencies_most b (suc n) = let rest = latencies_most b n in let one = latency_most (operation_at b n).kind in omega arith

-- what holds of both stages holds of where a comparison leads
leads_by : (Q : ℕ → Type 0) (test : CodeOperand) (nonzero zero_ : ℕ) (value : Operand → ℤ) → Q nonzero → Q zero_ → Q (leads_to value (next_view (code_next.Branch test nonzero zero_)))
leads_by Q test nonzero zero_ value at_nonzero at_zero = go (is_zero (value (operand_view test)))
  where
    go : (b : Bool) → Q (if b then zero_ else nonzero)
    go true = at_zero
    go false = at_nonzero

-- a block leads to one of n stages
pub goes_within : (T : Types) (n : ℕ) (before : List CodeOperation) (next : CodeNext) (value : Operand → ℤ) → IsTypedNext T n before next → leads_to value (next_view next) < n
goes_within T n before (code_next.Jump l) value h = h
goes_within T n before (code_next.Branch test l k) value h = leads_by (λ m. m < n) test l k value h.1 h.2

module _ (P : Program) (routine : ℕ) (code : ThreadCode) (plan : Planned) (typed : IsTypedCode P routine code) (is : IsRightPlan code plan) where
  pub typed_at : (l : ℕ) (b : CodeBlock) → slice_get code.stages l ≡ Some (stage.Run b) → IsTypedBlock (types_of P code) (length code.stages) (most_operations P code.stages) b
  typed_at l b at = typed.stages l (stage.Run b) at

  pub planned_at : (l : ℕ) (b : CodeBlock) → slice_get code.stages l ≡ Some (stage.Run b) → (p : BlockPlan) × (slice_get plan.stages l ≡ Some (planned.Run p)) × IsRight plan.registers b p
  planned_at l b at = right_plans_are_there code plan is l b at (typed_at l b at).few

  pub short : (l : ℕ) (o : Option Stage) → slice_get code.stages l ≡ o → (plan_at o (slice_get plan.stages l)).states ≤ own_latencies (block_at o)
  short l None at = omega arith
  short l (Some (stage.Act a next)) at = omega arith
  short l (Some (stage.Run b)) at =
      let p = planned_at l b at in
      let v = planned_view b in
      let most = sequential_short v in
      let brief = p.2.short in
      subst (λ q. (plan_at (Some (stage.Run b)) q).states ≤ own_latencies v) (sym p.1) (omega (arith, brief, most))

  -- a block has at most what its chain has
  pub holds : (l : ℕ) (o : Option Stage) → slice_get code.stages l ≡ o → own_latencies (block_at o) ≤ stage_chain P code.stages l
  holds l None at = omega arith
  holds l (Some (stage.Act a next)) at = omega arith
  holds l (Some (stage.Run b)) at =
      let v = planned_view b in
      let most = latencies_most v (size v) in
      let long = size-view b.operations in
      let few = (typed_at l b at).size in
      omega (arith, most, long, few)

  -- the chain of a block without steps has what it takes, and the chain of the stage after it, which is one of the code
  pub stepless : (l : ℕ) (o : Option Stage) → slice_get code.stages l ≡ o → 0 < (plan_at o (slice_get plan.stages l)).states → (block_at o).steps ≡ 0 → (value : Operand → ℤ) →
      own_latencies (block_at o) + stage_chain P code.stages (leads_to value (block_at o).next) ≤ stage_chain P code.stages l
  stepless l None at some none value = omega arith
  stepless l (Some (stage.Act a next)) at some none value = omega arith
  stepless l (Some (stage.Run b)) at some none value =
      let v = planned_view b in
      let is = typed.comparisons l b at none in
      let most = latencies_most v (size v) in
      let long = size-view b.operations in
      let one = is.one in
      let less = subst (λ (nx : CodeNext). fall code.stages (leads_to value (next_view nx)) < fall code.stages l) (sym is.next)
      (leads_by (λ k. fall code.stages k < fall code.stages l) is.test is.nonzero is.zero_ value (falls code.stages l b at none is.nonzero is.on_nonzero)
      (falls code.stages l b at none is.zero_ is.on_zero)) in
      omega (arith, most, long, one, less)

  -- of a chain are at most 32 for each unit of the weight
  pub low : (l : ℕ) → stage_chain P code.stages l ≤ 32 * weight P + 1
  low l = let most = fall_most code.stages l in let few = typed.few_idle in omega (arith, most, few)

pub plans_are_small : PlansAreSmall
plans_are_small P f code plan typed is l b p at here =
    let q = planned_at P f code plan typed is l b at in
    let v = planned_view b in
    let same : p ≡ q.0 = (let both : Some (planned.Run p) ≡ Some (planned.Run q.0) = sym here ∙ q.1 in cc) in
    let states : p.states ≡ q.0.states = ap (λ (z : BlockPlan). z.states) same in
    let brief = q.2.short in
    let most = sequential_short v in
    let sum = latencies_most v (size v) in
    let long = size-view b.operations in
    let few = (typed_at P f code plan typed is l b at).few in
    omega (arith, states, brief, most, sum, long, few)
