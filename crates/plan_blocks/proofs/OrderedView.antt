-- What is in order in the code is in order in its view.
use Rattle.std.specs.Prelude.{slice_index_or}
use Rattle.std.proofs.Common.{◌≡◌, ℕ, zero, suc, ◌+◌, ◌<◌, List, [], ◌∷◌, length, subst, ⊎_elim, arith}
use Rattle.block_ir.specs.Types.{IntegerType, wrapped}
use Rattle.block_ir.specs.declared.operand.Source.{Source}
use Rattle.block_ir.specs.declared.operand.Source.TheVariants.{Constant as FromConstant, Variable as FromVariable, Value as FromValue}
use Rattle.block_ir.specs.declared.operand.Operand.{Operand as CodeOperand}
use Rattle.block_ir.specs.declared.block.Operation.{Operation as CodeOperation}
use Rattle.block_ir.specs.declared.block.Operation.TheVariants.{Unary, Binary, ReadGlobal, WriteGlobal, ReadArray, WriteArray}
use Rattle.block_ir.specs.declared.block.Final.{Final as CodeFinal}
use Rattle.block_ir.specs.declared.block.Next.{Next as CodeNext}
use Rattle.block_ir.specs.declared.block.Next.TheVariants.{Jump as CodeJump, Branch as CodeBranch}
use Rattle.block_ir.specs.declared.block.Block.{Block as CodeBlock}
use Rattle.planned_block.specs.Block.{Operand, Through, Final, Branch, no_operation, Uses, UsesIn, IsAmong, IsOrdered}
use Rattle.plan_blocks.specs.View.{source_view, converted_to, operand_view, operation_view, operations_view, finals_view, next_view, planned_view}
use Rattle.plan_blocks.specs.Alike.{SourceNeedsBelow, NeedsBelow, OperationNeedsBelow, EachNeedsEarlier, FinalsNeedBelow, NextNeedsBelow, IsInOrder}
use Rattle.plan_blocks.proofs.ViewRuns.{size-view}

pub needs_converted : (types : List IntegerType) (o : Operand) (j : ℕ) → UsesIn (converted_to types o) j → UsesIn o j
needs_converted [] o j u = u
needs_converted (ty ∷ types) o j u = needs_converted types (Through (wrapped ty) o) j u

source_below : (n : ℕ) (o : Source) (j : ℕ) → SourceNeedsBelow n o → UsesIn (source_view o) j → j < n
source_below n (FromConstant ty v) j below u = absurd u
source_below n (FromVariable x ty) j below u = absurd u
source_below n (FromValue k ty) j below u = subst (λ i. i < n) u below

operand_below : (n : ℕ) (o : CodeOperand) (j : ℕ) → NeedsBelow n o → UsesIn (operand_view o) j → j < n
operand_below n o j below u = source_below n o.source j below (needs_converted o.conversions (source_view o.source) j u)

operation_below : (n : ℕ) (o : CodeOperation) (j : ℕ) → OperationNeedsBelow n o → Uses (operation_view o) j → j < n
operation_below n (Unary operator ty a) j below u = ⊎_elim (λ v. operand_below n a j below v) (λ v. absurd v) u
operation_below n (Binary operator ty a b) j below u = ⊎_elim (λ v. operand_below n a j below.0 v) (λ v. operand_below n b j below.1 v) u
operation_below n (ReadGlobal x size i) j below u = ⊎_elim (λ v. operand_below n i j below v) (λ v. absurd v) u
operation_below n (WriteGlobal x size i a) j below u = ⊎_elim (λ v. operand_below n i j below.0 v) (λ v. operand_below n a j below.1 v) u
operation_below n (ReadArray x size i) j below u = ⊎_elim (λ v. operand_below n i j below v) (λ v. absurd v) u
operation_below n (WriteArray x size i a) j below u = ⊎_elim (λ v. operand_below n i j below.0 v) (λ v. operand_below n a j below.1 v) u

each_below : (os : List CodeOperation) (n j k : ℕ) → EachNeedsEarlier n os → k < length (operations_view os) → Uses (slice_index_or (operations_view os) k no_operation) j → j < n + k
each_below [] n j k below lt u = absurd (omega arith)
each_below (o ∷ os) n j zero below lt u = let less = operation_below n o j below.0 u in omega arith
each_below (o ∷ os) n j (suc k) below lt u = let less = each_below os (suc n) j k below.1 (omega arith) u in omega arith

final_below : (fs : List CodeFinal) (n j : ℕ) → FinalsNeedBelow n fs → (f : Final) → IsAmong (finals_view fs) f → UsesIn f.value j → j < n
final_below [] n j below f among u = absurd among
final_below (g ∷ fs) n j below f among u =
    ⊎_elim
    (λ e. operand_below n g.value j below.0 (subst (λ (h : Final). UsesIn h.value j) e u))
    (λ t. final_below fs n j below.1 f t u)
    among

next_below : (next : CodeNext) (n j : ℕ) → NextNeedsBelow n next → (test : Operand) (l k : ℕ) → next_view next ≡ Branch test l k → UsesIn test j → j < n
next_below (CodeJump to) n j below test l k e u = absurd cc
next_below (CodeBranch t x y) n j below test l k e u = operand_below n t j below (let same : test ≡ operand_view t = cc in subst (λ o. UsesIn o j) same u)

pub view_ordered : (b : CodeBlock) → IsInOrder b → IsOrdered (planned_view b)
view_ordered b order = record {
  earlier = λ j k lt u. let less = each_below b.operations 0 j k order.operations lt u in omega arith;
  final = λ k u.
      let same = size-view b.operations in
      let below : k < length b.operations =
      ⊎_elim (λ f. final_below b.finals (length b.operations) k order.finals f.0 f.1 f.2) (λ t. next_below b.next (length b.operations) k order.next t.0 t.1 t.2 t.3 t.4) u in
      omega arith;
}
