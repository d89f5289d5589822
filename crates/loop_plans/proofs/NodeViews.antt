-- An operation as plans of blocks see it, and as a schedule does.
use Rattle.std.proofs.Common.{◌≡◌, ℕ, zero, suc, ◌+◌, ◌<◌, Bool, true, false, List, [], ◌∷◌, length, slice_get, get_or, Some, None, nat_lt}
use Rattle.std.proofs.Common.{if◌then◌else◌, refl, sym, ap, ◌∙◌, inl, inr, arith, ℤ}
use Rattle.hls_ints.specs.Types.{IntegerType}
use Rattle.c_program.specs.declared.tree.BinaryOperator.{BinaryOperator}
use Rattle.c_program.specs.declared.tree.BinaryOperator.TheVariants.{Multiply as Times, Divide as Over, Remainder}
use Rattle.block_ir.specs.declared.operand.Source.{Source}
use Rattle.block_ir.specs.declared.operand.Source.TheVariants.{Constant as FromConstant, Variable as FromVariable, Value as FromValue}
use Rattle.block_ir.specs.declared.operand.Operand.{Operand as CodeOperand}
use Rattle.block_ir.specs.declared.block.Operation.{Operation as CodeOperation}
use Rattle.block_ir.specs.declared.block.Operation.TheVariants.{Unary, Binary, ReadGlobal, WriteGlobal, ReadArray, WriteArray}
use Rattle.planned_block.specs.Block.{no_operation, UsesIn, Uses}
use Rattle.planned_block.specs.Plan.{is_simple as seen_simple, target_of, NoTarget, OfArray}
use Rattle.planned_block.specs.Table.{latency}
use Rattle.plan_blocks.specs.View.{source_view, operand_view, binary_kind, operation_view, operations_view}
use Rattle.plan_blocks.proofs.OrderedView.{needs_converted}
use Rattle.op_graph.specs.declared.node.Kind.TheVariants.{Array}
use Rattle.op_graph.specs.Graph.{operator_kind, value_below, node_of, nodes_from, nodes_of, no_node, is_simple, latency_of, UsesValue}

pub view_at : (os : List CodeOperation) (k : ℕ) (o : CodeOperation) → slice_get os k ≡ Some o → get_or (operations_view os) k no_operation ≡ operation_view o
view_at [] k o e = absurd cc
view_at (x ∷ os) zero o e = let same : x ≡ o = cc in ap operation_view same
view_at (x ∷ os) (suc k) o e = view_at os k o e

node_from : (os : List CodeOperation) (m k : ℕ) (o : CodeOperation) → slice_get os k ≡ Some o → get_or (nodes_from m os) k no_node ≡ node_of (m + k) o
node_from [] m k o e = absurd cc
node_from (x ∷ os) m zero o e =
    let same : x ≡ o = cc in
    let n : m ≡ m + 0 = omega arith in
    ap (λ (z : CodeOperation). node_of m z) same ∙ ap (λ (z : ℕ). node_of z o) n
node_from (x ∷ os) m (suc k) o e =
    let n : suc m + k ≡ m + suc k = omega arith in
    node_from os (suc m) k o e ∙ ap (λ (z : ℕ). node_of z o) n

pub node_at : (os : List CodeOperation) (k : ℕ) (o : CodeOperation) → slice_get os k ≡ Some o → get_or (nodes_of os) k no_node ≡ node_of k o
node_at os k o e = let n : 0 + k ≡ k = omega arith in node_from os 0 k o e ∙ ap (λ (z : ℕ). node_of z o) n

length-from : (os : List CodeOperation) (m : ℕ) → length (nodes_from m os) ≡ length os
length-from [] m = refl
length-from (x ∷ os) m = ap suc (length-from os (suc m))

pub length-nodes : (os : List CodeOperation) → length (nodes_of os) ≡ length os
length-nodes os = length-from os 0

operator_simple : (operator : BinaryOperator) (f : ℤ → ℤ → ℤ) (ty : IntegerType) → seen_simple (binary_kind operator f) ≡ is_simple (operator_kind operator ty)
operator_simple Times f ty = refl
operator_simple Over f ty = refl
operator_simple Remainder f ty = refl
operator_simple _ f ty = refl

pub simple_is : (o : CodeOperation) (k : ℕ) → seen_simple (operation_view o).kind ≡ is_simple (node_of k o).kind
simple_is (Unary operator ty a) k = refl
simple_is (Binary operator ty a b) k = operator_simple operator _ ty
simple_is (ReadGlobal x n a) k = refl
simple_is (WriteGlobal x n a b) k = refl
simple_is (ReadArray x n a) k = refl
simple_is (WriteArray x n a b) k = refl

operator_latency : (operator : BinaryOperator) (f : ℤ → ℤ → ℤ) (ty : IntegerType) → latency (binary_kind operator f) ≡ latency_of (operator_kind operator ty)
operator_latency Times f ty = refl
operator_latency Over f ty = refl
operator_latency Remainder f ty = refl
operator_latency _ f ty = refl

pub latency_is : (o : CodeOperation) (k : ℕ) → latency (operation_view o).kind ≡ latency_of (node_of k o).kind
latency_is (Unary operator ty a) k = refl
latency_is (Binary operator ty a b) k = operator_latency operator _ ty
latency_is (ReadGlobal x n a) k = refl
latency_is (WriteGlobal x n a b) k = refl
latency_is (ReadArray x n a) k = refl
latency_is (WriteArray x n a b) k = refl

no_target : (operator : BinaryOperator) (f : ℤ → ℤ → ℤ) → target_of (binary_kind operator f) ≡ NoTarget
no_target Times f = refl
no_target Over f = refl
no_target Remainder f = refl
no_target _ f = refl

pub array_is : (o : CodeOperation) (k x : ℕ) (w : Bool) → target_of (operation_view o).kind ≡ OfArray x w → (node_of k o).kind ≡ Array x w
array_is (Unary operator ty a) k x w e = absurd cc
array_is (Binary operator ty a b) k x w e = let n : NoTarget ≡ OfArray x w = sym (no_target operator _) ∙ e in absurd cc
array_is (ReadGlobal y n a) k x w e = absurd cc
array_is (WriteGlobal y n a b) k x w e = absurd cc
array_is (ReadArray y n a) k x w e = let p : y ≡ x = cc in let q : false ≡ w = cc in ap (λ (z : ℕ). Array z false) p ∙ ap (λ (z : Bool). Array x z) q
array_is (WriteArray y n a b) k x w e = let p : y ≡ x = cc in let q : true ≡ w = cc in ap (λ (z : ℕ). Array z true) p ∙ ap (λ (z : Bool). Array x z) q

value_is : (j k i : ℕ) → j ≡ i → i < k → (if nat_lt j k then Some j else None) ≡ Some i
value_is j k i e l =
    let b : nat_lt j k ≡ true = grind arith in
    ap (λ (z : Bool). if z then Some j else None) b ∙ ap Some e

source_uses : (s : Source) (k i : ℕ) → UsesIn (source_view s) i → i < k → value_below k s ≡ Some i
source_uses (FromConstant ty v) k i u l = absurd u
source_uses (FromVariable x ty) k i u l = absurd u
source_uses (FromValue j ty) k i u l = value_is j k i u l

operand_uses : (a : CodeOperand) (k i : ℕ) → UsesIn (operand_view a) i → i < k → value_below k a.source ≡ Some i
operand_uses a k i u l = source_uses a.source k i (needs_converted a.conversions (source_view a.source) i u) l

pub uses_is : (o : CodeOperation) (k i : ℕ) → Uses (operation_view o) i → i < k → UsesValue (node_of k o) i
uses_is (Unary operator ty a) k i (inl u) l = inl (operand_uses a k i u l)
uses_is (Unary operator ty a) k i (inr u) l = absurd u
uses_is (Binary operator ty a b) k i (inl u) l = inl (operand_uses a k i u l)
uses_is (Binary operator ty a b) k i (inr u) l = inr (operand_uses b k i u l)
uses_is (ReadGlobal x n a) k i (inl u) l = inl (operand_uses a k i u l)
uses_is (ReadGlobal x n a) k i (inr u) l = absurd u
uses_is (WriteGlobal x n a b) k i (inl u) l = inl (operand_uses a k i u l)
uses_is (WriteGlobal x n a b) k i (inr u) l = inr (operand_uses b k i u l)
uses_is (ReadArray x n a) k i (inl u) l = inl (operand_uses a k i u l)
uses_is (ReadArray x n a) k i (inr u) l = absurd u
uses_is (WriteArray x n a b) k i (inl u) l = inl (operand_uses a k i u l)
uses_is (WriteArray x n a b) k i (inr u) l = inr (operand_uses b k i u l)
