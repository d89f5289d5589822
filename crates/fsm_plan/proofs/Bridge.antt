-- An operation as plans of blocks see it, and as a schedule does.
use Rattle.std.proofs.Common.{◌≡◌, ℕ, zero, suc, ◌+◌, ◌<◌, Bool, true, false, ◌||◌, List, [], ◌∷◌, length, slice_get, get_or, Some, None, nat_lt, nat_eq}
use Rattle.std.proofs.Common.{if◌then◌else◌, refl, sym, ap, subst, ◌∙◌, inl, inr, arith, ℤ}
use Rattle.lists.proofs.Places.{get_there}
use Rattle.hls_ints.specs.Types.{IntegerType}
use Rattle.c_program.specs.declared.tree.BinaryOperator.{BinaryOperator}
use Rattle.c_program.specs.declared.tree.BinaryOperator.TheVariants.{Multiply as Times, Divide as Over, Remainder}
use Rattle.block_ir.specs.declared.operand.Source.{Source}
use Rattle.block_ir.specs.declared.operand.Source.TheVariants.{Constant as FromConstant, Variable as FromVariable, Value as FromValue}
use Rattle.block_ir.specs.declared.operand.Operand.{Operand as CodeOperand}
use Rattle.block_ir.specs.declared.block.Operation.{Operation as CodeOperation}
use Rattle.block_ir.specs.declared.block.Operation.TheVariants.{Unary, Binary, ReadGlobal, WriteGlobal, ReadArray, WriteArray}
use Rattle.block_ir.specs.declared.block.Final.{Final as CodeFinal}
use Rattle.block_ir.specs.declared.block.Next.{Next as CodeNext}
use Rattle.block_ir.specs.declared.block.Next.TheVariants.{Jump as CodeJump, Branch as CodeBranch}
use Rattle.planned_block.specs.Block.{Operand, no_operation, UsesIn, Uses}
use Rattle.planned_block.specs.Plan.{is_simple as seen_simple, target_of, NoTarget, OfGlobal, OfArray}
use Rattle.planned_block.specs.Table.{latency, uses_in, any_final as any_final_view, next_uses as next_uses_view}
use Rattle.plan_blocks.specs.View.{source_view, converted_to, operand_view, binary_kind, operation_view, operations_view, finals_view, next_view}
use Rattle.plan_blocks.specs.Alike.{SourceNeedsBelow, OperationNeedsBelow, EachNeedsEarlier}
use Rattle.plan_blocks.proofs.OrderedView.{needs_converted}
use Rattle.op_graph.specs.declared.node.Kind.TheVariants.{Global, Array}
use Rattle.op_graph.specs.Graph.{operator_kind, value_below, node_of, nodes_from, nodes_of, no_node, is_simple, latency_of, UsesValue, UseEarlier}
use Rattle.op_graph.proofs.NodeList.{uses_below}
use Rattle.register_binding.specs.Registers.{is_operand, uses_value}
use Rattle.register_binding.specs.Used.{is_value, any_final, next_uses}

-- ---- the lists

pub view_at : (os : List CodeOperation) (k : ℕ) (o : CodeOperation) → slice_get os k ≡ Some o → get_or (operations_view os) k no_operation ≡ operation_view o
view_at [] k o e = absurd cc
view_at (x ∷ os) zero o e = let same : x ≡ o = cc in ap operation_view same
view_at (x ∷ os) (suc k) o e = view_at os k o e

node_from : (os : List CodeOperation) (m k : ℕ) (o : CodeOperation) → slice_get os k ≡ Some o → get_or (nodes_from m os) k no_node ≡ node_of (m + k) o
node_from [] m k o e = absurd cc
node_from (x ∷ os) m zero o e =
    let same : x ≡ o = cc in
    let n : m ≡ m + 0 = omega arith in
    ap (λ (z : CodeOperation). node_of m z) same ∙ ap (λ (z : ℕ). node_of z o) n
node_from (x ∷ os) m (suc k) o e =
    let n : suc m + k ≡ m + suc k = omega arith in
    node_from os (suc m) k o e ∙ ap (λ (z : ℕ). node_of z o) n

pub node_at : (os : List CodeOperation) (k : ℕ) (o : CodeOperation) → slice_get os k ≡ Some o → get_or (nodes_of os) k no_node ≡ node_of k o
node_at os k o e = let n : 0 + k ≡ k = omega arith in node_from os 0 k o e ∙ ap (λ (z : ℕ). node_of z o) n

length-from : (os : List CodeOperation) (m : ℕ) → length (nodes_from m os) ≡ length os
length-from [] m = refl
length-from (x ∷ os) m = ap suc (length-from os (suc m))

pub length-nodes : (os : List CodeOperation) → length (nodes_of os) ≡ length os
length-nodes os = length-from os 0

needs_from : (os : List CodeOperation) (m k : ℕ) (o : CodeOperation) → EachNeedsEarlier m os → slice_get os k ≡ Some o → OperationNeedsBelow (m + k) o
needs_from [] m k o needs e = absurd cc
needs_from (x ∷ os) m zero o needs e =
    let same : x ≡ o = cc in
    let n : m ≡ m + 0 = omega arith in
    subst (λ (z : ℕ). OperationNeedsBelow z o) n (subst (λ (z : CodeOperation). OperationNeedsBelow m z) same needs.0)
needs_from (x ∷ os) m (suc k) o needs e =
    let n : suc m + k ≡ m + suc k = omega arith in
    subst (λ (z : ℕ). OperationNeedsBelow z o) n (needs_from os (suc m) k o needs.1 e)

pub needs_at : (os : List CodeOperation) (k : ℕ) (o : CodeOperation) → EachNeedsEarlier 0 os → slice_get os k ≡ Some o → OperationNeedsBelow k o
needs_at os k o needs e = let n : 0 + k ≡ k = omega arith in subst (λ (z : ℕ). OperationNeedsBelow z o) n (needs_from os 0 k o needs e)

-- ---- kinds

operator_simple : (operator : BinaryOperator) (f : ℤ → ℤ → ℤ) (ty : IntegerType) → seen_simple (binary_kind operator f) ≡ is_simple (operator_kind operator ty)
operator_simple Times f ty = refl
operator_simple Over f ty = refl
operator_simple Remainder f ty = refl
operator_simple _ f ty = refl

pub simple_is : (o : CodeOperation) (k : ℕ) → seen_simple (operation_view o).kind ≡ is_simple (node_of k o).kind
simple_is (Unary operator ty a) k = refl
simple_is (Binary operator ty a b) k = operator_simple operator _ ty
simple_is (ReadGlobal x n a) k = refl
simple_is (WriteGlobal x n a b) k = refl
simple_is (ReadArray x n a) k = refl
simple_is (WriteArray x n a b) k = refl

operator_latency : (operator : BinaryOperator) (f : ℤ → ℤ → ℤ) (ty : IntegerType) → latency (binary_kind operator f) ≡ latency_of (operator_kind operator ty)
operator_latency Times f ty = refl
operator_latency Over f ty = refl
operator_latency Remainder f ty = refl
operator_latency _ f ty = refl

pub latency_is : (o : CodeOperation) (k : ℕ) → latency (operation_view o).kind ≡ latency_of (node_of k o).kind
latency_is (Unary operator ty a) k = refl
latency_is (Binary operator ty a b) k = operator_latency operator _ ty
latency_is (ReadGlobal x n a) k = refl
latency_is (WriteGlobal x n a b) k = refl
latency_is (ReadArray x n a) k = refl
latency_is (WriteArray x n a b) k = refl

no_target : (operator : BinaryOperator) (f : ℤ → ℤ → ℤ) → target_of (binary_kind operator f) ≡ NoTarget
no_target Times f = refl
no_target Over f = refl
no_target Remainder f = refl
no_target _ f = refl

pub global_is : (o : CodeOperation) (k x : ℕ) (w : Bool) → target_of (operation_view o).kind ≡ OfGlobal x w → (node_of k o).kind ≡ Global x w
global_is (Unary operator ty a) k x w e = absurd cc
global_is (Binary operator ty a b) k x w e = let n : NoTarget ≡ OfGlobal x w = sym (no_target operator _) ∙ e in absurd cc
global_is (ReadGlobal y n a) k x w e = let p : y ≡ x = cc in let q : false ≡ w = cc in ap (λ (z : ℕ). Global z false) p ∙ ap (λ (z : Bool). Global x z) q
global_is (WriteGlobal y n a b) k x w e = let p : y ≡ x = cc in let q : true ≡ w = cc in ap (λ (z : ℕ). Global z true) p ∙ ap (λ (z : Bool). Global x z) q
global_is (ReadArray y n a) k x w e = absurd cc
global_is (WriteArray y n a b) k x w e = absurd cc

pub array_is : (o : CodeOperation) (k x : ℕ) (w : Bool) → target_of (operation_view o).kind ≡ OfArray x w → (node_of k o).kind ≡ Array x w
array_is (Unary operator ty a) k x w e = absurd cc
array_is (Binary operator ty a b) k x w e = let n : NoTarget ≡ OfArray x w = sym (no_target operator _) ∙ e in absurd cc
array_is (ReadGlobal y n a) k x w e = absurd cc
array_is (WriteGlobal y n a b) k x w e = absurd cc
array_is (ReadArray y n a) k x w e = let p : y ≡ x = cc in let q : false ≡ w = cc in ap (λ (z : ℕ). Array z false) p ∙ ap (λ (z : Bool). Array x z) q
array_is (WriteArray y n a b) k x w e = let p : y ≡ x = cc in let q : true ≡ w = cc in ap (λ (z : ℕ). Array z true) p ∙ ap (λ (z : Bool). Array x z) q

-- ---- operands: conversions do not matter for what is used

uses_converted : (types : List IntegerType) (o : Operand) (k : ℕ) → uses_in (converted_to types o) k ≡ uses_in o k
uses_converted [] o k = refl
uses_converted (ty ∷ types) o k = uses_converted types _ k

value_is : (j k i : ℕ) → j ≡ i → i < k → (if nat_lt j k then Some j else None) ≡ Some i
value_is j k i e l =
    let b : nat_lt j k ≡ true = grind arith in
    ap (λ (z : Bool). if z then Some j else None) b ∙ ap Some e

source_uses : (s : Source) (k i : ℕ) → UsesIn (source_view s) i → i < k → value_below k s ≡ Some i
source_uses (FromConstant ty v) k i u l = absurd u
source_uses (FromVariable x ty) k i u l = absurd u
source_uses (FromValue j ty) k i u l = value_is j k i u l

operand_uses : (a : CodeOperand) (k i : ℕ) → UsesIn (operand_view a) i → i < k → value_below k a.source ≡ Some i
operand_uses a k i u l = source_uses a.source k i (needs_converted a.conversions (source_view a.source) i u) l

-- an operation uses the value of an earlier one
pub uses_is : (o : CodeOperation) (k i : ℕ) → Uses (operation_view o) i → i < k → UsesValue (node_of k o) i
uses_is (Unary operator ty a) k i (inl u) l = inl (operand_uses a k i u l)
uses_is (Unary operator ty a) k i (inr u) l = absurd u
uses_is (Binary operator ty a b) k i (inl u) l = inl (operand_uses a k i u l)
uses_is (Binary operator ty a b) k i (inr u) l = inr (operand_uses b k i u l)
uses_is (ReadGlobal x n a) k i (inl u) l = inl (operand_uses a k i u l)
uses_is (ReadGlobal x n a) k i (inr u) l = absurd u
uses_is (WriteGlobal x n a b) k i (inl u) l = inl (operand_uses a k i u l)
uses_is (WriteGlobal x n a b) k i (inr u) l = inr (operand_uses b k i u l)
uses_is (ReadArray x n a) k i (inl u) l = inl (operand_uses a k i u l)
uses_is (ReadArray x n a) k i (inr u) l = absurd u
uses_is (WriteArray x n a b) k i (inl u) l = inl (operand_uses a k i u l)
uses_is (WriteArray x n a b) k i (inr u) l = inr (operand_uses b k i u l)

source_test : (s : Source) (k i : ℕ) → SourceNeedsBelow k s → uses_in (source_view s) i ≡ is_operand (value_below k s) i
source_test (FromConstant ty v) k i l = refl
source_test (FromVariable x ty) k i l = refl
source_test (FromValue j ty) k i l =
    let b : nat_lt j k ≡ true = grind arith in
    let e : nat_eq j i ≡ nat_eq i j = grind arith in
    e ∙ sym (ap (λ (z : Bool). is_operand (if z then Some j else None) i) b)

operand_test : (a : CodeOperand) (k i : ℕ) → SourceNeedsBelow k a.source → uses_in (operand_view a) i ≡ is_operand (value_below k a.source) i
operand_test a k i l = uses_converted a.conversions (source_view a.source) i ∙ source_test a.source k i l

pub uses_test : (o : CodeOperation) (k i : ℕ) → OperationNeedsBelow k o → (uses_in (operation_view o).left i || uses_in (operation_view o).right i) ≡ uses_value (node_of k o) i
uses_test (Unary operator ty a) k i l = ap (λ (b : Bool). b || false) (operand_test a k i l)
uses_test (Binary operator ty a b) k i l =
    ap (λ (z : Bool). z || uses_in (operand_view b) i) (operand_test a k i l.0) ∙ ap (λ (z : Bool). is_operand (value_below k a.source) i || z) (operand_test b k i l.1)
uses_test (ReadGlobal x n a) k i l = ap (λ (b : Bool). b || false) (operand_test a k i l)
uses_test (WriteGlobal x n a b) k i l =
    ap (λ (z : Bool). z || uses_in (operand_view b) i) (operand_test a k i l.0) ∙ ap (λ (z : Bool). is_operand (value_below k a.source) i || z) (operand_test b k i l.1)
uses_test (ReadArray x n a) k i l = ap (λ (b : Bool). b || false) (operand_test a k i l)
uses_test (WriteArray x n a b) k i l =
    ap (λ (z : Bool). z || uses_in (operand_view b) i) (operand_test a k i l.0) ∙ ap (λ (z : Bool). is_operand (value_below k a.source) i || z) (operand_test b k i l.1)

source_value_test : (s : Source) (i : ℕ) → uses_in (source_view s) i ≡ is_value s i
source_value_test (FromConstant ty v) i = refl
source_value_test (FromVariable x ty) i = refl
source_value_test (FromValue j ty) i = refl

operand_value_test : (a : CodeOperand) (i : ℕ) → uses_in (operand_view a) i ≡ is_value a.source i
operand_value_test a i = uses_converted a.conversions (source_view a.source) i ∙ source_value_test a.source i

pub finals_test : (fs : List CodeFinal) (i : ℕ) → any_final_view (finals_view fs) i ≡ any_final fs i
finals_test [] i = refl
finals_test (f ∷ fs) i =
    ap (λ (z : Bool). z || any_final_view (finals_view fs) i) (operand_value_test f.value i) ∙ ap (λ (z : Bool). is_value f.value.source i || z) (finals_test fs i)

pub next_test : (next : CodeNext) (i : ℕ) → next_uses_view (next_view next) i ≡ next_uses next i
next_test (CodeJump l) i = refl
next_test (CodeBranch test l m) i = operand_value_test test i

-- ---- an operation uses the values of earlier ones alone

pub use_earlier : (os : List CodeOperation) → UseEarlier (nodes_of os)
use_earlier os j i l u =
    let n = length-nodes os in
    let w = get_there os j (omega arith) in
    let f = node_at os j w.0 w.1 in
    uses_below w.0 j i (rw f at u)
