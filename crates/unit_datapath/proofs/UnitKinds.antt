-- What operations of a kind of units have in common.
use Rattle.std.proofs.Common.{◌≡◌, ℕ, zero, suc, nat_eq, Bool, true, false, not, ◌&&◌, if◌then◌else◌, List, [], ◌∷◌, Some, refl, sym, ap, ◌∙◌, arith, slice_get}
use Rattle.std.specs.Prelude.{slice_index_or, ℤ}
use Rattle.std.specs.Bool.{beq}
use Rattle.std.proofs.lemmas.Bool.{eqb-true, not-true, and_from, and_parts, eq-eqb}
use Rattle.std.specs.Cmp.{booleans_Decides}
use Rattle.hls_ints.specs.Types.{IntegerType, width_of}
use Rattle.c_program.specs.declared.tree.BinaryOperator.{BinaryOperator}
use Rattle.c_program.specs.declared.tree.BinaryOperator.TheVariants as operator
use Rattle.block_ir.specs.declared.block.Operation.{Operation}
use Rattle.block_ir.specs.declared.block.Operation.TheVariants.{Unary, Binary, ReadGlobal, WriteGlobal, ReadArray, WriteArray}
use Rattle.op_graph.specs.declared.node.Kind.{Kind}
use Rattle.op_graph.specs.declared.node.Kind.TheVariants.{Multiply, Divide}
use Rattle.op_graph.specs.Graph.{node_of, nodes_from, nodes_of, no_node, kind_at, same_kind, operator_kind}
use Rattle.planned_block.specs.Plan.{is_simple}
use Rattle.plan_blocks.specs.View.{binary_kind}
use Rattle.block_ir.specs.declared.operand.Operand.{Operand}
use Rattle.block_datapath.specs.Units.{same_type, unit_type, has_constant}
use Rattle.unit_datapath.specs.declared.kinds.UnitKind.{UnitKind}
use Rattle.unit_datapath.specs.Kinds.{is_of, is_shared, is_work}

-- ---- kinds

pub same_width : (s t : IntegerType) → same_type s t ≡ true → width_of s ≡ width_of t
same_width s t e = eqb-true (width_of s) (width_of t) (and_parts (nat_eq (width_of s) (width_of t)) (beq s.signed t.signed) e).0

pub same_sign : (s t : IntegerType) → same_type s t ≡ true → s.signed ≡ t.signed
same_sign s t e = (booleans_Decides s.signed t.signed).0 (and_parts (nat_eq (width_of s) (width_of t)) (beq s.signed t.signed) e).1

pub type_same : (ty : IntegerType) → same_type ty ty ≡ true
type_same ty = and_from (nat_eq (width_of ty) (width_of ty)) (beq ty.signed ty.signed) (eq-eqb (width_of ty) (width_of ty) refl) ((booleans_Decides ty.signed ty.signed).1 refl)

-- what is no operator on two operands shares no unit
pub no_work : (kind : UnitKind) (o : Operation) → ((own : BinaryOperator) (ty : IntegerType) (a b : Operand) → o ≡ Binary own ty a b → ⊥) → is_work kind o ≡ false
no_work kind (Unary own ty a) other = refl
no_work kind (Binary own ty a b) other = absurd (other own ty a b refl)
no_work kind (ReadGlobal x n i) other = refl
no_work kind (WriteGlobal x n i a) other = refl
no_work kind (ReadArray x n i) other = refl
no_work kind (WriteArray x n i a) other = refl

-- the kind of the operations of a kind of units
abbrev node_kind : UnitKind → Kind
node_kind kind = if kind.divides then Divide (width_of kind.ty) kind.ty.signed else Multiply (width_of kind.ty)

node_shared : (kind : UnitKind) (t : Bool) → kind.divides ≡ t → same_kind (node_kind kind) (node_kind kind) ≡ true
node_shared kind true e =
    ap (λ (z : Bool). same_kind (if z then Divide (width_of kind.ty) kind.ty.signed else Multiply (width_of kind.ty))
    (if z then Divide (width_of kind.ty) kind.ty.signed else Multiply
    (width_of kind.ty))) e
    ∙ and_from (nat_eq (width_of kind.ty) (width_of kind.ty)) (beq kind.ty.signed kind.ty.signed)
    (eq-eqb (width_of kind.ty) (width_of kind.ty) refl) ((booleans_Decides kind.ty.signed kind.ty.signed).1 refl)
node_shared kind false e =
    ap (λ (z : Bool). same_kind (if z then Divide (width_of kind.ty) kind.ty.signed else Multiply (width_of kind.ty))
    (if z then Divide (width_of kind.ty) kind.ty.signed else Multiply
    (width_of kind.ty))) e
    ∙ eq-eqb (width_of kind.ty) (width_of kind.ty) refl

product_kind : (kind : UnitKind) (ty : IntegerType) → is_of kind operator.Multiply ty ≡ true → Multiply (width_of ty) ≡ node_kind kind
product_kind kind ty e =
    let no : kind.divides ≡ false = not-true kind.divides (and_parts (not kind.divides) (same_type kind.ty (unit_type operator.Multiply ty)) e).0 in
    let wide = same_width kind.ty (unit_type operator.Multiply ty) (and_parts (not kind.divides) (same_type kind.ty (unit_type operator.Multiply ty)) e).1 in
    ap Multiply (sym wide) ∙ sym (ap (λ (z : Bool). if z then Divide (width_of kind.ty) kind.ty.signed else Multiply (width_of kind.ty)) no)

quotient_kind : (kind : UnitKind) (ty : IntegerType) → (kind.divides && same_type kind.ty ty) ≡ true → Divide (width_of ty) ty.signed ≡ node_kind kind
quotient_kind kind ty e =
    let yes : kind.divides ≡ true = (and_parts kind.divides (same_type kind.ty ty) e).0 in
    let same : same_type kind.ty ty ≡ true = (and_parts kind.divides (same_type kind.ty ty) e).1 in
    ap (λ (w : ℕ). Divide w ty.signed) (sym (same_width kind.ty ty same)) ∙ ap (Divide (width_of kind.ty)) (sym (same_sign kind.ty ty same))
    ∙ sym (ap (λ (z : Bool). if z then Divide (width_of kind.ty) kind.ty.signed else Multiply (width_of kind.ty)) yes)

operator_is : (kind : UnitKind) (o : BinaryOperator) (ty : IntegerType) → is_of kind o ty ≡ true → operator_kind o ty ≡ node_kind kind
operator_is kind operator.Multiply ty e = product_kind kind ty e
operator_is kind operator.Divide ty e = quotient_kind kind ty e
operator_is kind operator.Remainder ty e = quotient_kind kind ty e
operator_is kind operator.Add ty e = absurd cc
operator_is kind operator.Subtract ty e = absurd cc
operator_is kind operator.ShiftLeft ty e = absurd cc
operator_is kind operator.ShiftRight ty e = absurd cc
operator_is kind operator.Less ty e = absurd cc
operator_is kind operator.Greater ty e = absurd cc
operator_is kind operator.LessEqual ty e = absurd cc
operator_is kind operator.GreaterEqual ty e = absurd cc
operator_is kind operator.Equal ty e = absurd cc
operator_is kind operator.NotEqual ty e = absurd cc
operator_is kind operator.And ty e = absurd cc
operator_is kind operator.ExclusiveOr ty e = absurd cc
operator_is kind operator.InclusiveOr ty e = absurd cc

pub shared_of : (kind : UnitKind) (o : BinaryOperator) (ty : IntegerType) (a b : Operand) → is_shared kind o ty a b ≡ true → is_of kind o ty ≡ true
shared_of kind o ty a b e = (and_parts (is_of kind o ty) (not (has_constant a b)) e).0

pub shared_from : (kind : UnitKind) (o : BinaryOperator) (ty : IntegerType) (a b : Operand) → is_of kind o ty ≡ true → has_constant a b ≡ false → is_shared kind o ty a b ≡ true
shared_from kind o ty a b e f = and_from (is_of kind o ty) (not (has_constant a b)) e (ap not f)

work_is : (kind : UnitKind) (o : Operation) → is_work kind o ≡ true → (node_of 0 o).kind ≡ node_kind kind
work_is kind (Unary o ty a) e = absurd cc
work_is kind (Binary o ty a b) e = operator_is kind o ty (shared_of kind o ty a b e)
work_is kind (ReadGlobal x n i) e = absurd cc
work_is kind (WriteGlobal x n i a) e = absurd cc
work_is kind (ReadArray x n i) e = absurd cc
work_is kind (WriteArray x n i a) e = absurd cc

same_node : (n : ℕ) (o : Operation) → (node_of n o).kind ≡ (node_of 0 o).kind
same_node n (Unary o ty a) = refl
same_node n (Binary o ty a b) = refl
same_node n (ReadGlobal x l i) = refl
same_node n (WriteGlobal x l i a) = refl
same_node n (ReadArray x l i) = refl
same_node n (WriteArray x l i a) = refl

node_at : (os : List Operation) (n k : ℕ) (o : Operation) → slice_get os k ≡ Some o → (slice_index_or (nodes_from n os) k no_node).kind ≡ (node_of 0 o).kind
node_at [] n k o e = absurd cc
node_at (x ∷ os) n zero o e = same_node n x ∙ ap (λ (z : Operation). (node_of 0 z).kind) (let same : x ≡ o = cc in same)
node_at (x ∷ os) n (suc k) o e = node_at os (suc n) k o e

-- two operations of a kind of units share them
pub kinds_share : (kind : UnitKind) (os : List Operation) (j k : ℕ) (x y : Operation) → slice_get os j ≡ Some x → slice_get os k ≡ Some y → is_work kind x ≡ true →
    is_work kind y ≡ true →
    same_kind (kind_at (nodes_of os) j) (kind_at (nodes_of os) k) ≡ true
kinds_share kind os j k x y e f p q =
    ap (λ (z : Kind). same_kind z (kind_at (nodes_of os) k)) (node_at os 0 j x e ∙ work_is kind x p)
    ∙ ap (same_kind (node_kind kind)) (node_at os 0 k y f ∙ work_is kind y q)
    ∙ node_shared kind kind.divides refl

-- they take more than logic
pub slow_kind : (kind : UnitKind) (o : BinaryOperator) (ty : IntegerType) (f : ℤ → ℤ → ℤ) → is_of kind o ty ≡ true → is_simple (binary_kind o f) ≡ false
slow_kind kind operator.Multiply ty f e = refl
slow_kind kind operator.Divide ty f e = refl
slow_kind kind operator.Remainder ty f e = refl
slow_kind kind operator.Add ty f e = absurd cc
slow_kind kind operator.Subtract ty f e = absurd cc
slow_kind kind operator.ShiftLeft ty f e = absurd cc
slow_kind kind operator.ShiftRight ty f e = absurd cc
slow_kind kind operator.Less ty f e = absurd cc
slow_kind kind operator.Greater ty f e = absurd cc
slow_kind kind operator.LessEqual ty f e = absurd cc
slow_kind kind operator.GreaterEqual ty f e = absurd cc
slow_kind kind operator.Equal ty f e = absurd cc
slow_kind kind operator.NotEqual ty f e = absurd cc
slow_kind kind operator.And ty f e = absurd cc
slow_kind kind operator.ExclusiveOr ty f e = absurd cc
slow_kind kind operator.InclusiveOr ty f e = absurd cc
