-- The nodes of a list of operations.
use Rattle.std.proofs.Common.{◌≡◌, ℕ, suc, zero, ◌+◌, ◌<◌, ◌≤◌, List, [], ◌∷◌, ◌++◌, length, take, slice_get, slice_index_or}
use Rattle.std.proofs.Common.{Some, None, Bool, true, false, nat_lt, if◌then◌else◌, refl, ap, sym, ◌∙◌, subst, inl, inr, arith, add-one}
use Rattle.std.proofs.lemmas.List.{take_all}
use Rattle.lists.proofs.Places.{take_next}
use Rattle.block_ir.specs.declared.operand.Source.{Source}
use Rattle.block_ir.specs.declared.operand.Source.TheVariants.{Constant, Variable, Value}
use Rattle.block_ir.specs.declared.block.Operation.{Operation}
use Rattle.block_ir.specs.declared.block.Operation.TheVariants.{Unary, Binary, ReadGlobal, WriteGlobal, ReadArray, WriteArray}
use Rattle.op_graph.specs.declared.node.Node.{Node}
use Rattle.op_graph.specs.Graph.{node_of, nodes_from, nodes_of, no_node, value_below, UsesValue, UseEarlier}

nodes-append : (k : ℕ) (os : List Operation) (o : Operation) → nodes_from k (os ++ o ∷ []) ≡ nodes_from k os ++ node_of (k + length os) o ∷ []
nodes-append k [] o = let e : k + 0 ≡ k = omega arith in ap (λ (n : ℕ). node_of n o ∷ []) (sym e)
nodes-append k (x ∷ os) o =
    let e : suc k + length os ≡ k + suc (length os) = omega arith in
    ap (λ (l : List Node). node_of k x ∷ l) (nodes-append (suc k) os o ∙ ap (λ (n : ℕ). nodes_from (suc k) os ++ node_of n o ∷ []) e)

length_taken : (os : List Operation) (i : ℕ) (o : Operation) → slice_get os i ≡ Some o → length (take i os) ≡ i
length_taken [] i o e = absurd cc
length_taken (x ∷ os) zero o e = refl
length_taken (x ∷ os) (suc i) o e = ap suc (length_taken os i o e)

-- one more operation
pub nodes_next : (os : List Operation) (i : ℕ) (o : Operation) (x y : List Node) → slice_get os i ≡ Some o → x ≡ nodes_of (take i os) → y ≡ x ++ node_of i o ∷ [] →
    y ≡ nodes_of (take (i + 1) os)
nodes_next os i o x y e f g =
    let n : 0 + length (take i os) ≡ i = omega (arith, length_taken os i o e) in
    let same : nodes_of (take (suc i) os) ≡ nodes_of (take i os) ++ node_of i o ∷ [] =
    ap nodes_of (take_next os i o e) ∙ nodes-append 0 (take i os) o ∙ ap (λ (m : ℕ). nodes_of (take i os) ++ node_of m o ∷ []) n in
    rw (add-one, same, g, f) refl

below_if : (b : Bool) (j k i : ℕ) → nat_lt j k ≡ b → (if b then Some j else None) ≡ Some i → i < k
below_if true j k i e f = let same : j ≡ i = cc in grind arith
below_if false j k i e f = absurd cc

value_is_below : (s : Source) (k i : ℕ) → value_below k s ≡ Some i → i < k
value_is_below (Constant ty v) k i e = absurd cc
value_is_below (Variable x ty) k i e = absurd cc
value_is_below (Value j ty) k i e = below_if (nat_lt j k) j k i refl e

pub uses_below : (o : Operation) (k i : ℕ) → UsesValue (node_of k o) i → i < k
uses_below (Unary operator ty a) k i (inl e) = value_is_below a.source k i e
uses_below (Unary operator ty a) k i (inr e) = absurd cc
uses_below (Binary operator ty a b) k i (inl e) = value_is_below a.source k i e
uses_below (Binary operator ty a b) k i (inr e) = value_is_below b.source k i e
uses_below (ReadGlobal x n a) k i (inl e) = value_is_below a.source k i e
uses_below (ReadGlobal x n a) k i (inr e) = absurd cc
uses_below (WriteGlobal x n a b) k i (inl e) = value_is_below a.source k i e
uses_below (WriteGlobal x n a b) k i (inr e) = value_is_below b.source k i e
uses_below (ReadArray x n a) k i (inl e) = value_is_below a.source k i e
uses_below (ReadArray x n a) k i (inr e) = absurd cc
uses_below (WriteArray x n a b) k i (inl e) = value_is_below a.source k i e
uses_below (WriteArray x n a b) k i (inr e) = value_is_below b.source k i e

earlier_from : (os : List Operation) (k j i : ℕ) → j < length (nodes_from k os) → UsesValue (slice_index_or (nodes_from k os) j no_node) i → i < k + j
earlier_from [] k j i l u = absurd (omega arith)
earlier_from (o ∷ os) k zero i l u = let h = uses_below o k i u in omega arith
earlier_from (o ∷ os) k (suc j) i l u = let h = earlier_from os (suc k) j i (omega arith) u in omega arith

pub use_earlier : (os : List Operation) (nodes : List Node) → nodes ≡ nodes_of os → UseEarlier nodes
use_earlier os nodes e =
    let P : List Node → Type 0 = UseEarlier in
    subst P (sym e) (λ j i l u. let h = earlier_from os 0 j i l u in omega arith)

pub whole : (os : List Operation) (i : ℕ) (nodes : List Node) → length os ≤ i → nodes ≡ nodes_of (take i os) → nodes ≡ nodes_of os
whole os i nodes l e = e ∙ ap nodes_of (take_all i os l)
