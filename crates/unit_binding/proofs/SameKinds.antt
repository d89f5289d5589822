-- Kinds that share units are equal.
use Rattle.std.proofs.Common.{◌≡◌, ℕ, suc, zero, ◌<◌, List, [], ◌∷◌, ◌++◌, length, get_or, Bool, true, false, ◌||◌, nat_eq, refl, ap, subst, sym, ◌∙◌, arith}
use Rattle.std.specs.Bool.{beq}
use Rattle.std.specs.Cmp.{booleans_Decides}
use Rattle.std.proofs.lemmas.Bool.{eqb-true, and_parts, or_parts}
use mathlib.Core.Bool.{or-false, or_assoc}
use Rattle.op_graph.specs.declared.node.Kind.{Kind}
use Rattle.op_graph.specs.declared.node.Kind.TheVariants.{Multiply, Divide}
use Rattle.unit_binding.specs.declared.bind.UnitCount.{UnitCount}
use Rattle.unit_binding.specs.Units.{is_listed}
use Rattle.op_graph.specs.Graph.{same_kind}

pub same_is : (a b : Kind) → same_kind a b ≡ true → a ≡ b
same_is (Multiply w) (Multiply v) e = ap (λ (z : ℕ). Multiply z) (eqb-true w v e)
same_is (Divide w s) (Divide v t) e =
    let both = and_parts (nat_eq w v) (beq s t) e in
    let sign = booleans_Decides s t in
    ap (λ (z : ℕ). Divide z s) (eqb-true w v both.0) ∙ ap (λ (z : Bool). Divide v z) (sign.0 both.1)
same_is a b e = absurd cc

-- of three kinds
pub same_along : (a b c : Kind) → same_kind a b ≡ true → same_kind b c ≡ true → same_kind a c ≡ true
same_along a b c e f = subst (λ (z : Kind). same_kind a z ≡ true) (same_is b c f) e

pub same_back : (a b : Kind) → same_kind a b ≡ true → same_kind b a ≡ true
same_back a b e =
    let p = same_is a b e in
    let f : same_kind a a ≡ true = subst (λ (z : Kind). same_kind a z ≡ true) (sym p) e in
    subst (λ (z : Kind). same_kind z a ≡ true) p f

-- ---- lists of kinds

pub listed-append : (cs : List UnitCount) (c : UnitCount) (k : Kind) → is_listed (cs ++ c ∷ []) k ≡ (is_listed cs k || same_kind c.kind k)
listed-append [] c k = or-false (same_kind c.kind k)
listed-append (x ∷ cs) c k =
    ap (λ (b : Bool). same_kind x.kind k || b) (listed-append cs c k) ∙ sym (or_assoc (same_kind x.kind k) (is_listed cs k) (same_kind c.kind k))

-- a kind that is not listed is none of those that are
pub unlisted : (cs : List UnitCount) (k : Kind) → is_listed cs k ≡ false → (i : ℕ) (d : UnitCount) → i < length cs → same_kind (get_or cs i d).kind k ≡ false
unlisted [] k e i d l = absurd (omega arith)
unlisted (x ∷ cs) k e zero d l = let both = or_parts (same_kind x.kind k) (is_listed cs k) e in both.0
unlisted (x ∷ cs) k e (suc i) d l = let both = or_parts (same_kind x.kind k) (is_listed cs k) e in unlisted cs k both.1 i d (omega arith)
