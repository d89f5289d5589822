-- How far values are used, one operation after another.
use Rattle.std.proofs.Common.{◌≡◌, ℕ, ◌+◌, List, get_or, Bool, true, false, ◌||◌, if◌then◌else◌, refl, ap, ◌∙◌, arith, add-one}
use Rattle.std.specs.Prelude.{max}
use Rattle.op_graph.specs.declared.node.Node.{Node}
use Rattle.op_graph.specs.Graph.{node, done}
use Rattle.register_binding.specs.Registers.{needed_to, is_operand}
use Rattle.register_binding.specs.Steps.{AreEnds, IsUsedTo}

both : (l r : Bool) (to x : ℕ) → (if r then max to (if l then max to x else x) else (if l then max to x else x)) ≡ max (if (l || r) then to else 0) x
both true true to x = grind arith
both true false to x = refl
both false true to x = refl
both false false to x = grind arith

pub next_ends : (nodes : List Node) (starts : List ℕ) (at_end : ℕ → Bool) (k to : ℕ) (a b c : List ℕ) → AreEnds nodes starts at_end k a → to ≡ done nodes starts k →
    IsUsedTo (node nodes k).left to a b → IsUsedTo (node nodes k).right to b c → AreEnds nodes starts at_end (k + 1) c
next_ends nodes starts at_end k to a b c are same s t = rw (add-one k) (record {
  count = t.count ∙ (s.count ∙ are.count);
  each = λ i h.
      let n = are.count in
      let m = s.count in
      let l = is_operand (node nodes k).left i in
      let r = is_operand (node nodes k).right i in
      let inner : get_or b i 0 ≡ (if l then max to (get_or a i 0) else get_or a i 0) = s.each i (omega arith) in
      let outer : get_or c i 0 ≡ (if r then max to (get_or b i 0) else get_or b i 0) = t.each i (omega arith) in
      outer
      ∙ (ap (λ (z : ℕ). if r then max to z else z) inner
      ∙ (both l r to (get_or a i 0)
      ∙ (ap (λ (z : ℕ). max (if (l || r) then to else 0) z) (are.each i h) ∙ ap (λ (z : ℕ). max (if (l || r) then z else 0) (needed_to nodes starts at_end i k)) same)));
})
