-- Uses that are listed in a test: of earlier operations, and of earlier iterations.
use Rattle.std.proofs.Common.{◌≡◌, ℕ, zero, suc, ◌+◌, ◌*◌, ◌^◌, ◌<◌, ◌≤◌, List, [], ◌∷◌, length, Option, Some, None, inl, inr, subst, lit<, arith}
use Rattle.std.specs.Prelude.{slice_index_or}
use Rattle.std.specs.List.{Contains}
use Rattle.op_graph.specs.declared.node.Node.{Node}
use Rattle.op_graph.specs.Graph.{no_node, UsesValue, UseEarlier}
use Rattle.loop_pipeline.specs.declared.table.Carried.{Carried}
use Rattle.loop_pipeline.specs.Table.{IsCarried, AreCarried}

-- ---- of earlier iterations: each of operations below n, one iteration later

abbrev pub AreOnce : ℕ → List Carried → Type 0
AreOnce n [] = Unit {0}
AreOnce n (k ∷ ks) = (k.from < n) × (k.to < n) × (k.turns ≡ 1) × AreOnce n ks

each_once : (n : ℕ) (list : List Carried) → AreOnce n list → (k : Carried) → Contains list k → IsCarried n k
each_once n [] are k (j, l, e) = absurd (let no : ⊥ = omega arith in no)
each_once n (c ∷ cs) are k (zero, l, e) =
    let same : c ≡ k = e in
    let turns : k.turns ≡ 1 = subst (λ (z : Carried). z.turns ≡ 1) same are.2 in
    let least : 1 ≤ k.turns = omega (arith, turns) in
    let few : k.turns < 2 ^ 32 = rw turns (lit< tt) in
    record {
      from = subst (λ (z : Carried). z.from < n) same are.0;
      to = subst (λ (z : Carried). z.to < n) same are.1;
      turns = (least, few);
    }
each_once n (c ∷ cs) are k (suc j, l, e) = each_once n cs are.3 k (j, (let m : j < length cs = omega arith in m), e)

pub are_carried : (n : ℕ) (list : List Carried) → AreOnce n list → length list ≤ 2 * n → AreCarried n list
are_carried n list are few = record { each = each_once n list are; few = few }

-- ---- of earlier operations

abbrev IsBelow : ℕ → Option ℕ → Type 0
IsBelow k None = Unit {0}
IsBelow k (Some i) = i < k

abbrev pub EachEarlier : ℕ → List Node → Type 0
EachEarlier k [] = Unit {0}
EachEarlier k (n ∷ ns) = IsBelow k n.left × IsBelow k n.right × EachEarlier (suc k) ns

some_below : (k : ℕ) (o : Option ℕ) (i : ℕ) → IsBelow k o → o ≡ Some i → i < k
some_below k None i below e = absurd cc
some_below k (Some j) i below e = let same : j ≡ i = cc in omega (arith, below, same)

earlier_from : (k : ℕ) (ns : List Node) → EachEarlier k ns → (j i : ℕ) → j < length ns → UsesValue (slice_index_or ns j no_node) i → i < k + j
earlier_from k [] are j i l u = absurd (let no : ⊥ = omega arith in no)
earlier_from k (n ∷ ns) are zero i l (inl e) = let h = some_below k n.left i are.0 e in omega (arith, h)
earlier_from k (n ∷ ns) are zero i l (inr e) = let h = some_below k n.right i are.1 e in omega (arith, h)
earlier_from k (n ∷ ns) are (suc j) i l u =
    let m : j < length ns = omega arith in
    let h = earlier_from (suc k) ns are.2 j i m u in
    omega (arith, h)

pub use_earlier : (nodes : List Node) → EachEarlier 0 nodes → UseEarlier nodes
use_earlier nodes are j i l u = let h = earlier_from 0 nodes are j i l u in omega (arith, h)
