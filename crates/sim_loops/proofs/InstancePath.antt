-- The path of an instance is found from its place.
use Rattle.std.specs.Prelude.{◌≡◌, ℕ, ◌+◌, ◌<◌, ◌≤◌, List, [], ◌∷◌, ◌++◌, length, slice_index, Option, Some, option_and_then, slice_get}
use Rattle.std.proofs.Common.{ap, sym, ◌∙◌, subst, ⊎_elim, arith, append_assoc}
use Rattle.std.proofs.lemmas.Option.{slice_get_within}
use Rattle.std.proofs.lemmas.List.{append-nil}
use Rattle.netlist.specs.declared.netlist.Instance.{Instance}
use Rattle.netlist.specs.declared.netlist.Module.{Module}
use Rattle.verilog_meaning.specs.Cycles.{Path, module_at}
use Rattle.sim_values.specs.Tree.{instances_of, place_in, IsTree}
use Rattle.sim_values.proofs.Trees.{opened, tree_stands, front_or_back}
use Rattle.sim_loops.specs.Search.{IsOuter, IsOutermost, IsOuterPlace, AreBehind, IsNested}

module _ (modules : List Module) (top : ℕ) (kinds children : List ℕ) (t : Module) (tree : IsTree modules top kinds children) (is : slice_get modules top ≡ Some t) where
  -- the instances on a path to one that has a module stand in one another
  pub nested : (path : Path) (m : Module) → module_at modules t path ≡ Some m → IsNested children path
  nested [] m at = λ k less. (let b = tree.grown.behind k less in omega arith)
  nested (i ∷ outer) m at =
      let o = opened (λ (k : Module). option_and_then (λ (x : Instance). slice_get modules x.of) (slice_get k.instances i)) (module_at modules t outer) m at in
      let p = opened (λ (x : Instance). slice_get modules x.of) (slice_get (o.0).instances i) m o.2 in
      let parent = tree_stands modules top kinds children t tree is outer o.0 o.1 in
      let place = place_in children outer in
      let inside : i < length (instances_of (slice_get modules parent.0)) =
      subst (λ (k : Option Module). i < length (instances_of k)) (sym parent.2) (slice_get_within (o.0).instances i p.0 p.1) in
      let within = slice_get_within kinds place parent.0 parent.1 in
      let whole = tree.whole in (
        record {
          within = omega (arith, whole, within);
          first = omega arith;
          last = λ k more less. (let a = tree.grown.apart place k parent.0 more less parent.1 in omega (arith, a, inside));
        },
        nested outer o.0 o.1,
      )

-- ---- one instance less is left to look at

pub outer_here : (children : List ℕ) (n place : ℕ) → n < length children → slice_index children n ≤ place → AreBehind children (n + 1) place → IsOuterPlace children (length children) place (Some n)
outer_here children n place within low behind = record { within = within; first = low; last = λ k more less. behind k (omega (arith, more)) less }

pub behind_more : (children : List ℕ) (n place : ℕ) → AreBehind children (n + 1) place → place < slice_index children n → AreBehind children n place
behind_more children n place behind high k from less = ⊎_elim
    (λ (later : n < k). behind k (omega (arith, later)) less)
    (λ back.
    let i = back.0 in
    let e = back.1 in
    let same : n ≡ k = omega (arith, e, from) in
    subst (λ j. place < slice_index children j) same high)
    (front_or_back n k)

-- the instance round another stands before it, so none behind that is round it
pub behind_outer : (children : List ℕ) (inner outer : ℕ) → IsOuter children (length children) inner outer → outer ≤ inner → AreBehind children (outer + 1) outer
behind_outer children inner outer is before k from less = (let h = is.last k (omega (arith, from)) less in omega (arith, h, before))

-- an instance stands in one other
pub one_outer : (children : List ℕ) (place a b : ℕ) → IsOuter children (length children) place a → IsOuter children (length children) place b → a ≡ b
one_outer children place a b x y = ⊎_elim
    (λ (less : a < b). let h = x.last b less y.within in let f = y.first in absurd (omega (arith, h, f)))
    (λ back.
    let i = back.0 in
    ⊎_elim
    (λ (less : b < a). let h = y.last a less x.within in let f = x.first in absurd (omega (arith, h, f)))
    (λ more. let e = back.1 in let f = more.1 in omega (arith, e, f))
    (front_or_back b a))
    (front_or_back a b)

-- the path that is left, where some of it is found
pub record IsLeft (children : List ℕ) (path done : Path) (inner : ℕ) : Type 0 where
  pub rest : Path
  pub is : path ≡ done ++ rest
  pub place : place_in children rest ≡ inner
  pub nested : IsNested children rest

abbrev pub AreLeft : List ℕ → ℕ → Path → ℕ → Type 0
AreLeft children place done inner = (path : Path) → place_in children path ≡ place → IsNested children path → IsLeft children path done inner

-- at the outermost instance all is found
pub left_none : (children : List ℕ) (place : ℕ) (done : Path) (inner : ℕ) → AreLeft children place done inner → IsOutermost children (length children) inner
    → (path : Path) → place_in children path ≡ place → IsNested children path → path ≡ done
left_none children place done inner left outermost path e nested = (let l = left path e nested in ends l.rest l.is l.place l.nested)
  where
    ends : (rest : Path) → path ≡ done ++ rest → place_in children rest ≡ inner → IsNested children rest → path ≡ done
    ends [] is at n = is ∙ append-nil done
    ends (i ∷ outer) is at n = (let f = n.0.first in let o = outermost (place_in children outer) n.0.within in absurd (omega (arith, f, o, at)))

-- the instance round it is found
pub left_more : (children : List ℕ) (place : ℕ) (done : Path) (inner outer : ℕ) → AreLeft children place done inner
    → IsOuter children (length children) inner outer → (i : ℕ) → slice_index children outer + i ≡ inner
    → AreLeft children place (done ++ i ∷ []) outer
left_more children place done inner outer left is i sum path e nested = (let l = left path e nested in goes l.rest l.is l.place l.nested)
  where
    goes : (rest : Path) → path ≡ done ++ rest → place_in children rest ≡ inner → IsNested children rest → IsLeft children path (done ++ i ∷ []) outer
    goes [] from at n = (let o = n outer is.within in let f = is.first in absurd (omega (arith, o, f, at)))
    goes (k ∷ rest) from at n =
        let same : place_in children rest ≡ outer = one_outer children inner (place_in children rest) outer (subst (λ z. IsOuter children (length children) z
        (place_in children rest)) at n.0) is in
        let index : slice_index children (place_in children rest) ≡ slice_index children outer = ap (slice_index children) same in
        let number : k ≡ i = omega (arith, at, index, sum) in
        record {
          rest = rest;
          is = from ∙ ap (λ z. done ++ z ∷ rest) number ∙ sym (append_assoc done (i ∷ []) rest);
          place = same;
          nested = n.1;
        }
