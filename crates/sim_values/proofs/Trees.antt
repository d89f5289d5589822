-- Instances in a list: each has its path, and each path its place.
use Rattle.std.specs.Prelude.{◌≡◌, ℕ, zero, suc, ◌+◌, ◌<◌, ◌⊎◌, List, [], ◌∷◌, ◌++◌, length, slice_index, Option, Some, None, option_and_then, slice_get, refl}
use Rattle.std.proofs.Common.{ap, sym, ◌∙◌, subst, inl, inr, ⊎_elim, arith, length-append}
use Rattle.std.proofs.lemmas.Option.{slice_get_within}
use Rattle.std.proofs.lemmas.List.{get_or_append_left}
use Rattle.lists.proofs.Places.{get_left}
use Rattle.netlist.specs.declared.netlist.Instance.{Instance}
use Rattle.netlist.specs.declared.netlist.Module.{Module}
use Rattle.circuit.specs.Cycles.{Path, module_at}
use Rattle.sim_values.specs.Loops.{Before}
use Rattle.sim_values.specs.Tree.{instances_of, kinds_of, place_in, IsInstance, IsInner, IsReached, IsGrown, IsTree}
use Rattle.sim_values.proofs.Orders.{get_more}

pub get_back : {X : Type 0} (xs ys : List X) (q i : ℕ) → q ≡ length xs + i → slice_get (xs ++ ys) q ≡ slice_get ys i
get_back [] ys q i e = ap (slice_get ys) (let z : q ≡ i = omega arith in z)
get_back (x ∷ xs) ys zero i e = absurd (omega arith)
get_back (x ∷ xs) ys (suc q) i e = get_back xs ys q i (omega arith)

pub index_back : (xs ys : List ℕ) (q i : ℕ) → q ≡ length xs + i → slice_index (xs ++ ys) q ≡ slice_index ys i
index_back [] ys q i e = ap (slice_index ys) (let z : q ≡ i = omega arith in z)
index_back (x ∷ xs) ys zero i e = absurd (omega arith)
index_back (x ∷ xs) ys (suc q) i e = index_back xs ys q i (omega arith)

pub opened : {X Y : Type 0} (f : X → Option Y) (o : Option X) (y : Y) → option_and_then f o ≡ Some y → (x : X) × (o ≡ Some x) × (f x ≡ Some y)
opened f None y e = absurd cc
opened f (Some x) y e = (x, refl, e)

pub front_or_back : (q n : ℕ) → (q < n) ⊎ ((i : ℕ) × (q ≡ n + i))
front_or_back q zero = inr (q, omega arith)
front_or_back zero (suc n) = inl (omega arith)
front_or_back (suc q) (suc n) = ⊎_elim (λ l. inl (omega arith)) (λ e. inr (e.0, let z = e.1 in omega arith)) (front_or_back q n)

kinds_get : (ns : List Instance) (i : ℕ) (n : Instance) → slice_get ns i ≡ Some n → slice_get (kinds_of ns) i ≡ Some n.of
kinds_get [] i n e = absurd cc
kinds_get (m ∷ ns) zero n e = let same : m ≡ n = cc in ap (λ (k : Instance). Some k.of) same
kinds_get (m ∷ ns) (suc i) n e = kinds_get ns i n e

kinds_from : (ns : List Instance) (i kind : ℕ) → slice_get (kinds_of ns) i ≡ Some kind → (n : Instance) × (slice_get ns i ≡ Some n) × (n.of ≡ kind)
kinds_from [] i kind e = absurd cc
kinds_from (m ∷ ns) zero kind e = (m, refl, let same : m.of ≡ kind = cc in same)
kinds_from (m ∷ ns) (suc i) kind e = kinds_from ns i kind e

place_stable : (children more : List ℕ) (path : Path) → IsInner children path → place_in (children ++ more) path ≡ place_in children path
place_stable children more [] inner = refl
place_stable children more (i ∷ outer) inner =
    ap (λ p. slice_index (children ++ more) p + i) (place_stable children more outer inner.1)
    ∙ ap (λ k. k + i) (get_or_append_left children more 0 (place_in children outer) inner.0)

inner_stable : (children more : List ℕ) (path : Path) → IsInner children path → IsInner (children ++ more) path
inner_stable children more [] inner = tt
inner_stable children more (i ∷ outer) inner =
    (let e = place_stable children more outer inner.1 in let l = inner.0 in omega (arith, length-append children more), inner_stable children more outer inner.1)

module _ (modules : List Module) (t : Module) where
  reached_stable : (children more : List ℕ) (place kind : ℕ) → IsReached modules t children place kind → IsReached modules t (children ++ more) place kind
  reached_stable children more place kind r = record {
    path = r.path;
    is = place_stable children more r.path r.inner ∙ r.is;
    inner = inner_stable children more r.path r.inner;
    kind_is = r.kind_is;
  }

  -- an instance in one that is reached
  reached_inside : (children : List ℕ) (start place kind i : ℕ) (o : Option Module) (n : Instance) → slice_get modules kind ≡ o → slice_get (instances_of o) i ≡ Some n
      → place ≡ length children → IsReached modules t children place kind → IsReached modules t (children ++ start ∷ []) (start + i) n.of
  reached_inside children start place kind i None n e at here r = absurd cc
  reached_inside children start place kind i (Some m) n e at here r =
      let q : place_in (children ++ start ∷ []) r.path ≡ place = place_stable children (start ∷ []) r.path r.inner ∙ r.is in
      let own : slice_index (children ++ start ∷ []) place ≡ start = index_back children (start ∷ []) place 0 (omega arith) in
      record {
        path = i ∷ r.path;
        is = ap (λ p. slice_index (children ++ start ∷ []) p + i) q ∙ ap (λ k. k + i) own;
        inner = (omega (arith, length-append children (start ∷ [])), inner_stable children (start ∷ []) r.path r.inner);
        kind_is =
            ap (option_and_then (λ (k : Module). option_and_then (λ (x : Instance). slice_get modules x.of) (slice_get k.instances i))) (r.kind_is ∙ e)
            ∙ ap (option_and_then (λ (x : Instance). slice_get modules x.of)) at;
      }

pub grown_none : (modules : List Module) (top : ℕ) (kinds children : List ℕ) → kinds ≡ top ∷ [] → children ≡ [] → IsGrown modules top kinds children
grown_none modules top kinds children k e =
    subst (λ (ks : List ℕ). IsGrown modules top ks children) (sym k)
    (subst (λ (cs : List ℕ). IsGrown modules top (top ∷ []) cs) (sym e)
    (record {
      root = refl;
      within = omega arith;
      kids = λ q i kind n l at there. absurd (omega arith);
      reached = λ t is q kind at. first t is q kind at;
      behind = λ q l. absurd (omega arith);
      ends = λ q kind l at. absurd (omega arith);
      apart = λ q o kind less l at. absurd (omega arith);
    }))
  where
    first : (t : Module) → slice_get modules top ≡ Some t → (q kind : ℕ) → slice_get (top ∷ []) q ≡ Some kind → IsReached modules t [] q kind
    first t is zero kind at = let same : top ≡ kind = cc in record { path = []; is = refl; inner = tt; kind_is = sym is ∙ ap (slice_get modules) same }
    first t is (suc q) kind at = absurd cc

kinds_length : (ns : List Instance) → length (kinds_of ns) ≡ length ns
kinds_length [] = refl
kinds_length (n ∷ ns) = ap suc (kinds_length ns)

pub grown_more : (modules : List Module) (top : ℕ) (kinds children : List ℕ) (kind : ℕ) → IsGrown modules top kinds children → slice_get kinds (length children) ≡ Some kind
    → IsGrown modules top (kinds ++ kinds_of (instances_of (slice_get modules kind))) (children ++ length kinds ∷ [])
grown_more modules top kinds children kind g at =
    let ns = instances_of (slice_get modules kind) in
    let more = kinds_of ns in
    let l : length children < length kinds = slice_get_within kinds (length children) kind at in
    record {
      root = get_more kinds more 0 top g.root;
      within = omega (arith, length-append children (length kinds ∷ []), length-append kinds more);
      kids = λ q i k n less there inside. ⊎_elim
          (λ old.
          let before : slice_get kinds q ≡ Some k = sym (get_left kinds more q (omega arith)) ∙ there in
          let index : slice_index (children ++ length kinds ∷ []) q ≡ slice_index children q = get_or_append_left children (length kinds ∷ []) 0 q old in
          ap (λ p. slice_get (kinds ++ more) (p + i)) index ∙ get_more kinds more (slice_index children q + i) n.of (g.kids q i k n old before inside))
          (λ new.
          let here : q ≡ length children = let z = new.1 in omega (arith, length-append children (length kinds ∷ [])) in
          let one : Some k ≡ Some kind = sym there ∙ get_left kinds more q (omega arith) ∙ ap (slice_get kinds) here ∙ at in
          let same : k ≡ kind = cc in
          let index : slice_index (children ++ length kinds ∷ []) q ≡ length kinds = index_back children (length kinds ∷ []) q 0 (omega arith) in
          ap (λ p. slice_get (kinds ++ more) (p + i)) index ∙ get_back kinds more (length kinds + i) i refl
          ∙ kinds_get ns i n (ap (λ u. slice_get (instances_of (slice_get modules u)) i) (sym same) ∙ inside))
          (front_or_back q (length children));
      reached = λ t is q k there. ⊎_elim
          (λ old. reached_stable modules t children (length kinds ∷ []) q k (g.reached t is q k (sym (get_left kinds more q old) ∙ there)))
          (λ new.
          let i = new.0 in
          let from = kinds_from ns i k (sym (get_back kinds more q i new.1) ∙ there) in
          subst (λ (p : ℕ). IsReached modules t (children ++ length kinds ∷ []) p k) (sym new.1)
          (subst (λ (u : ℕ). IsReached modules t (children ++ length kinds ∷ []) (length kinds + i) u) from.2
          (reached_inside modules t children (length kinds) (length children) kind i (slice_get modules kind) from.0 refl from.1 refl (g.reached t is (length children) kind at))))
          (front_or_back q (length kinds));
      behind = λ q less. ⊎_elim
          (λ old. let index = get_or_append_left children (length kinds ∷ []) 0 q old in let b = g.behind q old in omega (arith, index, b))
          (λ new. let index = last_index q new.0 new.1 less in omega (arith, index, l))
          (front_or_back q (length children));
      ends = λ q k less there. ⊎_elim
          (λ old.
          let before : slice_get kinds q ≡ Some k = sym (get_left kinds more q (let w = g.within in omega arith)) ∙ there in
          let index = get_or_append_left children (length kinds ∷ []) 0 q old in
          let e = g.ends q k old before in
          omega (arith, index, e, length-append kinds more))
          (λ new.
          let here : q ≡ length children = (let z = new.1 in omega (arith, length-append children (length kinds ∷ []))) in
          let one : Some k ≡ Some kind = sym there ∙ get_left kinds more q (omega arith) ∙ ap (slice_get kinds) here ∙ at in
          let same : k ≡ kind = cc in
          let index = last_index q new.0 new.1 less in
          let count : length (instances_of (slice_get modules k)) ≡ length more = ap (λ u. length (instances_of (slice_get modules u))) same ∙ sym (kinds_length ns) in
          omega (arith, index, count, length-append kinds more))
          (front_or_back q (length children));
      apart = λ q o k less inside there.
          let from : q < length children = omega (arith, length-append children (length kinds ∷ [])) in
          let before : slice_get kinds q ≡ Some k = sym (get_left kinds more q (let w = g.within in omega arith)) ∙ there in
          let first = get_or_append_left children (length kinds ∷ []) 0 q from in
          ⊎_elim
          (λ old. let index = get_or_append_left children (length kinds ∷ []) 0 o old in let e = g.apart q o k less old before in omega (arith, first, index, e))
          (λ new. let index = last_index o new.0 new.1 inside in let e = g.ends q k from before in omega (arith, first, index, e))
          (front_or_back o (length children));
    }
  where
    last_index : (q i : ℕ) → q ≡ length children + i → q < length (children ++ length kinds ∷ []) → slice_index (children ++ length kinds ∷ []) q ≡ length kinds
    last_index q i e less = index_back children (length kinds ∷ []) q 0 (omega (arith, length-append children (length kinds ∷ [])))

numbers_in_order : (i j : ℕ) → (i < j) ⊎ ((i ≡ j) ⊎ (j < i))
numbers_in_order i j = ⊎_elim
    (λ (l : i < j). inl l)
    (λ back. ⊎_elim
    (λ (l : j < i). inr (inr l))
    (λ rest. inr (inl (let a = back.1 in let b = rest.1 in omega (arith, a, b))))
    (front_or_back j i))
    (front_or_back i j)

-- one of two paths comes before the other, or they are the same
pub in_order : (p q : Path) → Before p q ⊎ ((p ≡ q) ⊎ Before q p)
in_order [] [] = inr (inl refl)
in_order [] (j ∷ q) = inl tt
in_order (i ∷ p) [] = inr (inr tt)
in_order (i ∷ p) (j ∷ q) = ⊎_elim
    (λ (b : Before p q). inl (inl b))
    (λ rest. ⊎_elim
    (λ (same : p ≡ q).
    ⊎_elim
    (λ (l : i < j). inl (inr (same, l)))
    (λ more. ⊎_elim (λ (e : i ≡ j). inr (inl (ap (λ n. n ∷ p) e ∙ ap (λ o. j ∷ o) same))) (λ (l : j < i). inr (inr (inr (sym same, l)))) more)
    (numbers_in_order i j))
    (λ (b : Before q p). inr (inr (inl b)))
    rest)
    (in_order p q)

-- the place of a path has the number of its module
pub tree_stands : (modules : List Module) (top : ℕ) (kinds children : List ℕ) (t : Module) → IsTree modules top kinds children → slice_get modules top ≡ Some t
    → (path : Path) (m : Module) → module_at modules t path ≡ Some m → (kind : ℕ) × (slice_get kinds (place_in children path) ≡ Some kind) × (slice_get modules kind ≡ Some m)
tree_stands modules top kinds children t tree is [] m at = (top, tree.grown.root, is ∙ at)
tree_stands modules top kinds children t tree is (i ∷ outer) m at =
    let o = opened (λ (k : Module). option_and_then (λ (x : Instance). slice_get modules x.of) (slice_get k.instances i)) (module_at modules t outer) m at in
    let p = opened (λ (x : Instance). slice_get modules x.of) (slice_get (o.0).instances i) m o.2 in
    let parent = tree_stands modules top kinds children t tree is outer o.0 o.1 in
    let inside : slice_get (instances_of (slice_get modules parent.0)) i ≡ Some p.0 = ap (λ (k : Option Module). slice_get (instances_of k) i) parent.2 ∙ p.1 in
    let within = slice_get_within kinds (place_in children outer) parent.0 parent.1 in
    let whole = tree.whole in
    ((p.0).of, tree.grown.kids (place_in children outer) i parent.0 p.0 (omega arith) parent.1 inside, p.2)

-- ---- paths in the order of their places

pub record IsChild (modules : List Module) (children : List ℕ) (kinds : List ℕ) (i : ℕ) (outer : Path) : Type 0 where
  pub kind : ℕ
  pub parent : slice_get kinds (place_in children outer) ≡ Some kind
  pub inside : i < length (instances_of (slice_get modules kind))
  pub within : place_in children outer < length children

module _ (modules : List Module) (top : ℕ) (kinds children : List ℕ) (t : Module) (tree : IsTree modules top kinds children) (is : slice_get modules top ≡ Some t) where
  -- an instance stands in one that has a module
  pub instance_of : (path : Path) (m : Module) → module_at modules t path ≡ Some m → IsInstance modules t path
  instance_of [] m at = tt
  instance_of (i ∷ outer) m at =
      let o = opened (λ (k : Module). option_and_then (λ (x : Instance). slice_get modules x.of) (slice_get k.instances i)) (module_at modules t outer) m at in
      let p = opened (λ (x : Instance). slice_get modules x.of) (slice_get (o.0).instances i) m o.2 in
      (o.0, o.1, slice_get_within (o.0).instances i p.0 p.1)

  child_of : (i : ℕ) (outer : Path) → IsInstance modules t (i ∷ outer) → IsChild modules children kinds i outer × IsInstance modules t outer
  child_of i outer at =
      let parent = tree_stands modules top kinds children t tree is outer at.0 at.1 in
      let same : length (instances_of (slice_get modules parent.0)) ≡ length (at.0).instances = ap (λ (k : Option Module). length (instances_of k)) parent.2 in
      let within = slice_get_within kinds (place_in children outer) parent.0 parent.1 in
      let whole = tree.whole in
      let l = at.2 in
      (record { kind = parent.0; parent = parent.1; inside = omega (arith, same, l); within = omega (arith, whole, within) }, instance_of outer at.0 at.1)

  pub rising : (p q : Path) → IsInstance modules t p → IsInstance modules t q → Before p q → place_in children p < place_in children q
  rising [] [] at there b = absurd b
  rising [] (j ∷ q) at there b =
      let c = child_of j q there in
      let l = tree.grown.behind (place_in children q) c.0.within in omega (arith, l)
  rising (i ∷ p) [] at there b = absurd b
  rising (i ∷ p) (j ∷ q) at there (inl b) =
      let c = child_of i p at in
      let d = child_of j q there in
      let less = rising p q c.1 d.1 b in
      let l = tree.grown.apart (place_in children p) (place_in children q) c.0.kind less d.0.within c.0.parent in
      let inside = c.0.inside in omega (arith, l, inside)
  rising (i ∷ p) (j ∷ q) at there (inr b) =
      let same : place_in children p ≡ place_in children q = ap (place_in children) b.0 in
      let index : slice_index children (place_in children p) ≡ slice_index children (place_in children q) = ap (slice_index children) same in
      let l = b.1 in omega (arith, index, l)

  -- one path for each place
  pub one_path : (p q : Path) → IsInstance modules t p → IsInstance modules t q → place_in children p ≡ place_in children q → p ≡ q
  one_path p q at there e = ⊎_elim
      (λ (b : Before p q). let l = rising p q at there b in absurd (omega (arith, e, l)))
      (λ rest. ⊎_elim (λ (same : p ≡ q). same) (λ (b : Before q p). let l = rising q p there at b in absurd (omega (arith, e, l))) rest)
      (in_order p q)
