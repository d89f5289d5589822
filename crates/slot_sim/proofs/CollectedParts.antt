-- The parts that stand in one are collected, and they are those of the instances below its path.
use Rattle.std.specs.Prelude.{◌≡◌, ℕ, zero, suc, ◌+◌, ◌<◌, ◌≤◌, List, [], ◌∷◌, ◌++◌, length, Option, Some, None, option_and_then, slice_get, slice_index, drop, Result, Ok, Err, IfOk, refl}
use Rattle.std.proofs.Common.{ap, sym, ◌∙◌, subst, ⊎_elim, arith, length-append}
use Rattle.std.proofs.lemmas.Option.{slice_get_within, same_Some, slice_get-get_or}
use Rattle.std.proofs.lemmas.List.{append_assoc}
use Rattle.lists.proofs.Places.{get_left}
use Rattle.netlist.specs.declared.netlist.Instance.{Instance}
use Rattle.netlist.specs.declared.netlist.Module.{Module}
use Rattle.verilog_meaning.specs.Cycles.{Path, module_at}
use Rattle.sim_values.specs.declared.edge.Part.{Part}
use Rattle.sim_values.specs.Stands.{children_of, kind_of, place_of}
use Rattle.sim_values.specs.Tree.{instances_of, IsInstance}
use Rattle.sim_layout.specs.Running.{Running, Stands, IsPart}
use Rattle.sim_values.proofs.Orders.{get_more}
use Rattle.sim_values.proofs.Trees.{get_back, opened, front_or_back}
use Rattle.slot_sim.specs.Members.{Listed, places_from, inner_of, IsInside, here, below, AreCollected, AreMembers, AreMembersOf}

from_get : (start : ℕ) (ns : List Instance) (i : ℕ) → i < length ns → slice_get (places_from start ns) i ≡ Some (start + i)
from_get start [] i l = absurd (omega arith)
from_get start (n ∷ ns) zero l = let e : start ≡ start + 0 = omega arith in ap (λ (k : ℕ). Some k) e
from_get start (n ∷ ns) (suc i) l =
    let e : (start + 1) + i ≡ start + suc i = omega arith in from_get (start + 1) ns i (omega arith) ∙ ap (λ (k : ℕ). Some k) e

places_more : (k n : ℕ) (ns : List Instance) → n < length ns → places_from k (drop n ns) ≡ k ∷ places_from (k + 1) (drop (n + 1) ns)
places_more k n [] l = absurd (omega arith)
places_more k zero (x ∷ ns) l = refl
places_more k (suc n) (x ∷ ns) l =
    let e : suc (n + 1) ≡ suc n + 1 = omega arith in
    places_more k n ns (omega arith) ∙ ap (λ i. k ∷ places_from (k + 1) (drop i (x ∷ ns))) e

-- one place more
pub pushed : (all old new : List ℕ) (start n : ℕ) (ns : List Instance) (p : ℕ) → n < length ns → all ≡ old ++ places_from (start + n) (drop n ns) → p ≡ start + n → new ≡ old ++ p ∷ []
    → all ≡ new ++ places_from (start + (n + 1)) (drop (n + 1) ns)
pushed all old new start n ns p l e is grown =
    let next : (start + n) + 1 ≡ start + (n + 1) = omega arith in
    let rest = places_from (start + (n + 1)) (drop (n + 1) ns) in
    e
    ∙ ap (λ z. old ++ z) (places_more (start + n) n ns l ∙ ap (λ k. (start + n) ∷ places_from k (drop (n + 1) ns)) next ∙ ap (λ k. k ∷ rest) (sym is))
    ∙ sym (append_assoc old (p ∷ []) rest)
    ∙ ap (λ z. z ++ rest) (sym grown)

pub if_ok_of : {T E : Type 0} {P Q : T → Type 0} (r : Result T E) → ((x : T) → P x → Q x) → IfOk r P → IfOk r Q
if_ok_of (Ok x) f p = f x p
if_ok_of (Err e) f p = tt

from_within : (start : ℕ) (ns : List Instance) (i q : ℕ) → slice_get (places_from start ns) i ≡ Some q → (i < length ns) × (q ≡ start + i)
from_within start [] i q e = absurd cc
from_within start (n ∷ ns) zero q e = (omega arith, let same : start ≡ q = cc in omega (arith, same))
from_within start (n ∷ ns) (suc i) q e = let rest = from_within (start + 1) ns i q e in let l = rest.0 in let at = rest.1 in (omega arith, omega (arith, at))

pub collected_one : (modules : List Module) (parts : List Part) (first : ℕ) (places : List ℕ) → places ≡ first ∷ [] → AreCollected modules parts first 0 places
collected_one modules parts first places e =
    subst (λ (l : List ℕ). AreCollected modules parts first 0 l) (sym e)
    (record { root = refl; within = omega arith; inner = λ k q i l at there. absurd (omega arith); inside = inside })
  where
    inside : (k q : ℕ) → slice_get (first ∷ []) k ≡ Some q → IsInside modules parts first q
    inside zero q at = subst (IsInside modules parts first) (same_Some first q at) here
    inside (suc k) q at = absurd cc

pub collected_more : (modules : List Module) (parts : List Part) (first n : ℕ) (places new : List ℕ) → AreCollected modules parts first n places → n < length places
    → new ≡ places ++ places_from (children_of (slice_get parts (slice_index places n))) (inner_of modules (slice_get parts (slice_index places n)))
    → AreCollected modules parts first (n + 1) new
collected_more modules parts first n places new a l is =
    subst (λ (ps : List ℕ). AreCollected modules parts first (n + 1) ps) (sym is)
    (record { root = get_more places more 0 first a.root; within = omega (arith, l, length-append places more); inner = inner; inside = inside })
  where
    p : ℕ
    p = slice_index places n

    inner_ones : List Instance
    inner_ones = inner_of modules (slice_get parts p)

    more : List ℕ
    more = places_from (children_of (slice_get parts p)) inner_ones

    there : slice_get places n ≡ Some p
    there = slice_get-get_or places n 0 l

    inner : (k q i : ℕ) → k < n + 1 → slice_get (places ++ more) k ≡ Some q → i < length (inner_of modules (slice_get parts q)) → Listed (places ++ more) (children_of (slice_get parts q) + i)
    inner k q i less at small =
        let before : slice_get places k ≡ Some q = sym (get_left places more k (omega arith)) ∙ at in
        ⊎_elim
        (λ (old : k < n). let o = a.inner k q i old before small in (o.0, get_more places more o.0 (children_of (slice_get parts q) + i) o.1))
        (λ back.
        let new_one : k ≡ n = let b = back.1 in omega (arith, b, less) in
        let same : q ≡ p = same_Some q p (sym before ∙ ap (slice_get places) new_one ∙ there) in
        let low : i < length inner_ones = subst (λ (z : ℕ). i < length (inner_of modules (slice_get parts z))) same small in
        subst (λ (z : ℕ). Listed (places ++ more) (children_of (slice_get parts z) + i)) (sym same)
        (length places + i, get_back places more (length places + i) i refl ∙ from_get (children_of (slice_get parts p)) inner_ones i low))
        (front_or_back k n)

    inside : (k q : ℕ) → slice_get (places ++ more) k ≡ Some q → IsInside modules parts first q
    inside k q at =
        ⊎_elim
        (λ (old : k < length places). a.inside k q (sym (get_left places more k old) ∙ at))
        (λ back.
        let w = from_within (children_of (slice_get parts p)) inner_ones back.0 q (sym (get_back places more k back.0 back.1) ∙ at) in
        subst (IsInside modules parts first) (sym w.1) (below (a.inside n p there) w.0))
        (front_or_back k (length places))

pub collected_all : (modules : List Module) (parts : List Part) (first n : ℕ) (places : List ℕ) → AreCollected modules parts first n places → length places ≤ n
    → AreCollected modules parts first (length places) places
collected_all modules parts first n places a l =
    subst (λ (k : ℕ). AreCollected modules parts first k places) (let w = a.within in let e : n ≡ length places = omega (arith, w, l) in e) a

-- an instance stands at a path that has a module
pub instance_here : (modules : List Module) (top : Module) (path : Path) (m : Module) → module_at modules top path ≡ Some m → IsInstance modules top path
instance_here modules top [] m at = tt
instance_here modules top (i ∷ outer) m at =
    let o = opened (λ (k : Module). option_and_then (λ (x : Instance). slice_get modules x.of) (slice_get k.instances i)) (module_at modules top outer) m at in
    let p = opened (λ (x : Instance). slice_get modules x.of) (slice_get (o.0).instances i) m o.2 in
    (o.0, o.1, slice_get_within (o.0).instances i p.0 p.1)

-- a part that has instances, with its module
record IsHolder (modules : List Module) (parts : List Part) (q i : ℕ) : Type 0 where
  pub part : Part
  pub kind : Module
  pub is : IsPart modules parts q part kind
  pub low : i < length kind.instances

holder_of : (modules : List Module) (parts : List Part) (q i : ℕ) (o : Option Part) → slice_get parts q ≡ o → i < length (inner_of modules o) → IsHolder modules parts q i
holder_of modules parts q i None e l = absurd (omega arith)
holder_of modules parts q i (Some p) e l = kind_is (slice_get modules p.module) refl l
  where
    kind_is : (m : Option Module) → slice_get modules p.module ≡ m → i < length (instances_of m) → IsHolder modules parts q i
    kind_is None at low = absurd (omega arith)
    kind_is (Some k) at low = record { part = p; kind = k; is = record { listed = e; kind = at }; low = low }

module _ (r : Running) (st : Stands r) (outer : Path) (m : Module) (at : module_at r.modules st.top outer ≡ Some m) where
  count_is : (path : Path) (k : Module) → module_at r.modules st.top path ≡ Some k → length (inner_of r.modules (slice_get r.parts (place_of r.parts path))) ≡ length k.instances
  count_is path k there =
      let p = st.apart.stands path k there in
      let kind : slice_get r.modules (p.0).module ≡ Some k = ap (λ o. slice_get r.modules (kind_of o)) (sym p.1) ∙ st.plan.laid path k there in
      ap (λ o. length (inner_of r.modules o)) p.1 ∙ ap (λ (z : Option Module). length (instances_of z)) kind

  each : (places : List ℕ) → AreCollected r.modules r.parts (place_of r.parts outer) (length places) places → (inner : Path) (k : Module)
      → module_at r.modules st.top (inner ++ outer) ≡ Some k → Listed places (place_of r.parts (inner ++ outer))
  each places a [] k there = (0, a.root)
  each places a (i ∷ inner) k there =
      let o = opened (λ (z : Module). option_and_then (λ (x : Instance). slice_get r.modules x.of) (slice_get z.instances i)) (module_at r.modules st.top (inner ++ outer)) k there in
      let p = opened (λ (x : Instance). slice_get r.modules x.of) (slice_get (o.0).instances i) k o.2 in
      let parent = each places a inner o.0 o.1 in
      let q = place_of r.parts (inner ++ outer) in
      let low : i < length (o.0).instances = slice_get_within (o.0).instances i p.0 p.1 in
      let same = count_is (inner ++ outer) o.0 o.1 in
      a.inner parent.0 q i (slice_get_within places parent.0 q parent.1) parent.1 (omega (arith, same, low))

  abbrev Inner : ℕ → Type 0
  Inner q = (inner : Path) × IsInstance r.modules st.top (inner ++ outer) × (place_of r.parts (inner ++ outer) ≡ q)

  only : (q : ℕ) → IsInside r.modules r.parts (place_of r.parts outer) q → Inner q
  only _ here = ([], instance_here r.modules st.top outer m at, refl)
  only _ (below {q} {i} before low) =
      let parent = only q before in
      let path = parent.0 ++ outer in
      let h = holder_of r.modules r.parts q i (slice_get r.parts q) refl low in
      let there = st.apart.reached q h.part h.kind h.is in
      let one : there.0 ≡ path = st.apart.paths there.0 path (instance_here r.modules st.top there.0 h.kind there.2) parent.1 (there.1 ∙ sym parent.2) in
      (i ∷ parent.0, (h.kind, ap (module_at r.modules st.top) (sym one) ∙ there.2, h.low), ap (λ p. children_of (slice_get r.parts p) + i) parent.2)

pub members_are : (r : Running) (first : ℕ) (places : List ℕ) → Stands r → AreCollected r.modules r.parts first (length places) places → AreMembersOf r first places
members_are r first places st a top e outer m at is =
    let same : st.top ≡ top = same_Some st.top top (sym st.is_top ∙ e) in
    let there : module_at r.modules st.top outer ≡ Some m = subst (λ (t : Module). module_at r.modules t outer ≡ Some m) (sym same) at in
    let c : AreCollected r.modules r.parts (place_of r.parts outer) (length places) places = subst (λ (q : ℕ). AreCollected r.modules r.parts q (length places) places) (sym is) a in
    subst (λ (t : Module). AreMembers r.modules t r.parts outer places) same
    (record { each = each r st outer m there places c; only = λ q l. only r st outer m there q (c.inside l.0 q l.1) })
