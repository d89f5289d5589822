-- An amount with all that is inlined is positive exactly where that of a function is that runs there.
use Rattle.std.proofs.Common.{◌≡◌, refl, sym, ap, ◌∙◌, subst, inl, inr, ℕ, zero, suc, ◌+◌, ◌<◌, ◌≤◌, List, [], ◌∷◌, length, sum_by, arith}
use Rattle.std.specs.Prelude.{Option, Some, None, slice_get, Contains}
use Rattle.std.proofs.lemmas.Bool.{cases_lt}
use Rattle.std.proofs.lemmas.List.Sums.{sum_by-cons, sum_by-le-sum_by}
use Rattle.std.proofs.lemmas.Option.{slice_get_within, get_or_from_slice_get, slice_get-get_or, none-some, same_Some}
use Rattle.lists.proofs.Places.{get_there}
use Rattle.c_program.specs.Tree.{Function}
use Rattle.c_program.specs.Calls.{calls_of, IsAcyclic}
use Rattle.c_program.specs.Weight.{with_callees, inlined}
use Rattle.c_call_graph.specs.Graphs.{callees}
use Rattle.c_call_graph.specs.Reaching.{Leads, Here, Further}
use Rattle.global_naming.specs.Tables.{calls_from}
use Rattle.global_naming.proofs.Callees.{callees_are}

contains_at : (xs : List ℕ) (k x : ℕ) → slice_get xs k ≡ Some x → Contains xs x
contains_at xs k x is = (k, slice_get_within xs k x is, get_or_from_slice_get xs k x x is)

-- a positive sum has a positive part
some_part : (t : ℕ → ℕ) (gs : List ℕ) → 0 < sum_by t gs → (k : ℕ) × (g : ℕ) × (slice_get gs k ≡ Some g) × (0 < t g)
some_part t [] more = absurd (omega (arith, more))
some_part t (g ∷ gs) more =
    let whole = sum_by-cons t g gs in
    elim (cases_lt 0 (t g)) [
      | inl own ↦ (0, g, refl, own)
      | inr none ↦ let rest = some_part t gs (omega (arith, more, whole, none)) in (suc rest.0, rest.1, rest.2, rest.3)
    ]

part_within : (t : ℕ → ℕ) (gs : List ℕ) (k g : ℕ) → slice_get gs k ≡ Some g → t g ≤ sum_by t gs
part_within t [] k g at = absurd (none-some g at)
part_within t (h ∷ gs) zero g at =
    let whole = sum_by-cons t h gs in
    let same = ap t (same_Some h g at) in
    omega (arith, whole, same)
part_within t (h ∷ gs) (suc k) g at =
    let whole = sum_by-cons t h gs in
    let rest = part_within t gs k g at in
    omega (arith, whole, rest)

module _ (m : Function → ℕ) (fs : List Function) where
  abbrev Way : ℕ → ℕ → Type 0
  Way f j = Leads (length fs) (calls_from fs) f j

  -- a function that runs where f does, with a positive amount
  abbrev pub Found : ℕ → Type 0
  Found f = (j : ℕ) × (code : Function) × Way f j × (slice_get fs j ≡ Some code) × (0 < m code)

  ahead : {f g j : ℕ} → Contains (callees (calls_from fs) f) g → g < length fs → Way g j → Way f j
  ahead called inside Here = Further Here _ called inside
  ahead called inside (Further way h c i) = Further (ahead called inside way) h c i

  -- ---- from the amount to the function

  code_of : (t : ℕ → ℕ) (o : Option Function) → 0 < with_callees m t o → (code : Function) × (o ≡ Some code)
  code_of t None more = absurd (omega (arith, more))
  code_of t (Some code) more = (code, refl)

  pub positive_inside : (d f : ℕ) → 0 < inlined m fs d f → f < length fs
  positive_inside zero f more = absurd (omega (arith, more))
  positive_inside (suc d) f more =
      let known = code_of (inlined m fs d) (slice_get fs f) more in
      slice_get_within fs f known.0 known.1

  through : (f d : ℕ) (code : Function) → slice_get fs f ≡ Some code → ((g : ℕ) → 0 < inlined m fs d g → Found g) → 0 < m code + sum_by (inlined m fs d) (calls_of code.body) → Found f
  through f d code at deeper more =
      elim (cases_lt 0 (m code)) [
        | inl own ↦ (f, code, Here, at, own)
        | inr none ↦
            let part = some_part (inlined m fs d) (calls_of code.body) (omega (arith, more, none)) in
            let deep = deeper part.1 part.3 in
            let called = subst (λ (xs : List ℕ). Contains xs part.1) (sym (callees_are fs f code at)) (contains_at (calls_of code.body) part.0 part.1 part.2) in
            (deep.0, deep.1, ahead called (positive_inside d part.1 part.3) deep.2, deep.3, deep.4)
      ]

  pub found : (d f : ℕ) → 0 < inlined m fs d f → Found f
  found zero f more = absurd (omega (arith, more))
  found (suc d) f more =
      let known = code_of (inlined m fs d) (slice_get fs f) more in
      through f d known.0 known.1 (found d) (subst (λ (o : Option Function). 0 < with_callees m (inlined m fs d) o) known.1 more)

  -- ---- from the function to the amount

  with_less : (s t : ℕ → ℕ) (o : Option Function) → ((g : ℕ) → s g ≤ t g) → with_callees m s o ≤ with_callees m t o
  with_less s t None less = omega arith
  with_less s t (Some code) less = let sums = sum_by-le-sum_by s t (calls_of code.body) less in omega (arith, sums)

  deeper : (d f : ℕ) → inlined m fs d f ≤ inlined m fs (suc d) f
  deeper zero f = omega arith
  deeper (suc d) f = with_less (inlined m fs d) (inlined m fs (suc d)) (slice_get fs f) (deeper d)

  much_deeper : (d e f : ℕ) → d ≤ e → inlined m fs d f ≤ inlined m fs e f
  much_deeper d zero f le = let none : d ≡ 0 = omega (arith, le) in subst (λ (k : ℕ). inlined m fs k f ≤ 0) (sym none) (omega arith)
  much_deeper d (suc e) f le =
      elim (cases_lt e d) [
        | inl less ↦ let same : d ≡ suc e = omega (arith, le, less) in subst (λ (k : ℕ). inlined m fs k f ≤ inlined m fs (suc e) f) (sym same) (omega arith)
        | inr within ↦ let before = much_deeper d e f within in let one = deeper e f in omega (arith, before, one)
      ]

  one_call : (d g h : ℕ) (code : Function) → slice_get fs g ≡ Some code → Contains (calls_of code.body) h → inlined m fs d h ≤ inlined m fs (suc d) g
  one_call d g h code at called =
      let part = part_within (inlined m fs d) (calls_of code.body) called.0 h (slice_get-get_or (calls_of code.body) called.0 h called.1 ∙ ap Some called.2) in
      subst (λ (o : Option Function). inlined m fs d h ≤ with_callees m (inlined m fs d) o) (sym at) (omega (arith, part))

  ends_inside : {f j : ℕ} → f < length fs → Way f j → j < length fs
  ends_inside start Here = start
  ends_inside start (Further way h called inside) = inside

  module _ (acyclic : IsAcyclic fs) where
    along : {f j : ℕ} (d e : ℕ) → f < length fs → Way f j → d + acyclic.rank f ≤ e + acyclic.rank j → inlined m fs d j ≤ inlined m fs e f
    along d e start Here room = much_deeper d e _ (omega (arith, room))
    along {f} d e start (Further {g = g} way h called inside) room =
        let there = get_there fs g (ends_inside start way) in
        let own = subst (λ (xs : List ℕ). Contains xs h) (callees_are fs g there.0 there.1) called in
        let falls = acyclic.falls g h (record { code = there.0; found = there.1; called = own }) in
        let last = one_call d g h there.0 there.1 own in
        let before = along (suc d) e start way (omega (arith, room, falls)) in
        omega (arith, last, before)

    pub positive : (f j : ℕ) (code : Function) → f < length fs → Way f j → slice_get fs j ≡ Some code → 0 < m code → 0 < inlined m fs (length fs) f
    positive f j code start way at own =
        let below = acyclic.below f start in
        let whole = along 1 (length fs) start way (omega (arith, below)) in
        let here = subst (λ (o : Option Function). m code ≤ with_callees m (inlined m fs 0) o) (sym at) (omega arith) in
        omega (arith, whole, here, own)
