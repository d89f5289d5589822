-- Where the gaps above 0 have a sum below 2 ^ 64, constraints that can be met can be met within 64 bits.
-- A solution is cut short: each place keeps of its start only the states that some gap needs.
use Rattle.std.proofs.Common.{◌≡◌, ℕ, suc, zero, ◌<◌, ◌≤◌, ◌+◌, ◌-◌, ◌^◌, List, [], ◌∷◌, length, get_or, Bool, true, false, if◌then◌else◌, ◌&&◌, ◌||◌}
use Rattle.std.proofs.Common.{nat_lt, arith, refl, ap, ℤ, pos, negsuc, ◌+ℤ◌, ◌≤ℤ◌}
use Rattle.std.specs.Prelude.{nat_le}
use Rattle.std.specs.List.{Contains}
use Rattle.std.proofs.lemmas.Int.{ints}
use Rattle.std.proofs.lemmas.List.Elements.{All-contains, All-contains_itself}
use Rattle.schedule_sdc.specs.declared.constraint.Constraint.{Constraint}
use Rattle.schedule_sdc.specs.Solution.{rise_of, gap_sum, Meets, IsSolution, FitsIfSolvable}

abbrev one_if : Bool → ℕ
one_if b = if b then 1 else 0

-- how many of the states below m lie from a on, g of them
abbrev in_gap : ℕ → ℕ → ℕ → Bool
in_gap a g v = nat_le a v && nat_lt v (a + g)

abbrev in_gap_below : ℕ → ℕ → ℕ → ℕ
in_gap_below a g zero = 0
in_gap_below a g (suc m) = in_gap_below a g m + one_if (in_gap a g m)

in_gap_few : (a g m : ℕ) → (in_gap_below a g m ≤ m - a) × (in_gap_below a g m ≤ g)
in_gap_few a g zero = (omega arith, omega arith)
in_gap_few a g (suc m) = let h = in_gap_few a g m in (grind (arith, h), grind (arith, h))

module _ (t : ℕ → ℕ) where
  -- some constraint's gap needs the state v
  abbrev needed : List Constraint → ℕ → Bool
  needed [] v = false
  needed (c ∷ list) v = in_gap (t c.from) (rise_of c.gap) v || needed list v

  -- how many of the states below m are needed
  abbrev needed_below : List Constraint → ℕ → ℕ
  needed_below list zero = 0
  needed_below list (suc m) = needed_below list m + one_if (needed list m)

  one_at_most : (b : Bool) → one_if b ≤ 1
  one_at_most true = omega arith
  one_at_most false = omega arith

  either : (b d : Bool) → one_if (b || d) ≤ one_if b + one_if d
  either true d = omega arith
  either false d = omega arith

  split : (c : Constraint) (list : List Constraint) (m : ℕ) → needed_below (c ∷ list) m ≤ in_gap_below (t c.from) (rise_of c.gap) m + needed_below list m
  split c list zero = omega arith
  split c list (suc m) =
      let h = split c list m in
      let e = either (in_gap (t c.from) (rise_of c.gap) m) (needed list m) in
      omega (arith, h, e)

  no_more : (list : List Constraint) (m : ℕ) → needed_below list m ≤ gap_sum list
  no_more [] zero = omega arith
  no_more [] (suc m) = let h = no_more [] m in omega (arith, h)
  no_more (c ∷ list) m =
      let s = split c list m in
      let few = in_gap_few (t c.from) (rise_of c.gap) m in
      let h = no_more list m in
      omega (arith, s, few.1, h)

  grows : (list : List Constraint) (m k : ℕ) → (needed_below list m ≤ needed_below list (m + k)) × (needed_below list (m + k) ≤ needed_below list m + k)
  grows list m zero = let e : m + 0 ≡ m = omega arith in rw e (omega arith, omega arith)
  grows list m (suc k) =
      let h = grows list m k in
      let one = one_at_most (needed list (m + k)) in
      let e : m + suc k ≡ suc (m + k) = omega arith in
      rw e (omega (arith, h.0), omega (arith, h.1, one))

  needs : (list : List Constraint) (k : ℕ) (c : Constraint) (v : ℕ) → k < length list → get_or list k c ≡ c → t c.from ≤ v → v < t c.from + rise_of c.gap → needed list v ≡ true
  needs [] k c v l e low high = absurd (omega arith)
  needs (d ∷ list) zero c v l e low high =
      let same : d ≡ c = e in
      rw same (grind arith)
  needs (d ∷ list) (suc k) c v l e low high =
      let h = needs list k c v (omega arith) e low high in
      grind (arith, h)

  filled : (list : List Constraint) (c : Constraint) → Contains list c → (k : ℕ) → k ≤ rise_of c.gap → needed_below list (t c.from + k) ≡ needed_below list (t c.from) + k
  filled list c h zero l = let e : t c.from + 0 ≡ t c.from = omega arith in rw e (omega arith)
  filled list c h (suc k) l =
      let before = filled list c h k (omega arith) in
      let n = needs list h.0 c (t c.from + k) h.1 h.2 (omega arith) (omega arith) in
      let one : one_if (needed list (t c.from + k)) ≡ 1 = rw n refl in
      let e : t c.from + suc k ≡ suc (t c.from + k) = omega arith in
      rw e (omega (arith, before, one))

  abbrev cut : List Constraint → ℕ → ℕ
  cut list i = needed_below list (t i)

  between : (list : List Constraint) (a b : ℕ) → a ≤ b → (needed_below list a ≤ needed_below list b) × (needed_below list b ≤ needed_below list a + (b - a))
  between list a b l =
      let e : a + (b - a) ≡ b = omega arith in
      rw e at (grows list a (b - a))

  cut_at : (list : List Constraint) (c : Constraint) → Contains list c → (gap : ℤ) → c.gap ≡ gap → (pos (t c.from) +ℤ gap) ≤ℤ pos (t c.to) → (pos (cut list c.from) +ℤ gap) ≤ℤ pos (cut list c.to)
  cut_at list c h (pos g) e m =
      let r : rise_of c.gap ≡ g = ap rise_of e in
      let f = filled list c h g (omega (arith, r)) in
      let up = between list (t c.from + g) (t c.to) (omega (arith, ints, m)) in
      omega (arith, ints, f, up.0)
  cut_at list c h (negsuc k) e m =
      let up = between list (t c.from) (t c.to + (k + 1)) (omega (arith, ints, m)) in
      let down = grows list (t c.to) (k + 1) in
      omega (arith, ints, up.0, down.1)

  cut_meets : (list : List Constraint) → IsSolution list t → (c : Constraint) → Contains list c → Meets (cut list) c
  cut_meets list solves c h = cut_at list c h c.gap refl (All-contains (Meets t) list c solves h)

pub sums_fit : (n : ℕ) (list : List Constraint) → gap_sum list < 2 ^ 64 → FitsIfSolvable n list
sums_fit n list few = record {
  small = λ t solves. (
    cut t list,
    λ k d l. cut_meets t list solves (get_or list k d) (All-contains_itself list k d l),
    λ i l. (let h = no_more t list (t i) in omega (arith, h, few)),
  );
}
