-- The least starts of a loop are no later than the sum of the latencies: a solution is cut short, so that each place keeps of its start only
-- the states in which some operation works.
use Rattle.std.proofs.Common.{◌≡◌, ℕ, suc, zero, ◌<◌, ◌≤◌, ◌+◌, ◌-◌, ◌*◌, List, length, Bool, true, false, if◌then◌else◌, ◌&&◌, ◌||◌}
use Rattle.std.proofs.Common.{nat_lt, arith, refl, ap, ℤ, pos, negsuc, ◌+ℤ◌, ◌≤ℤ◌, ◌⊎◌, inl, inr, ⊎_elim}
use Rattle.std.specs.Prelude.{nat_le, slice_index, ◌-ℤ◌}
use Rattle.std.proofs.lemmas.Int.{ints}
use Rattle.std.proofs.lemmas.Bool.{cases_eq, cases_lt}
use Rattle.schedule_sdc.specs.declared.constraint.Constraint.{Constraint}
use Rattle.schedule_sdc.specs.Solution.{rise_of}
use Rattle.op_graph.specs.declared.node.Kind.{Kind}
use Rattle.op_graph.specs.declared.node.Kind.TheVariants.{Global}
use Rattle.op_graph.specs.declared.node.Node.{Node}
use Rattle.op_graph.specs.Graph.{kind_at, latency_of, latency_at, time_before, UseEarlier}
use Rattle.op_graph.proofs.OneByOne.{at_least_one}
use Rattle.op_graph.specs.Table.{Row, Ends, Chained, ChainedTwice, Kept, Awaited, OneGlobal, OneArray, gap_after}
use Rattle.loop_pipeline.specs.declared.table.Carried.{Carried}
use Rattle.loop_pipeline.specs.Table.{AreCarried, LoopRow, Within, Begins, Tested, Follows, Carries, Shares, MeetsLoop}
use Rattle.loop_pipeline.specs.Pipeline.{AreLoopStarts}
use Rattle.loop_pipeline.proofs.LoopRows.{row_inside}

abbrev one_if : Bool → ℕ
one_if b = if b then 1 else 0

-- how many of the states below m lie from a on, g of them
abbrev in_gap : ℕ → ℕ → ℕ → Bool
in_gap a g v = nat_le a v && nat_lt v (a + g)

abbrev in_gap_below : ℕ → ℕ → ℕ → ℕ
in_gap_below a g zero = 0
in_gap_below a g (suc m) = in_gap_below a g m + one_if (in_gap a g m)

in_gap_few : (a g m : ℕ) → (in_gap_below a g m ≤ m - a) × (in_gap_below a g m ≤ g)
in_gap_few a g zero = (omega arith, omega arith)
in_gap_few a g (suc m) = let h = in_gap_few a g m in (grind (arith, h), grind (arith, h))

one_at_most : (b : Bool) → one_if b ≤ 1
one_at_most true = omega arith
one_at_most false = omega arith

either : (b d : Bool) → one_if (b || d) ≤ one_if b + one_if d
either true d = omega arith
either false d = omega arith

module _ (nodes : List Node) (t : ℕ → ℕ) where
  -- one of the first k operations works in state v
  abbrev works : ℕ → ℕ → Bool
  works zero v = false
  works (suc k) v = works k v || in_gap (t k) (latency_at nodes k) v

  -- how many of the states below m are such
  abbrev worked : ℕ → ℕ → ℕ
  worked k zero = 0
  worked k (suc m) = worked k m + one_if (works k m)

  none_works : (m : ℕ) → worked 0 m ≡ 0
  none_works zero = refl
  none_works (suc m) = let h = none_works m in omega (arith, h)

  one_more : (k m : ℕ) → worked (suc k) m ≤ worked k m + in_gap_below (t k) (latency_at nodes k) m
  one_more k zero = omega arith
  one_more k (suc m) =
      let h = one_more k m in
      let e = either (works k m) (in_gap (t k) (latency_at nodes k) m) in
      omega (arith, h, e)

  few_worked : (k m : ℕ) → worked k m ≤ time_before nodes k
  few_worked zero m = let h = none_works m in omega (arith, h)
  few_worked (suc k) m =
      let h = few_worked k m in
      let o = one_more k m in
      let f = in_gap_few (t k) (latency_at nodes k) m in
      omega (arith, h, o, f.1)

  grows : (k m d : ℕ) → (worked k m ≤ worked k (m + d)) × (worked k (m + d) ≤ worked k m + d)
  grows k m zero = let e : m + 0 ≡ m = omega arith in rw e (omega arith, omega arith)
  grows k m (suc d) =
      let h = grows k m d in
      let one = one_at_most (works k (m + d)) in
      let e : m + suc d ≡ suc (m + d) = omega arith in
      rw e (omega (arith, h.0), omega (arith, h.1, one))

  is_working : (k i v : ℕ) → i < k → t i ≤ v → v < t i + latency_at nodes i → works k v ≡ true
  is_working zero i v lt low high = absurd (omega arith)
  is_working (suc k) i v lt low high = ⊎_elim
      (λ e. (let f : in_gap (t k) (latency_at nodes k) v ≡ in_gap (t i) (latency_at nodes i) v = ap (λ z. in_gap (t z) (latency_at nodes z) v)
      (flip i k e) in grind (arith, f)))
      (λ ne. (let h = is_working k i v (omega (arith, ne)) low high in grind (arith, h)))
      (cases_eq i k)
    where
      flip : (a b : ℕ) → a ≡ b → b ≡ a
      flip a b e = omega arith

  -- while an operation works each state counts
  filled : (k i d : ℕ) → i < k → d ≤ latency_at nodes i → worked k (t i + d) ≡ worked k (t i) + d
  filled k i zero lt le = let e : t i + 0 ≡ t i = omega arith in rw e (omega arith)
  filled k i (suc d) lt le =
      let before = filled k i d lt (omega arith) in
      let n = is_working k i (t i + d) lt (omega arith) (omega arith) in
      let one : one_if (works k (t i + d)) ≡ 1 = rw n refl in
      let e : t i + suc d ≡ suc (t i + d) = omega arith in
      rw e (omega (arith, before, one))

  abbrev cut : ℕ → ℕ
  cut i = worked (length nodes) (t i)

  between : (a b : ℕ) → a ≤ b → (worked (length nodes) a ≤ worked (length nodes) b) × (worked (length nodes) b ≤ worked (length nodes) a + (b - a))
  between a b l =
      let e : a + (b - a) ≡ b = omega arith in
      rw e at (grows (length nodes) a (b - a))

  -- a gap is kept that is no greater than the latency of the operation from which it leads
  cut_at : (from to : ℕ) (gap : ℤ) → ((from < length nodes) × (rise_of gap ≤ latency_at nodes from)) ⊎ (rise_of gap ≤ 0) →
      (pos (t from) +ℤ gap) ≤ℤ pos (t to) → (pos (cut from) +ℤ gap) ≤ℤ pos (cut to)
  cut_at from to (pos g) (inl s) m =
      let f = filled (length nodes) from g s.0 s.1 in
      let up = between (t from + g) (t to) (omega (arith, ints, m)) in
      omega (arith, ints, f, up.0)
  cut_at from to (pos g) (inr s) m =
      let z : g ≡ 0 = omega arith in
      let up = between (t from) (t to) (omega (arith, ints, m, z)) in
      omega (arith, ints, z, up.0)
  cut_at from to (negsuc k) s m =
      let up = between (t from) (t to + (k + 1)) (omega (arith, ints, m)) in
      let down = grows (length nodes) (t to) (k + 1) in
      omega (arith, ints, up.0, down.1)

gap_latency : (v : Bool) (x : ℕ) (k : Kind) → k ≡ Global x v → gap_after v ≤ latency_of k
gap_latency true x k e = rw e (omega arith)
gap_latency false x k e = rw e (omega arith)

rise_to : (z : ℤ) (g m : ℕ) → z ≡ pos g → g ≤ m → rise_of z ≤ m
rise_to z g m e l = rw e l

rise_less : (z : ℤ) (a b m : ℕ) → z ≡ pos a -ℤ pos b → a ≤ m + b → rise_of z ≤ m
rise_less (pos g) a b m e l = omega (arith, ints, e)
rise_less (negsuc g) a b m e l = omega arith

module _ (nodes : List Node) (comparison : ℕ) (carried : List Carried) (interval : ℕ) (earlier : UseEarlier nodes) (inside : comparison < length nodes)
    (each : AreCarried (length nodes) carried) (some : 1 ≤ interval) where
  abbrev IsKept : Constraint → Type 0
  IsKept c = ((c.from < length nodes) × (rise_of c.gap ≤ latency_at nodes c.from)) ⊎ (rise_of c.gap ≤ 0)

  row_kept : (c : Constraint) → Row nodes c → IsKept c
  row_kept c (Ends l t g) = inl (l, rise_to c.gap _ _ g (omega arith))
  row_kept c (Chained l u si sj g) = inr (rise_to c.gap 0 0 g (omega arith))
  row_kept c (ChainedTwice j l u v sh sj st g) =
      let a = earlier c.to j l u in
      let b = earlier j c.from (omega arith) v in
      let o = at_least_one (kind_at nodes c.from) in
      inl (omega arith, rise_to c.gap 1 (latency_at nodes c.from) g o)
  row_kept c (Kept l u si cj g) =
      let a = earlier c.to c.from l u in
      let o = at_least_one (kind_at nodes c.from) in
      inl (omega arith, rise_to c.gap 1 (latency_at nodes c.from) g o)
  row_kept c (Awaited l u ci g) = let a = earlier c.to c.from l u in inl (omega arith, rise_to c.gap _ _ g (omega arith))
  row_kept c (OneGlobal x v w lt l p q g) =
      inl (omega arith, rise_to c.gap (gap_after v) (latency_at nodes c.from) g (gap_latency v x (kind_at nodes c.from) p))
  row_kept c (OneArray x v w lt l p q t g) = let o = at_least_one (kind_at nodes c.from) in inl (omega arith, rise_to c.gap 1 (latency_at nodes c.from) g o)

  loop_row_kept : (c : Constraint) → LoopRow nodes comparison carried interval c → IsKept c
  loop_row_kept c (Within r) = row_kept c r
  loop_row_kept c (Begins f t g) = inr (rise_to c.gap 0 0 g (omega arith))
  loop_row_kept c (Tested f a t g) = let o = at_least_one (kind_at nodes c.from) in inl (omega arith, rise_to c.gap 1 (latency_at nodes c.from) g o)
  loop_row_kept c (Follows f t g) = inr (rise_less c.gap 1 interval 0 g (omega arith))
  loop_row_kept c (Carries k m f t g) =
      let is = each.each k m in
      let e : latency_at nodes k.from ≡ latency_at nodes c.from = ap (latency_at nodes) (omega arith) in
      inl (omega (arith, is.from), rise_less c.gap (latency_at nodes k.from) (k.turns * interval) (latency_at nodes c.from) g (omega (arith, e)))
  loop_row_kept c (Shares x v w f t p q o g) = inr (rise_less c.gap 1 interval 0 g (omega arith))

  cut_meets : (t : ℕ → ℕ) → MeetsLoop nodes comparison carried interval t → MeetsLoop nodes comparison carried interval (cut nodes t)
  cut_meets t m c r = cut_at nodes t c.from c.to c.gap (loop_row_kept c r) (m c r)

  -- NO START IS LATER than the sum of the latencies, that of the iteration's end among them
  pub starts_short : (starts : List ℕ) → AreLoopStarts nodes comparison carried interval starts → (i : ℕ) → i < length nodes + 2 →
      slice_index starts i ≤ time_before nodes (length nodes)
  starts_short starts s i lt =
      let least = s.least (cut nodes (slice_index starts)) (cut_meets (slice_index starts) s.meets) i lt in
      let few = few_worked nodes (slice_index starts) (length nodes) (slice_index starts i) in
      omega (arith, least, few)

  -- ---- the iteration starts at 0: else all could start so much earlier

  module _ (starts : List ℕ) (s : AreLoopStarts nodes comparison carried interval starts) where
    abbrev begin : ℕ
    begin = slice_index starts (length nodes + 1)

    operation_later : (k : ℕ) → k < length nodes → begin ≤ slice_index starts k
    operation_later k lt =
        let m = s.meets (record { from = length nodes + 1; to = k; gap = pos 0 }) (Begins refl lt refl) in
        omega (arith, ints, m)

    end_later : begin ≤ slice_index starts (length nodes)
    end_later =
        let m = s.meets (record { from = comparison; to = length nodes; gap = pos (latency_at nodes comparison) }) (Within (Ends inside refl refl)) in
        let o = operation_later comparison inside in
        omega (arith, ints, m, o)

    each_later : (k : ℕ) → k < length nodes + 2 → begin ≤ slice_index starts k
    each_later k lt = ⊎_elim
        (λ low. operation_later k low)
        (λ ge. ⊎_elim
        (λ e. (let f : slice_index starts k ≡ slice_index starts (length nodes) = ap (slice_index starts) e in let h = end_later in omega (arith, f, h)))
        (λ ne. (let e : k ≡ length nodes + 1 = omega (arith, ne) in let f : slice_index starts k ≡ begin = ap (slice_index starts) e in omega (arith, f)))
        (cases_eq k (length nodes)))
        (cases_lt k (length nodes))

    abbrev moved : ℕ → ℕ
    moved k = slice_index starts k - begin

    moved_meets : MeetsLoop nodes comparison carried interval moved
    moved_meets c r =
        let in_ = row_inside nodes comparison carried interval earlier inside each c r in
        let a = each_later c.from in_.0 in
        let b = each_later c.to in_.1 in
        let m = s.meets c r in
        omega (arith, ints, a, b, m)

    pub begins_at_zero : slice_index starts (length nodes + 1) ≡ 0
    begins_at_zero = let h = s.least moved moved_meets (length nodes + 1) (omega arith) in omega (arith, h)
