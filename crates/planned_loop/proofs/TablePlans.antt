-- Starts that meet the table give a plan that keeps the loop.
use Rattle.std.specs.Prelude.{Bool, true, false}
use Rattle.std.proofs.Common.{◌≡◌, ℕ, zero, suc, ◌+◌, ◌-◌, ◌*◌, ◌/◌, ◌%◌, ◌<◌, ◌≤◌, refl, ap, subst, ◌⊎◌, inl, inr, ⊎_elim, arith}
use Rattle.std.proofs.lemmas.Bool.{cases_eq}
use Rattle.std.proofs.lemmas.Nat.{div-add-mod', mul-le}
use Rattle.planned_block.specs.Block.{Kind, Simple, Multiply, Divide, BankRead, BankWrite, ArrayRead, ArrayWrite}
use Rattle.planned_block.specs.Block.{Operand, operation_at, size, UsesIn, Uses}
use Rattle.planned_block.specs.Plan.{further_states, is_simple, target_of, OfArray}
use Rattle.planned_block.proofs.Bits.{less_or_not}
use Rattle.planned_loop.specs.Loop.{Loop}
use Rattle.planned_loop.specs.Plan.{LoopPlan, IsOperand, Comes, IsBefore, IsBeside, KeepsLoop}
use Rattle.planned_loop.specs.Table.{IsLoop, MeetsLoopTable, last, plan_by}
use Rattle.planned_loop.specs.Law.{TableKeepsLoop}

-- one state before another one that is so many intervals later, by stages and phases
before_is : (interval a b t : ℕ) → 0 < interval → a < b + t * interval →
    (a / interval < b / interval + t) ⊎ ((a / interval ≡ b / interval + t) × (a % interval < b % interval))
before_is interval a b t some less = ⊎_elim (λ lt. inl lt) (λ ge. ⊎_elim same more (cases_eq (a / interval) (b / interval + t)))
    (less_or_not (a / interval) (b / interval + t))
  where
    da : a / interval * interval + a % interval ≡ a
    da = div-add-mod' a interval

    db : b / interval * interval + b % interval ≡ b
    db = div-add-mod' b interval

    same : a / interval ≡ b / interval + t → (a / interval < b / interval + t) ⊎ ((a / interval ≡ b / interval + t) × (a % interval < b % interval))
    same e =
        let f : a / interval * interval ≡ (b / interval + t) * interval = ap (λ z. z * interval) e in
        let g : (b / interval + t) * interval ≡ b / interval * interval + t * interval = grind arith in
        inr (e, omega (arith, f, g, da, db))

    more : (a / interval ≡ b / interval + t → ⊥) → (a / interval < b / interval + t) ⊎ ((a / interval ≡ b / interval + t) × (a % interval < b % interval))
    more ne = ⊎_elim (λ lt. inl lt) (λ ge.
        (let up : b / interval + t + 1 ≤ a / interval = omega (arith, ne, ge) in
        let m = mul-le (b / interval + t + 1) interval (a / interval) interval up (omega arith) in
        let g : (b / interval + t + 1) * interval ≡ b / interval * interval + t * interval + interval = grind arith in
        let h : b % interval < interval = omega arith in
        absurd (omega (arith, m, g, h, da, db)))) (less_or_not (a / interval) (b / interval + t))

-- an iteration has stages for all of its states
whole_stages : (interval depth a : ℕ) → 0 < interval → a < depth → a / interval < (depth + (interval - 1)) / interval
whole_stages interval depth a some less = ⊎_elim (λ lt. lt) (λ ge.
    (let m = mul-le ((depth + (interval - 1)) / interval) interval (a / interval) interval ge (omega arith) in
    let d = div-add-mod' (depth + (interval - 1)) interval in
    let e = div-add-mod' a interval in
    let h : (depth + (interval - 1)) % interval < interval = omega arith in
    absurd (omega (arith, m, d, e, h)))) (less_or_not (a / interval) ((depth + (interval - 1)) / interval))

below_one : (interval a : ℕ) → a < interval → a / interval ≡ 0
below_one interval a less = ⊎_elim (λ z. z) (λ ne.
    (let up : 1 ≤ a / interval = omega (arith, ne) in
    let m = mul-le 1 interval (a / interval) interval up (omega arith) in
    let e = div-add-mod' a interval in
    absurd (omega (arith, m, e)))) (cases_eq (a / interval) 0)

simple_states : (kind : Kind) → is_simple kind ≡ true → further_states kind ≡ 0
simple_states (Simple f) e = refl
simple_states (Multiply f) e = absurd cc
simple_states (Divide f) e = absurd cc
simple_states (BankRead x) e = absurd cc
simple_states (BankWrite x) e = absurd cc
simple_states (ArrayRead x) e = absurd cc
simple_states (ArrayWrite x) e = absurd cc

array_states : (kind : Kind) (x : ℕ) (w : Bool) → target_of kind ≡ OfArray x w → further_states kind ≡ 0
array_states (Simple f) x w e = refl
array_states (Multiply f) x w e = absurd cc
array_states (Divide f) x w e = absurd cc
array_states (BankRead y) x w e = absurd cc
array_states (BankWrite y) x w e = refl
array_states (ArrayRead y) x w e = refl
array_states (ArrayWrite y) x w e = refl

module _ (l : Loop) (interval depth : ℕ) (start : ℕ → ℕ) (register : ℕ → ℕ → ℕ) (bit : ℕ → ℕ) (is : IsLoop l)
    (meets : MeetsLoopTable l interval depth start) where
  abbrev p : LoopPlan
  p = plan_by l interval depth start register bit

  abbrev final_state : ℕ → ℕ
  final_state k = last l interval depth start k

  some_interval : 0 < interval
  some_interval = let f = meets.follows in omega arith

  ordered_by : (i j t : ℕ) → final_state i < final_state j + t * interval → IsBefore l p i j t
  ordered_by i j t less = before_is interval (final_state i) (final_state j) t some_interval less

  now_by : (i j : ℕ) → final_state i < final_state j → IsBefore l p i j 0
  now_by i j less = ordered_by i j 0 (let z : 0 * interval ≡ 0 = omega arith in omega (arith, z))

  next_by : (i j : ℕ) → final_state i < final_state j + interval → IsBefore l p i j 1
  next_by i j less = ordered_by i j 1 (let z : 1 * interval ≡ interval = grind arith in omega (arith, z))

  -- an operand of the same iteration
  used : (i k : ℕ) → k < size l.block → Uses (operation_at l.block k) i → final_state i ≤ final_state k
  used i k lt u = by_kinds (is_simple (operation_at l.block i).kind) (is_simple (operation_at l.block k).kind) refl refl
    where
      by_kinds : (b c : Bool) → is_simple (operation_at l.block i).kind ≡ b → is_simple (operation_at l.block k).kind ≡ c → final_state i ≤ final_state k
      by_kinds true true s t = let e = simple_states (operation_at l.block i).kind s in let h = meets.chained i k lt u s t in omega (arith, e, h)
      by_kinds true false s t = let e = simple_states (operation_at l.block i).kind s in let h = meets.kept i k lt u s t in omega (arith, e, h)
      by_kinds false c s t = let h = meets.awaited i k lt u s in omega (arith, h)

  beside_or_before : (i k : ℕ) → final_state i ≤ final_state k → IsBefore l p i k 0 ⊎ IsBeside l p i k 0
  beside_or_before i k le = ⊎_elim
      (λ e. inr (refl, ap (λ z. z / interval) e, ap (λ z. z % interval) e))
      (λ ne. inl (now_by i k (omega (arith, ne))))
      (cases_eq (final_state i) (final_state k))

  operand_used : (k i : ℕ) (a : Operand) → IsOperand (operation_at l.block k) a → UsesIn a i → Uses (operation_at l.block k) i
  operand_used k i a (inl e) u = inl (subst (λ z. UsesIn z i) e u)
  operand_used k i a (inr e) u = inr (subst (λ z. UsesIn z i) e u)

  waits_for : (k t i : ℕ) (a : Operand) → k < size l.block → IsOperand (operation_at l.block k) a → Comes l.block.finals t a i →
      IsBefore l p i k t ⊎ IsBeside l p i k t
  waits_for k zero i a lt o c = beside_or_before i k (used i k lt (operand_used k i a o c))
  waits_for k (suc t) i a lt o c = inl (ordered_by i k (suc t) (let h = meets.carried k t i a lt o c in omega (arith, h)))

  stages_are : (k : ℕ) → k < size l.block → final_state k / interval < (depth + (interval - 1)) / interval
  stages_are k lt = let h = meets.ends k lt in whole_stages interval depth (final_state k) some_interval (omega (arith, h))

  first_stage : final_state l.comparison / interval ≡ 0
  first_stage = let e = simple_states (operation_at l.block l.comparison).kind is.simple in let f = meets.follows in
      below_one interval (final_state l.comparison) (omega (arith, e, f))

  keeps_loop : KeepsLoop l p
  keeps_loop = record {
    some = (let h = stages_are l.comparison is.compares in omega arith);
    inside = λ k lt. (stages_are k lt, (let s = some_interval in omega arith));
    earlier = is.earlier;
    final = is.final;
    compares = is.compares;
    first = first_stage;
    tested = λ k less lt. now_by l.comparison k
        (let h = meets.tested k less lt in let e = simple_states (operation_at l.block l.comparison).kind is.simple in omega (arith, h, e));
    waits = waits_for;
    ordered = λ j k x v w less lt a b e.
        now_by j k (let h = meets.one_array j k x v w less lt a b e in let f = array_states (operation_at l.block j).kind x v a in let g = array_states
        (operation_at l.block k).kind x w b in omega (arith, h, f, g));
    apart = λ j k x v w lj lk a b e.
        next_by j k (let h = meets.shares j k x v w lj lk a b e in let f = array_states (operation_at l.block j).kind x v a in let g = array_states
        (operation_at l.block k).kind x w b in omega (arith, h, f, g));
    writes = is.writes;
    local = is.local;
  }

-- THE TABLE KEEPS THE LOOP
pub table_keeps_loop : TableKeepsLoop
table_keeps_loop l interval depth start register bit is meets = keeps_loop l interval depth start register bit is meets
