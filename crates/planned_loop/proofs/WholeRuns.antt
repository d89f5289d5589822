-- What a pipelined loop does from its start to its end.
use Rattle.std.specs.Prelude.{nat_eq, Bool, true, false, not, ℤ}
use Rattle.std.proofs.Common.{◌≡◌, ℕ, zero, suc, ◌+◌, ◌-◌, ◌*◌, ◌/◌, ◌<◌, ◌≤◌, refl, sym, ap, ◌∙◌, subst, ◌⊎◌, inl, inr, ⊎_elim, arith}
use Rattle.std.proofs.lemmas.Bool.{cases_eq}
use Rattle.std.proofs.lemmas.Nat.{div-add-mod', mul-le, same_from_place}
use Rattle.interleaving.specs.Memory.{Memory}
use Rattle.interleaving.specs.Source.{Source}
use Rattle.planned_block.specs.Slot.{Slot}
use Rattle.planned_block.proofs.Bits.{other_is, less_or_not, both_true}
use Rattle.planned_loop.specs.Loop.{Loop, Iterations, AreIterations, holds, runs}
use Rattle.planned_loop.specs.Plan.{LoopPlan, KeepsLoop}
use Rattle.planned_loop.specs.Move.{smaller, prologue, goes_round}
use Rattle.planned_loop.specs.Moment.{over_in, IsAt}
use Rattle.planned_loop.specs.Law.{IsOver}
use Rattle.planned_loop.specs.Next.{Owner, AreOwners, wires, is_leaving, loop_next}
use Rattle.planned_loop.specs.Rest.{Does, TakesTurns}
use Rattle.planned_loop.specs.Time.{Place, place_after}
use Rattle.planned_loop.specs.Runs.{RunsLoop, LoopRuns, LoopIsShort}
use Rattle.planned_loop.specs.Table.{plan_by}
use Rattle.planned_loop.proofs.RoundNumbers.{rounds_are}
use Rattle.planned_loop.proofs.RoundEnds.{loop_ends}
use Rattle.planned_loop.proofs.NextSlots.{loop_moves}
use Rattle.planned_loop.proofs.PaidSteps.{turns_many, does_both}
use Rattle.planned_loop.proofs.IterationTimes as time
use Rattle.planned_loop.specs.Runs as said

module _ {Local State : Type 0} (P : Source ℤ Local State) (Starts Exits : ℕ → Local → Type 0) (l : Loop) (p : LoopPlan) (it : Iterations) (owner : ℕ → Owner)
    (exit steps tested : ℕ) (x : Local) (q : Slot)
    (are : AreIterations l it) (keeps : KeepsLoop l p) (owners : AreOwners l p owner) (takes : TakesTurns P l it steps tested Starts Exits)
    (starts : Starts 0 x) (at0 : IsAt l p it 0 0 q) where
  abbrev place : ℕ → Place
  place m = place_after l p owner exit q m

  abbrev StaysTo : ℕ → Type 0
  StaysTo m = said.StaysTo P Starts Exits l p it owner exit steps tested x q m

  abbrev Leaves : Place → Type 0
  Leaves z = said.Leaves P Starts Exits l p it owner exit steps tested x q z

  at_place : (m : ℕ) → StaysTo m → IsAt l p it (place m).round (place m).phase (place m).slot
  at_place m s = time.at_after l p it owner exit are keeps owners q at0 m s

  time_at : (m : ℕ) → StaysTo m → (place m).round * p.interval + (place m).phase ≡ m
  time_at m s = time.time_after l p it owner exit are keeps owners q at0 m s

  many : (n : ℕ) (memory : Memory ℤ) → runs l it n ≡ true → Does P (n * steps) x memory (Starts n)
  many n memory run =
      let z : 0 + n ≡ n = omega arith in
      subst (λ k. Does P (n * steps) x memory (Starts k)) z
      (turns_many P l p it steps tested p.interval Starts Exits are keeps (omega arith) takes n 0 x memory starts (ap (runs l it) z ∙ run))

  first : (m : ℕ) → StaysTo m → p.stages * p.interval ≤ m → 0 < over_in l p it (place m).round
  first m s le =
      let t = time_at m s in
      let i = (at_place m s).inside in
      ⊎_elim
      (λ lt. (let h = mul-le (suc (place m).round) p.interval p.stages p.interval lt (omega arith) in
      let e : suc (place m).round * p.interval ≡ (place m).round * p.interval + p.interval = grind arith in
      absurd (omega (arith, t, i, h, e, le))))
      (λ ge. omega (arith, ge))
      (less_or_not (place m).round p.stages)

  next : (m : ℕ) → StaysTo (m + p.interval) → p.stages * p.interval ≤ m + p.interval →
      over_in l p it (place (m + p.interval)).round ≡ suc (over_in l p it (place m).round)
  next m s le =
      let rest = λ (k : ℕ) (lt : k < m). s k (omega (arith, lt)) in
      let t = time_at m rest in
      let u = time_at (m + p.interval) s in
      let i = (at_place m rest).inside in
      let j = (at_place (m + p.interval) s).inside in
      let e : suc (place m).round * p.interval ≡ (place m).round * p.interval + p.interval = grind arith in
      let same = same_from_place (place (m + p.interval)).round (place (m + p.interval)).phase (suc (place m).round) (place m).phase p.interval j i
      (omega (arith, t, u, e)) in
      let r : (place (m + p.interval)).round ≡ suc (place m).round = same.0 in
      let low : p.stages ≤ suc (place m).round = ⊎_elim
      (λ lt. (let h = mul-le (suc (suc (place m).round)) p.interval p.stages p.interval lt (omega arith) in
      let f : suc (suc (place m).round) * p.interval ≡ suc (place m).round * p.interval + p.interval = grind arith in
      absurd (omega (arith, t, i, h, e, f, le))))
      (λ ge. ge)
      (less_or_not (suc (place m).round) p.stages) in
      omega (arith, r, low)

  leaves : (memory : Memory ℤ) (m : ℕ) → StaysTo m → Leaves (place m) →
      (n : ℕ) × IsOver l p it n (place (suc m)).slot × Does P (n * steps + tested) x memory (Exits n)
  leaves memory m s out =
      let z = place m in
      let r = smaller z.round (prologue p) in
      let w = wires l p owner exit r z.phase z.slot in
      let both = both_true (nat_eq (suc z.phase) p.interval) (not (goes_round l p r z.phase z.slot w)) out in
      let e : suc z.phase ≡ p.interval = ⊎_elim (λ e. e)
      (λ ne. (let f : nat_eq (suc z.phase) p.interval ≡ false = other_is (suc z.phase) p.interval ne in different
      (nat_eq (suc z.phase) p.interval) both.0 f)) (cases_eq (suc z.phase) p.interval) in
      let rounds = (loop_moves l p owner exit r z.phase z.slot keeps owners).1 e in
      let over = (loop_ends l p it are keeps z.round z.phase z.slot (loop_next l p owner exit r z.phase z.slot) w (at_place m s) rounds).1
      (false_of (goes_round l p r z.phase z.slot w) both.1) in
      let n = over.0 in
      let o = over.1 in (
        n,
        o,
        does_both P (n * steps) tested x memory (Starts n) (Exits n) (many n memory o.running) (λ y t. takes.exits memory n y t o.fails),
      )
    where
      different : (b : Bool) → b ≡ true → b ≡ false → suc (place m).phase ≡ p.interval
      different true t f = absurd cc
      different false t f = absurd cc

      false_of : (b : Bool) → not b ≡ true → b ≡ false
      false_of true e = absurd cc
      false_of false e = refl

  abbrev LeavesBefore : ℕ → Type 0
  LeavesBefore m = (k : ℕ) × (k < m) × StaysTo k × Leaves (place k)

  -- it stays so long, or has left before
  stays_or_left : (m : ℕ) → StaysTo m ⊎ LeavesBefore m
  stays_or_left zero = inl (λ k lt. absurd (omega arith))
  stays_or_left (suc m) = ⊎_elim
      (λ s. here s (is_leaving l p owner exit (smaller (place m).round (prologue p)) (place m).phase (place m).slot) refl)
      (λ d. inr (d.0, later d.0 d.1, d.2, d.3))
      (stays_or_left m)
    where
      later : (k : ℕ) → k < m → k < suc m
      later k lt = omega (arith, lt)

      here : StaysTo m → (b : Bool) → is_leaving l p owner exit (smaller (place m).round (prologue p)) (place m).phase (place m).slot ≡ b →
          StaysTo (suc m) ⊎ LeavesBefore (suc m)
      here s true e = inr (m, omega arith, s, e)
      here s false e = inl (λ k lt. ⊎_elim
          (λ z. subst (λ n. is_leaving l p owner exit (smaller (place n).round (prologue p)) (place n).phase (place n).slot ≡ false) (sym z) e)
          (λ ne. s k (omega (arith, ne))) (cases_eq k m))

  ends : (j : ℕ) → holds l it j ≡ false → LeavesBefore ((j + p.stages) * p.interval)
  ends j fails = ⊎_elim (λ s. too_long s) (λ d. d) (stays_or_left ((j + p.stages) * p.interval))
    where
      too_long : StaysTo ((j + p.stages) * p.interval) → LeavesBefore ((j + p.stages) * p.interval)
      too_long s =
          let at = at_place ((j + p.stages) * p.interval) s in
          let t = time_at ((j + p.stages) * p.interval) s in
          let i = at.inside in
          let same = same_from_place (place ((j + p.stages) * p.interval)).round (place ((j + p.stages) * p.interval)).phase (j + p.stages) 0 p.interval i
          (omega (arith, i)) (omega (arith, t)) in
          let r : (place ((j + p.stages) * p.interval)).round ≡ j + p.stages = same.0 in
          let o : over_in l p it (place ((j + p.stages) * p.interval)).round ≡ suc j = omega (arith, r) in
          let run : runs l it (suc j) ≡ true = sym (ap (runs l it) o) ∙ at.running in
          let held = (both_true (runs l it j) (holds l it j) run).1 in
          absurd cc

  runs_loop : RunsLoop P Starts Exits l p it owner exit steps tested x q
  runs_loop = record {
    follows = λ memory m s. many (over_in l p it (place m).round) memory (at_place m s).running;
    first = first;
    next = next;
    leaves = leaves;
    ends = ends;
  }

pub loop_runs : {Local State : Type 0} (P : Source ℤ Local State) (Starts Exits : ℕ → Local → Type 0) → LoopRuns P Starts Exits
loop_runs P Starts Exits l p it owner exit steps tested x q are keeps owners takes starts at = runs_loop P Starts Exits l p it owner exit steps tested x q are
    keeps owners takes starts at

pub loop_is_short : LoopIsShort
loop_is_short l interval depth start register bit some = (stages_low, cycles_low)
  where
    stages : ℕ
    stages = (depth + (interval - 1)) / interval

    stages_low : stages * interval ≤ depth + (interval - 1)
    stages_low = let d = div-add-mod' (depth + (interval - 1)) interval in omega (arith, d)

    rounds : ℕ
    rounds = prologue (plan_by l interval depth start register bit)

    cycles_low : (rounds + 1) * interval - 0 ≤ 2 * interval + depth
    cycles_low =
        let b = rounds_are stages in
        let e : (rounds + 1) * interval ≡ rounds * interval + interval = grind arith in
        ⊎_elim
        (λ one. (let f : rounds * interval ≡ 1 * interval = ap (λ z. z * interval) one in omega (arith, e, f)))
        (λ more. (let one = b.0 in let le = mul-le (rounds + 1) interval stages interval (omega (arith, more, one)) (omega arith) in let s = stages_low in omega
        (arith, le, s)))
        b.2
