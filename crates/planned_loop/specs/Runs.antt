-- What a pipelined loop does from its start to its end.
use Rattle.std.specs.Prelude.{◌-◌, ◌≡◌, ℕ, suc, ◌+◌, ◌*◌, ◌<◌, ◌≤◌, ℤ, true, false}
use Rattle.interleaving.specs.Memory.{Memory}
use Rattle.interleaving.specs.Source.{Source}
use Rattle.planned_block.specs.Slot.{Slot}
use Rattle.planned_loop.specs.Loop.{Loop, Iterations, AreIterations, holds}
use Rattle.planned_loop.specs.Plan.{LoopPlan, KeepsLoop}
use Rattle.planned_loop.specs.Move.{smaller, prologue}
use Rattle.planned_loop.specs.Moment.{over_in, IsAt}
use Rattle.planned_loop.specs.Law.{IsOver}
use Rattle.planned_loop.specs.Next.{Owner, AreOwners, is_leaving}
use Rattle.planned_loop.specs.Table.{plan_by}
use Rattle.planned_loop.specs.Rest.{Does, TakesTurns, cycles_left}
use Rattle.planned_loop.specs.Time.{Place, place_after, Stays}

module _ {Local State : Type 0} (P : Source ℤ Local State) (Starts Exits : ℕ → Local → Type 0) (l : Loop) (p : LoopPlan) (it : Iterations) (owner : ℕ → Owner)
    (exit steps tested : ℕ) (x : Local) (q : Slot) where
  abbrev pub place : ℕ → Place
  place = place_after l p owner exit q

  -- the first m moves do not leave the loop
  abbrev pub StaysTo : ℕ → Type 0
  StaysTo m = (k : ℕ) → k < m → Stays l p owner exit (place k)

  abbrev pub Leaves : Place → Type 0
  Leaves z = is_leaving l p owner exit (smaller z.round (prologue p)) z.phase z.slot ≡ true

  -- how many iterations are behind the thread after m moves
  abbrev pub behind : ℕ → ℕ
  behind m = over_in l p it (place m).round

  pub record RunsLoop : Type 0 where
    -- the thread has all steps of these iterations behind it, and no access of a global
    pub follows : (memory : Memory ℤ) (m : ℕ) → StaysTo m → Does P (behind m * steps) x memory (Starts (behind m))
    -- the first one after so many intervals as there are stages, and from then on another one with each interval
    pub first : (m : ℕ) → StaysTo m → p.stages * p.interval ≤ m → 0 < behind m
    pub next : (m : ℕ) → StaysTo (m + p.interval) → p.stages * p.interval ≤ m + p.interval → behind (m + p.interval) ≡ suc (behind m)
    -- the loop is left where C leaves it, with what its iterations give, and the thread has all steps behind it
    pub leaves : (memory : Memory ℤ) (m : ℕ) → StaysTo m → Leaves (place m) →
        (n : ℕ) × IsOver l p it n (place (suc m)).slot × Does P (n * steps + tested) x memory (Exits n)
    -- and it is left, if a comparison fails
    pub ends : (j : ℕ) → holds l it j ≡ false → (m : ℕ) × (m < (j + p.stages) * p.interval) × StaysTo m × Leaves (place m)

-- THE LOOP RUNS as its iterations do
abbrev pub LoopRuns : {Local State : Type 0} → Source ℤ Local State → (ℕ → Local → Type 0) → (ℕ → Local → Type 0) → Type 0
LoopRuns {Local = Local} P Starts Exits =
    (l : Loop) (p : LoopPlan) (it : Iterations) (owner : ℕ → Owner) (exit steps tested : ℕ) (x : Local) (q : Slot) → AreIterations l it → KeepsLoop l p →
    AreOwners l p owner →
    TakesTurns P l it steps tested Starts Exits → Starts 0 x → IsAt l p it 0 0 q → RunsLoop P Starts Exits l p it owner exit steps tested x q

-- IT IS SHORT: by the starts of a plan, its stages take no more than the depth and an interval, and so do the cycles to a step
abbrev pub LoopIsShort : Type 0
LoopIsShort =
    (l : Loop) (interval depth : ℕ) (start : ℕ → ℕ) (register : ℕ → ℕ → ℕ) (bit : ℕ → ℕ) → 0 < interval →
    ((plan_by l interval depth start register bit).stages * interval ≤ depth + (interval - 1))
    × (cycles_left (plan_by l interval depth start register bit) 0 ≤ 2 * interval + depth)
