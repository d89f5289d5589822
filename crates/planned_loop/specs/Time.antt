-- When the iterations of a pipelined loop begin.
use Rattle.std.specs.Prelude.{◌≡◌, ℕ, zero, suc, ◌+◌, ◌*◌, ◌<◌, nat_eq, true, false, if◌then◌else◌}
use Rattle.planned_block.specs.Slot.{Slot}
use Rattle.planned_loop.specs.Loop.{Loop, Iterations, AreIterations, runs}
use Rattle.planned_loop.specs.Plan.{LoopPlan, KeepsLoop}
use Rattle.planned_loop.specs.Move.{smaller, prologue, is_running}
use Rattle.planned_loop.specs.Moment.{IsAt}
use Rattle.planned_loop.specs.Next.{Owner, AreOwners, wires, is_leaving, loop_next}

-- a slot in a loop, in a phase of a round, the rounds being counted from the loop's start
pub record Place : Type 0 where
  pub round : ℕ
  pub phase : ℕ
  pub slot : Slot

module _ (l : Loop) (p : LoopPlan) (owner : ℕ → Owner) (exit : ℕ) where
  abbrev pub place_next : Place → Place
  place_next z = record {
    round = if nat_eq (suc z.phase) p.interval then suc z.round else z.round;
    phase = if nat_eq (suc z.phase) p.interval then 0 else suc z.phase;
    slot = loop_next l p owner exit (smaller z.round (prologue p)) z.phase z.slot;
  }

  -- after m moves of a slot that is at the start of the loop
  abbrev pub place_after : Slot → ℕ → Place
  place_after q zero = record { round = 0; phase = 0; slot = q }
  place_after q (suc m) = place_next (place_after q m)

  -- the next move does not leave the loop
  abbrev pub Stays : Place → Type 0
  Stays z = is_leaving l p owner exit (smaller z.round (prologue p)) z.phase z.slot ≡ false

  -- an iteration begins: it is the first phase of a round, and no comparison has failed
  pub record Begins (z : Place) : Type 0 where
    pub phase : z.phase ≡ 0
    pub running : is_running l p (smaller z.round (prologue p)) z.phase z.slot (wires l p owner exit (smaller z.round (prologue p)) z.phase z.slot) ≡ true

-- THE LOOP KEEPS TIME: after m moves in the loop the slot is in the round and the phase of m; and iteration j, while no comparison failed, begins
-- j times the interval after iteration 0
pub record KeepsTime (l : Loop) (p : LoopPlan) (it : Iterations) (owner : ℕ → Owner) (exit : ℕ) (q : Slot) : Type 0 where
  pub at : (m : ℕ) → ((k : ℕ) → k < m → Stays l p owner exit (place_after l p owner exit q k)) →
      IsAt l p it (place_after l p owner exit q m).round (place_after l p owner exit q m).phase (place_after l p owner exit q m).slot
  pub moves : (m : ℕ) → ((k : ℕ) → k < m → Stays l p owner exit (place_after l p owner exit q k)) →
      (place_after l p owner exit q m).round * p.interval + (place_after l p owner exit q m).phase ≡ m
  pub stays : (j k : ℕ) → runs l it j ≡ true → k < j * p.interval → Stays l p owner exit (place_after l p owner exit q k)
  pub begins : (j : ℕ) → runs l it j ≡ true → Begins l p owner exit (place_after l p owner exit q (j * p.interval))
  pub number : (j : ℕ) → runs l it j ≡ true → (place_after l p owner exit q (j * p.interval)).round ≡ j

abbrev pub LoopKeepsTime : Type 0
LoopKeepsTime =
    (l : Loop) (p : LoopPlan) (it : Iterations) (owner : ℕ → Owner) (exit : ℕ) (q : Slot) → AreIterations l it → KeepsLoop l p → AreOwners l p owner →
    IsAt l p it 0 0 q → KeepsTime l p it owner exit q
