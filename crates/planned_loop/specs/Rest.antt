-- A thread in a pipelined loop rests: its local state begins the oldest iteration that has not left what it gives in the variables. With each
-- cycle it takes no step, or all steps of the iterations that end, and these pay for the cycles.
use Rattle.std.specs.Prelude.{◌≡◌, ℕ, suc, ◌+◌, ◌-◌, ◌*◌, ◌<◌, ◌≤◌, ℤ, List, [], length, true, false, ◌⊎◌}
use Rattle.interleaving.specs.Memory.{Memory}
use Rattle.interleaving.specs.Source.{Source, Move, accesses_of, end_of, RunsAlone}
use Rattle.interleaving.specs.Hardware.{OnlyMoves}
use Rattle.planned_block.specs.Slot.{Slot}
use Rattle.planned_loop.specs.Loop.{Loop, Iterations, AreIterations, holds}
use Rattle.planned_loop.specs.Plan.{LoopPlan, KeepsLoop}
use Rattle.planned_loop.specs.Move.{smaller, prologue, GoesOn, Rounds}
use Rattle.planned_loop.specs.Moment.{over_in, IsAt}
use Rattle.planned_loop.specs.Law.{IsOver}

-- how many cycles are left, at most, until a thread in a loop takes a step; where it has begun a round that is not of the prologue, an interval
abbrev pub cycles_left : LoopPlan → ℕ → ℕ
cycles_left p state = (prologue p + 1) * p.interval - state

module _ {Local State : Type 0} (P : Source ℤ Local State) where
  -- the next n steps are moves that access no global, up to one that is undefined; Then holds of where they lead
  pub record Does (n : ℕ) (x : Local) (m : Memory ℤ) (Then : Local → Type 0) : Type 0 where
    pub only_moves : OnlyMoves P n x m
    pub leads : (hs : List (Move ℤ Local)) → RunsAlone P x m hs → length hs ≡ n → (accesses_of hs ≡ []) × Then (end_of x hs)

  -- what may be said of local states between the iterations of a loop: Starts of one that begins iteration n, Exits of one that its failing
  -- comparison leads to
  module _ (l : Loop) (it : Iterations) (steps tested : ℕ) (Starts Exits : ℕ → Local → Type 0) where
    -- the steps of an iteration, and those of a comparison that fails
    pub record TakesTurns : Type 0 where
      pub some : 0 < steps
      pub some_tested : 0 < tested
      pub turns : (m : Memory ℤ) (n : ℕ) (x : Local) → Starts n x → holds l it n ≡ true → Does steps x m (Starts (suc n))
      pub exits : (m : Memory ℤ) (n : ℕ) (x : Local) → Starts n x → holds l it n ≡ false → Does tested x m (Exits n)

    module _ (p : LoopPlan) where
      -- the slot is in the loop, for this local state
      pub record IsIn (x : Local) (q : Slot) : Type 0 where
        pub round : ℕ
        pub phase : ℕ
        pub at : IsAt l p it round phase q
        pub starts : Starts (over_in l p it round) x

      -- the loop is over
      pub record HasLeft (x : Local) (v : Slot) : Type 0 where
        pub turns : ℕ
        pub over : IsOver l p it turns v
        pub exits : Exits turns x

      -- a cycle of a slot that is in the loop
      abbrev pub Turns : (x : Local) (q v : Slot) → IsIn x q → Type 0
      Turns x q v i = (wire : ℕ → ℤ) × (GoesOn l p (smaller i.round (prologue p)) i.phase q wire v ⊎ Rounds l p (smaller i.round (prologue p)) i.phase q wire v)

-- THE LOOP RESTS: each cycle takes so many steps, is paid for by them or by what was left, and leads on in the loop or out of it
abbrev pub LoopRests : {Local State : Type 0} → Source ℤ Local State → (ℕ → Local → Type 0) → (ℕ → Local → Type 0) → Type 0
LoopRests {Local = Local} P Starts Exits =
    (l : Loop) (p : LoopPlan) (it : Iterations) (steps tested B : ℕ) → AreIterations l it → KeepsLoop l p → p.interval ≤ B →
    TakesTurns P l it steps tested Starts Exits → (x : Local) (m : Memory ℤ) (q v : Slot) (i : IsIn P l it steps tested Starts Exits p x q) →
    Turns P l it steps tested Starts Exits p x q v i →
    (n : ℕ) × Does P n x m
    (λ y. (IsIn P l it steps tested Starts Exits p y v × (cycles_left p v.state < cycles_left p q.state + B * n)) ⊎
    ((0 < n) × HasLeft P l it steps tested Starts Exits p y v))
