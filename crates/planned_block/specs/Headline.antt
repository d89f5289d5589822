-- The headline's second sentence for planned blocks: every run of the machine of a good program shows one interleaving.
use Rattle.std.specs.Prelude.{◌≡◌, ℕ, ℤ, List, [], Bool, true}
use Rattle.interleaving.specs.Interleaving.{IsGood}
use Rattle.interleaving.specs.Threaded.{IsThreaded}
use Rattle.interleaving.specs.Hardware.{World, IsPlanned}
use Rattle.interleaving.specs.Progress.{IsTimed, IsClocked, Moment}
use Rattle.interleaving.specs.Run.{FollowsOne}
use Rattle.interleaving.specs.Headline.{Views, Shows, IsSeen}
use Rattle.planned_block.specs.Slot.{Slot}
use Rattle.planned_block.specs.Hardware.{changes_left, PlannedThreads, hardware_of}

-- PLANNED: hardware of planned blocks is what the theory of interleavings asks for, and no slot changes more often than the steps pay for
abbrev pub BlocksArePlanned : PlannedThreads → Type 0
BlocksArePlanned M = IsPlanned M.source (hardware_of M) × IsTimed (hardware_of M) M.B (changes_left M.code)

-- a threaded program of planned blocks, and the machine that runs it
pub record PlannedProgram : Type 1 where
  pub threads : PlannedThreads
  pub threaded : IsThreaded threads.source
  -- so many threads
  pub T : ℕ
  -- the machine under choices: those that enable all threads are full, and count
  pub Machine : Type 0
  pub Choice : Type 0
  pub look : Machine → World ℤ Slot (ℕ → threads.Core)
  pub cycle : Machine → Choice → Machine
  pub is_full : Choice → Bool
  pub counts : Machine → Choice → Bool
  pub full_counts : (h : Machine) (c : Choice) → is_full c ≡ true → counts h c ≡ true
  pub clocked : IsGood threads.source → IsClocked threads.source (hardware_of threads) T look counts cycle
  pub views : Views ℤ threads.State Machine
  pub seen : IsSeen threads.source views (hardware_of threads) look T
  -- the machine before its first cycle
  pub first : Machine
  pub starts : Moment threads.source (hardware_of threads) T threads.B (changes_left threads.code) [] (look first) 0

-- the choice changes no slot
abbrev pub is_still : (M : PlannedProgram) → M.Machine → M.Choice → Type 0
is_still M h c = (i : ℕ) → (M.look (M.cycle h c)).slots i ≡ (M.look h).slots i

-- THE HEADLINE'S SECOND SENTENCE, for planned blocks
abbrev pub PlannedRunsAsOne : PlannedProgram → Type 0
PlannedRunsAsOne M =
    IsGood M.threads.source → (C : List M.Choice) →
    FollowsOne M.cycle M.counts (is_still M) (Shows M.threads.source M.views M.T M.threads.B M.is_full (is_still M)) M.first C
