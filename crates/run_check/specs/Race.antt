-- A race to which a list of turns leads.
use Rattle.std.specs.Prelude.{◌≡◌, false, List, replicate}
use Rattle.c_program.specs.Tree.{Program}
use Rattle.thread_semantics.specs.State.{State}
use Rattle.thread_semantics.specs.Step.{Steps, and_steps, after}
use Rattle.thread_semantics.specs.Races.{Races}
use Rattle.race_check.specs.Access.{location_of}
use Rattle.turns.specs.declared.Turn.{Turn}
use Rattle.turns.specs.Turns.{threads_of}
use Rattle.run_check.specs.declared.race.FoundRace.{FoundRace}
use Rattle.run_check.specs.Offsets.{step_offset}

-- the turns lead to the state s, and main hasn't returned there
pub record LeadsTo (P : Program) (turns : List Turn) (s : State) : Type 0 where
  pub taken : after P (threads_of turns) ≡ Steps s
  pub running : s.ended ≡ false

-- the turn leads from one state to another, and main doesn't return on it
pub record IsTurnTaken (P : Program) (s : State) (turn : Turn) (t : State) : Type 0 where
  pub taken : and_steps P (Steps s) (replicate turn.steps turn.thread) ≡ Steps t
  pub running : s.ended ≡ false → t.ended ≡ false

-- behind its turns these two threads race at the place, by the steps at these bytes
pub record IsFound (P : Program) (race : FoundRace) : Type 0 where
  pub state : State
  pub leads : LeadsTo P race.turns.items state
  pub races : Races P state race.first race.second (location_of race.location)
  pub first : race.first_offset ≡ step_offset P state race.first
  pub second : race.second_offset ≡ step_offset P state race.second
