-- What one run shows of a program of the profile.
use Rattle.std.proofs.Common.{◌≡◌, ℕ, ◌≤◌, Bool, true, false, List, [], ◌∷◌, ◌++◌, length, subst}
use Rattle.c_token.specs.Spelling.{Bytes}
use Rattle.c_program.specs.Tree.{Program}
use Rattle.thread_semantics.specs.declared.cause.UndefinedCause.{UndefinedCause}
use Rattle.thread_semantics.specs.State.{State, start}
use Rattle.thread_semantics.specs.Step.{Steps, Undefines, step, after, IsDeadlocked}
use Rattle.turns.specs.declared.Turn.{Turn}
use Rattle.turns.specs.Turns.{threads_of}
use Rattle.c_accepted.specs.Profile.{IsAccepted}
use Rattle.c_resolved_program.proofs.AcceptedLaws.{resolved_law}
use Rattle.race_check.specs.Access.{location_of}
use Rattle.run_races.specs.Clean.{IsClean, IsOrdered}
use Rattle.run_races.proofs.CleanRuns.{clean_is_good, clean_ends, ordered_prints_once}
use Rattle.run_check.specs.declared.race.FoundRace.{FoundRace}
use Rattle.run_check.specs.Race.{IsFound}
use Rattle.check_command.specs.RunTold.{IsShownGood, IsShownRacing, IsShownUndefined, global_name}

-- a clean run shows a program of the profile good
pub shows_good : (text : Bytes) (P : Program) (w steps : ℕ) (one_output : Bool) → IsAccepted text P w → (list : List ℕ) → length list ≡ steps → IsClean P (start P) list
    → (one_output ≡ true → IsOrdered P (start P) list) → IsShownGood P steps one_output
shows_good text P w steps one_output accepted list count clean ordered =
    let resolved = resolved_law text P w accepted in
    record {
      list = list;
      count = count;
      clean = clean;
      good = clean_is_good P resolved list clean;
      ends = λ other s at.
          subst (λ (n : ℕ). (length other ≤ n) × (IsDeadlocked P s → ⊥)) count (clean_ends P resolved list clean other s at);
      once = λ one. ordered_prints_once P resolved list (ordered one);
    }

pub shows_race : (P : Program) (race : FoundRace) (name : Bytes) → IsFound P race → name ≡ global_name P race.location.global →
    IsShownRacing P race.turns.items race.first_offset race.second_offset name
shows_race P race name found named = record {
  state = found.state;
  leads = found.leads;
  one = race.first;
  other = race.second;
  place = location_of race.location;
  races = found.races;
  first_at = found.first;
  second_at = found.second;
  named = named;
  bad = λ good. good.calm (threads_of race.turns.items) found.state race.first race.second (location_of race.location) found.leads.taken found.leads.running found.races;
}

pub shows_undefined : (P : Program) (turns more : List Turn) (thread offset : ℕ) (cause : UndefinedCause) → threads_of more ≡ threads_of turns ++ thread ∷ [] → (s : State) →
    after P (threads_of turns) ≡ Steps s → s.ended ≡ false → step P s thread ≡ Undefines offset cause → IsShownUndefined P more offset cause
shows_undefined P turns more thread offset cause list s taken running undefined = record {
  before = threads_of turns;
  thread = thread;
  list = list;
  state = s;
  taken = taken;
  running = running;
  undefined = undefined;
  bad = λ good. good.defined (threads_of turns) s thread offset cause taken running undefined;
}
