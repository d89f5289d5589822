-- What `step`, `run` and `replay` show of a good program, and `gen` of the one that it makes.
use Rattle.std.specs.Prelude.{◌≡◌, ◌↔◌, ℕ, Bool, true, false, List, Option}
use Rattle.c_program.specs.Tree.{Program}
use Rattle.thread_semantics.specs.State.{State}
use Rattle.thread_semantics.specs.Step.{Steps, after}
use Rattle.thread_semantics.specs.Races.{IsGood}
use Rattle.journal_laws.specs.declared.verdict.Verdict.{Verdict}
use Rattle.journal_follows.specs.Follows.{HasInterleaving}
use Rattle.hls_commands.specs.Answers.{Due, IsGeneratedRun, IsRun, IsRunBy, IsReplayed}

-- the program has an interleaving that printed this, and is ended exactly where said
pub record HasPrinted (P : Program) (out : List ℕ) (done : Bool) : Type 0 where
  pub steps : List ℕ
  pub state : State
  pub after : after P steps ≡ Steps state
  pub printed : out ≡ state.output
  pub ended : (done ≡ true) ↔ (state.ended ≡ true)

-- what `step` answers, the waves aside, that show registers in place of what is printed
abbrev pub StepsShow : Type 0
StepsShow =
    (most : ℕ) (left : Option (List ℕ)) (d : Due) (cycles : ℕ) (done : Bool) → (r : IsRun most false left d cycles done) → IsGood r.program → HasPrinted r.program d.out done

-- what `run` answers
abbrev pub RunsShow : Type 0
RunsShow = (most : ℕ) (listed : Bool) (left : Option (List ℕ)) (d : Due) (v : Verdict) → (r : IsRunBy most listed left d v) → IsGood r.program → HasInterleaving r.program d.out v

-- what `replay` answers
abbrev pub ReplaysShow : Type 0
ReplaysShow = (left : Option (List ℕ)) (d : Due) (v : Verdict) → (r : IsReplayed left d v) → IsGood r.program → HasInterleaving r.program d.out v

-- what `gen` answers, of a program that is good by itself
abbrev pub GeneratedShow : Type 0
GeneratedShow =
    (seed threads size most : ℕ) (d : Due) (cycles : ℕ) (done : Bool) → (r : IsGeneratedRun seed threads size most d cycles done) → HasPrinted r.program d.out done
