use Rattle.std.proofs.Common.{◌≡◌, ℕ, ◌<◌, Bool, List, length, Option, Some, None, inr, subst, refl}
use Rattle.std.specs.Prelude.{IsSome}
use Rattle.hls_words.specs.declared.task.Task.{Task}
use Rattle.hls_words.specs.declared.task.Task.TheVariants.{Build, Step, Run, Replay, Walk, Check, CheckRun, Report}
use Rattle.turns.specs.declared.Turn.{Turn}
use Rattle.journal_text.specs.declared.entry.Entry.{Entry}
use Rattle.c_accepted.specs.declared.refusal.Refusal.{Refusal}
use Rattle.c_accepted.specs.declared.refusal.Refusal.TheVariants as refusal
use Rattle.c_accepted.specs.Profile.{most_bytes, IsRefused}
use Rattle.c_profile.specs.declared.text.ProfileError.{ProfileError}
use Rattle.c_profile.specs.declared.text.ProfileError.TheVariants as profile_error
use Rattle.hls_compile.specs.declared.CompileError.{CompileError}
use Rattle.hls_compile.specs.declared.CompileError.TheVariants as error
use Rattle.hls_commands.specs.declared.commands.Stop.{Stop}
use Rattle.hls_commands.specs.declared.commands.Stop.TheVariants as stop
use Rattle.hls_status.specs.declared.status.Status.{Status}
use Rattle.hls_status.specs.declared.status.Status.TheVariants as status
use Rattle.hls_commands.specs.Answers.{Due, Gave, GaveJournal, IsRefusedBy, OwesAt}
use Rattle.hls_commands.specs.Inside.{StopsBy, StopStatus, refused, stop_of}

too_long : (left : Option (List ℕ)) (text : List ℕ) → Gave left text → most_bytes < length text → IsRefusedBy left refusal.TooLong
too_long None text gave long = tt
too_long (Some bytes) text gave long = subst (λ t. most_bytes < length t) gave long

-- a text that is refused is one that the source gave
pub of_text : (left : Option (List ℕ)) (text : List ℕ) (r : Refusal) → Gave left text → IsRefused text r → IsRefusedBy left r
of_text left text refusal.TooLong gave is = too_long left text gave is
of_text left text (refusal.NoToken at) gave is = (text, gave, is)
of_text left text (refusal.Syntax at) gave is = (text, gave, is)
of_text left text (refusal.Broken rule at) gave is = (text, gave, is)
of_text left text refusal.NoMain gave is = (text, gave, is)
of_text left text (refusal.LimitAt passed at) gave is = (text, gave, is)
of_text left text (refusal.Limit passed) gave is = (text, gave, is)

-- a text that has no Verilog stops a build with its cause
pub stops : (jobs : ℕ) (left : Option (List ℕ)) (rose : Type 0) (text : List ℕ) (e : CompileError) → Gave left text → ((r : Refusal) → e ≡ error.Refused r → IsRefused text r)
    → StopsBy (Some (Build jobs)) left rose (stop_of e)
stops jobs left rose text (error.Refused r) gave refused = of_text left text r gave (refused r refl)
stops jobs left rose text error.Memory gave refused = tt

-- and so does one that has no program stop what reads it
pub stops_reading : (left : Option (List ℕ)) (rose : Type 0) (text : List ℕ) (e : ProfileError) → Gave left text → ((r : Refusal) → e ≡ profile_error.Refused r → IsRefused text r)
    → StopsBy None left rose (refused e)
stops_reading left rose text (profile_error.Refused r) gave is = of_text left text r gave (is r refl)
stops_reading left rose text profile_error.Memory gave is = tt

-- and a text behind a journal stops a replay
pub stops_replay : (left : Option (List ℕ)) (rose : Type 0) (entries : List Entry) (bad : Option ℕ) (text : List ℕ) (e : CompileError) → GaveJournal left entries bad text
    → ((r : Refusal) → e ≡ error.Refused r → IsRefused text r) → StopsBy (Some Replay) left rose (stop_of e)
stops_replay left rose entries bad text (error.Refused r) gave refused = inr (text, (entries, bad, gave), refused r refl)
stops_replay left rose entries bad text error.Memory gave refused = tt

-- what stops before a task's own work stops a build, a walk and a check
pub stops_build : (jobs : ℕ) (left : Option (List ℕ)) (rose : Type 0) (s : Stop) → StopsBy None left rose s → StopsBy (Some (Build jobs)) left rose s
stops_build jobs left rose stop.ReadFault is = is
stops_build jobs left rose (stop.Refused r) is = is
stops_build jobs left rose stop.Memory is = tt

pub stops_walk : (turns : List Turn) (left : Option (List ℕ)) (rose : Type 0) (s : Stop) → StopsBy None left rose s → StopsBy (Some (Walk turns)) left rose s
stops_walk turns left rose stop.ReadFault is = is
stops_walk turns left rose (stop.Refused r) is = is
stops_walk turns left rose stop.Memory is = tt

pub stops_check : (left : Option (List ℕ)) (rose : Type 0) (s : Stop) → StopsBy None left rose s → StopsBy (Some Check) left rose s
stops_check left rose stop.ReadFault is = is
stops_check left rose (stop.Refused r) is = is
stops_check left rose stop.Memory is = tt

pub stops_check_run : (most : ℕ) (left : Option (List ℕ)) (rose : Type 0) (s : Stop) → StopsBy None left rose s → StopsBy (Some (CheckRun most)) left rose s
stops_check_run most left rose stop.ReadFault is = is
stops_check_run most left rose (stop.Refused r) is = is
stops_check_run most left rose stop.Memory is = tt

-- what stops a build stops a step, a run and a report
pub stops_step : (jobs most : ℕ) (vcd : Bool) (left : Option (List ℕ)) (rose : Type 0) (s : Stop) → StopsBy (Some (Build jobs)) left rose s → StopsBy (Some (Step most vcd)) left rose s
stops_step jobs most vcd left rose stop.ReadFault is = is
stops_step jobs most vcd left rose (stop.Refused r) is = is
stops_step jobs most vcd left rose stop.Memory is = is

pub stops_run : (jobs most : ℕ) (listed : Bool) (left : Option (List ℕ)) (rose : Type 0) (s : Stop) → StopsBy (Some (Build jobs)) left rose s → StopsBy (Some (Run most listed)) left rose s
stops_run jobs most listed left rose stop.ReadFault is = is
stops_run jobs most listed left rose (stop.Refused r) is = is
stops_run jobs most listed left rose stop.Memory is = is

pub stops_report : (jobs : ℕ) (left : Option (List ℕ)) (rose : Type 0) (s : Stop) → StopsBy (Some (Build jobs)) left rose s → StopsBy (Some Report) left rose s
stops_report jobs left rose stop.ReadFault is = is
stops_report jobs left rose (stop.Refused r) is = is
stops_report jobs left rose stop.Memory is = is

-- a command that stops owes its cause
pub stop_owes : (task : Option Task) (left : Option (List ℕ)) (rose : Type 0) (d : Due) (s : Stop) → IsSome task → StopsBy task left rose s → (t : Status) → StopStatus s d t
    → OwesAt task left rose d t
stop_owes task left rose d s some by status.Ok is = absurd is
stop_owes task left rose d s some by (status.Refused r) is = (some, subst (StopsBy task left rose) is.0 by, is.1)
stop_owes task left rose d s some by status.Usage is = absurd is
stop_owes task left rose d s some by status.ReadFault is = (some, subst (StopsBy task left rose) is.0 by, is.1)
stop_owes task left rose d s some by (status.WriteFault out err) is = absurd is
stop_owes task left rose d s some by status.Memory is = is
stop_owes task left rose d s some by status.Entries is = absurd is
stop_owes task left rose d s some by status.Stuck is = absurd is
stop_owes task left rose d s some by (status.BadEntry index) is = absurd is
stop_owes task left rose d s some by (status.Walked end) is = absurd is
stop_owes task left rose d s some by (status.Cycles cycles) is = absurd is
stop_owes task left rose d s some by (status.NotNet offset) is = absurd is
stop_owes task left rose d s some by (status.Loop signal) is = absurd is
stop_owes task left rose d s some by (status.Doubt offset name) is = absurd is
stop_owes task left rose d s some by (status.Race first second name) is = absurd is
stop_owes task left rose d s some by (status.UndefinedStep offset cause) is = absurd is
stop_owes task left rose d s some by (status.Unknown steps cause) is = absurd is
