-- How a task that makes a program from a number ends, and that one which reads nothing has no read fault.
use Rattle.std.proofs.Common.{◌≡◌, ℕ, List, Option, Some, None, sym, subst}
use Rattle.hls_words.specs.declared.task.Task.{Task}
use Rattle.hls_words.specs.declared.task.Task.TheVariants.{Build, Step, Run, Replay, Walk, Check, CheckRun, Sim, Gen, Report}
use Rattle.hls_tool.specs.declared.outcome.Outcome.{Outcome}
use Rattle.hls_status.specs.declared.status.Status.{Status}
use Rattle.hls_status.specs.declared.status.Status.TheVariants as status
use Rattle.hls_commands.specs.Answers.{Due, IsReadFault, OwesAt}
use Rattle.hls_tool.specs.Call.{Answered, TellsGeneration}
use Rattle.hls_tool.specs.Delivery.{Ends, Passage}

owes_generation : (seed threads size most : ℕ) (left : Option (List ℕ)) (rose : Type 0) (d : Due) (s : Status) → OwesAt (Some (Gen seed threads size most)) left rose d s → TellsGeneration s
owes_generation seed threads size most left rose d status.Ok h = tt
owes_generation seed threads size most left rose d (status.Refused r) h = h.1
owes_generation seed threads size most left rose d status.Usage h = absurd (let e : Some (Gen seed threads size most) ≡ None = h.0 in cc)
owes_generation seed threads size most left rose d status.ReadFault h = h.1
owes_generation seed threads size most left rose d (status.WriteFault n m) h = tt
owes_generation seed threads size most left rose d status.Memory h = tt
owes_generation seed threads size most left rose d status.Entries h = h
owes_generation seed threads size most left rose d status.Stuck h = h
owes_generation seed threads size most left rose d (status.BadEntry index) h = h
owes_generation seed threads size most left rose d (status.Walked end) h = h
owes_generation seed threads size most left rose d (status.Cycles cycles) h = tt
owes_generation seed threads size most left rose d (status.NotNet offset) h = h.0
owes_generation seed threads size most left rose d (status.Loop signal) h = h.0
owes_generation seed threads size most left rose d (status.Doubt offset name) h = h.0
owes_generation seed threads size most left rose d (status.Race first second name) h = h
owes_generation seed threads size most left rose d (status.UndefinedStep offset cause) h = h
owes_generation seed threads size most left rose d (status.Unknown steps cause) h = h

ends_so : (owed : Status) (due line : List ℕ) (out err : Passage) (s : Status) → Ends owed due line out err s → TellsGeneration owed → TellsGeneration s
ends_so owed due line out err status.Ok h k = subst TellsGeneration (sym h.0) k
ends_so owed due line out err (status.Refused r) h k = subst TellsGeneration (sym h.0) k
ends_so owed due line out err status.Usage h k = subst TellsGeneration (sym h.0) k
ends_so owed due line out err status.ReadFault h k = subst TellsGeneration (sym h.0) k
ends_so owed due line out err (status.WriteFault n m) h k = tt
ends_so owed due line out err status.Memory h k = tt
ends_so owed due line out err status.Entries h k = subst TellsGeneration (sym h.0) k
ends_so owed due line out err status.Stuck h k = subst TellsGeneration (sym h.0) k
ends_so owed due line out err (status.BadEntry index) h k = subst TellsGeneration (sym h.0) k
ends_so owed due line out err (status.Walked end) h k = subst TellsGeneration (sym h.0) k
ends_so owed due line out err (status.Cycles cycles) h k = subst TellsGeneration (sym h.0) k
ends_so owed due line out err (status.NotNet offset) h k = subst TellsGeneration (sym h.0) k
ends_so owed due line out err (status.Loop signal) h k = subst TellsGeneration (sym h.0) k
ends_so owed due line out err (status.Doubt offset name) h k = subst TellsGeneration (sym h.0) k
ends_so owed due line out err (status.Race first second name) h k = subst TellsGeneration (sym h.0) k
ends_so owed due line out err (status.UndefinedStep offset cause) h k = subst TellsGeneration (sym h.0) k
ends_so owed due line out err (status.Unknown steps cause) h k = subst TellsGeneration (sym h.0) k

pub generates : (task : Option Task) (left : Option (List ℕ)) (rose : Type 0) (out err : Passage) (outcome : Outcome) (seed threads size most : ℕ) →
    Answered task left rose out err outcome → task ≡ Some (Gen seed threads size most) → TellsGeneration outcome.status
generates task left rose out err outcome seed threads size most h asks =
    ends_so h.owed.status h.owed.out h.owed.err out err outcome.status h.ends
    (owes_generation seed threads size most left rose h.owed h.owed.status (subst (λ (k : Option Task). OwesAt k left rose h.owed h.owed.status) asks h.owes))

-- ---- read faults

rose_of : (task : Option Task) (rose : Type 0) → IsReadFault task rose → rose
rose_of None rose h = h
rose_of (Some (Build jobs)) rose h = h
rose_of (Some (Step most vcd)) rose h = h
rose_of (Some (Run most listed)) rose h = h
rose_of (Some Replay) rose h = h
rose_of (Some (Walk turns)) rose h = h
rose_of (Some Check) rose h = h
rose_of (Some (CheckRun most)) rose h = h
rose_of (Some (Sim most)) rose h = h
rose_of (Some (Gen seed threads size most)) rose h = absurd h
rose_of (Some Report) rose h = h

pub tells_read_fault : (task : Option Task) (left : Option (List ℕ)) (rose : Type 0) (out err : Passage) (outcome : Outcome) → Answered task left rose out err outcome
    → outcome.status ≡ status.ReadFault → rose
tells_read_fault task left rose out err outcome h e =
    let ended : Ends h.owed.status h.owed.out h.owed.err out err status.ReadFault = subst (λ (t : Status). Ends h.owed.status h.owed.out h.owed.err out err t) e h.ends in
    let owed : OwesAt task left rose h.owed status.ReadFault = subst (λ (t : Status). OwesAt task left rose h.owed t) (sym ended.0) h.owes in
    rose_of task rose owed.1
