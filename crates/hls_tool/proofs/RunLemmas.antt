-- How a check of a text of the profile by one run ends.
use Rattle.std.proofs.Common.{◌≡◌, ℕ, List, Option, Some, None, sym, subst, string_bytes}
use Rattle.std.specs.Prelude.{String}
use Rattle.std.specs.declared.alloc.Global.{Global}
use Rattle.hls_words.specs.declared.task.Task.{Task}
use Rattle.hls_words.specs.declared.task.Task.TheVariants.{CheckRun}
use Rattle.c_program.specs.Tree.{Program}
use Rattle.thread_semantics.specs.declared.cause.UndefinedCause.{UndefinedCause}
use Rattle.c_accepted.specs.Profile.{IsAccepted}
use Rattle.check_command.specs.Verdict.{IsReason}
use Rattle.check_command.specs.RunTold.{IsShownGood, IsShownRacing, IsShownUndefined}
use Rattle.hls_status.proofs.Stages.{accepted_once}
use Rattle.hls_tool.specs.declared.outcome.Outcome.{Outcome}
use Rattle.hls_status.specs.declared.status.UnknownCause.{UnknownCause}
use Rattle.hls_status.specs.declared.status.Status.{Status}
use Rattle.hls_status.specs.declared.status.Status.TheVariants as status
use Rattle.hls_commands.specs.Answers.{Due, Gave, IsRaceOf, IsUndefinedOf, IsUnknownOf, OwesAt}
use Rattle.hls_tool.specs.Call.{Answered, AsksFor, TellsRun}
use Rattle.hls_tool.specs.Delivery.{Ends, Passage}
use Rattle.hls_tool.proofs.CompleteLemmas.{never_refused, owed_for}

module _ (text : List ℕ) (P : Program) (w : ℕ) (accepted : IsAccepted text P w) where
  same : (given : List ℕ) (Q : Program) (v : ℕ) → Gave (Some text) given → IsAccepted given Q v → Q ≡ P
  same given Q v gave is = (accepted_once text Q P v w (subst (λ t. IsAccepted t Q v) gave is) accepted).0

  owes_run : (most : ℕ) (rose : Type 0) (d : Due) (s : Status) → OwesAt (Some (CheckRun most)) (Some text) rose d s → TellsRun P s
  owes_run most rose d status.Ok h = (h.steps, h.one_output, subst (λ (Q : Program). IsShownGood Q h.steps h.one_output) (same h.text h.program h.weight h.gave h.accepted) h.good)
  owes_run most rose d (status.Refused r) h = absurd (never_refused text P w accepted r h.1)
  owes_run most rose d status.Usage h = absurd (let e : Some (CheckRun most) ≡ None = h.0 in cc)
  owes_run most rose d status.ReadFault h = tt
  owes_run most rose d (status.WriteFault n m) h = tt
  owes_run most rose d status.Memory h = tt
  owes_run most rose d status.Entries h = h
  owes_run most rose d status.Stuck h = h
  owes_run most rose d (status.BadEntry index) h = h
  owes_run most rose d (status.Walked end) h = h
  owes_run most rose d (status.Cycles cycles) h = h
  owes_run most rose d (status.NotNet offset) h = h.0
  owes_run most rose d (status.Loop signal) h = h.0
  owes_run most rose d (status.Doubt offset name) h = h.0
  owes_run most rose d (status.Race first second name) h =
      (h.turns, subst (λ (Q : Program). IsShownRacing Q h.turns first second (string_bytes name)) (same h.text h.program h.weight h.gave h.accepted) h.racing)
  owes_run most rose d (status.UndefinedStep offset cause) h =
      (h.turns, subst (λ (Q : Program). IsShownUndefined Q h.turns offset cause) (same h.text h.program h.weight h.gave h.accepted) h.undefined)
  owes_run most rose d (status.Unknown steps cause) h =
      (h.reason, h.named, subst (λ (Q : Program). IsReason Q steps h.reason) (same h.text h.program h.weight h.gave h.accepted) h.shown)

ends_so : (P : Program) (owed : Status) (due line : List ℕ) (out err : Passage) (s : Status) → Ends owed due line out err s → TellsRun P owed → TellsRun P s
ends_so P owed due line out err status.Ok h k = subst (TellsRun P) (sym h.0) k
ends_so P owed due line out err (status.Refused r) h k = subst (TellsRun P) (sym h.0) k
ends_so P owed due line out err status.Usage h k = subst (TellsRun P) (sym h.0) k
ends_so P owed due line out err status.ReadFault h k = tt
ends_so P owed due line out err (status.WriteFault n m) h k = tt
ends_so P owed due line out err status.Memory h k = tt
ends_so P owed due line out err status.Entries h k = subst (TellsRun P) (sym h.0) k
ends_so P owed due line out err status.Stuck h k = subst (TellsRun P) (sym h.0) k
ends_so P owed due line out err (status.BadEntry index) h k = subst (TellsRun P) (sym h.0) k
ends_so P owed due line out err (status.Walked end) h k = subst (TellsRun P) (sym h.0) k
ends_so P owed due line out err (status.Cycles cycles) h k = subst (TellsRun P) (sym h.0) k
ends_so P owed due line out err (status.NotNet offset) h k = subst (TellsRun P) (sym h.0) k
ends_so P owed due line out err (status.Loop signal) h k = subst (TellsRun P) (sym h.0) k
ends_so P owed due line out err (status.Doubt offset name) h k = subst (TellsRun P) (sym h.0) k
ends_so P owed due line out err (status.Race first second name) h k = subst (TellsRun P) (sym h.0) k
ends_so P owed due line out err (status.UndefinedStep offset cause) h k = subst (TellsRun P) (sym h.0) k
ends_so P owed due line out err (status.Unknown steps cause) h k = subst (TellsRun P) (sym h.0) k

pub checks_run : (task : Option Task) (left : Option (List ℕ)) (rose : Type 0) (out err : Passage) (outcome : Outcome) (most : ℕ) (P : Program) →
    Answered task left rose out err outcome → AsksFor (CheckRun most) task left P → TellsRun P outcome.status
checks_run task left rose out err outcome most P h asked =
    ends_so P h.owed.status h.owed.out h.owed.err out err outcome.status h.ends
    (owes_run asked.text P asked.weight asked.accepted most rose h.owed h.owed.status
    (subst (λ (x : List ℕ). OwesAt (Some (CheckRun most)) (Some x) rose h.owed h.owed.status) (sym asked.gives)
    (owed_for task left rose out err outcome (CheckRun most) P h asked)))

-- ---- the causes of its own answers

module _ (task : Option Task) (left : Option (List ℕ)) (rose : Type 0) (out err : Passage) (outcome : Outcome) (h : Answered task left rose out err outcome) where
  ended : (s : Status) → outcome.status ≡ s → Ends h.owed.status h.owed.out h.owed.err out err s
  ended s e = subst (λ (t : Status). Ends h.owed.status h.owed.out h.owed.err out err t) e h.ends

  owed_so : (s : Status) → s ≡ h.owed.status → OwesAt task left rose h.owed s
  owed_so s e = subst (λ (t : Status). OwesAt task left rose h.owed t) (sym e) h.owes

  pub tells_race : (first second : ℕ) (name : String Global) → outcome.status ≡ status.Race first second name → IsRaceOf task left first second (string_bytes name)
  tells_race first second name e = (h.owed, owed_so (status.Race first second name) (ended (status.Race first second name) e).0)

  pub tells_undefined : (offset : ℕ) (cause : UndefinedCause) → outcome.status ≡ status.UndefinedStep offset cause → IsUndefinedOf task left offset cause
  tells_undefined offset cause e = (h.owed, owed_so (status.UndefinedStep offset cause) (ended (status.UndefinedStep offset cause) e).0)

  pub tells_unknown : (steps : ℕ) (cause : UnknownCause) → outcome.status ≡ status.Unknown steps cause → IsUnknownOf task left steps cause
  tells_unknown steps cause e = (h.owed, owed_so (status.Unknown steps cause) (ended (status.Unknown steps cause) e).0)
