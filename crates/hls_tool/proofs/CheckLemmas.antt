-- How a check of a text of the profile ends.
use Rattle.std.proofs.Common.{◌≡◌, ℕ, List, Option, Some, None, ap, sym, subst, string_bytes, ◌∙◌}
use Rattle.hls_words.specs.declared.task.Task.{Task}
use Rattle.hls_words.specs.declared.task.Task.TheVariants.{Check}
use Rattle.c_program.specs.Tree.{Program}
use Rattle.c_accepted.specs.Profile.{IsAccepted}
use Rattle.check_command.specs.Discipline.{Doubt, verdict}
use Rattle.check_command.specs.Told.{IsDisciplined}
use Rattle.hls_status.proofs.Stages.{accepted_once}
use Rattle.hls_tool.specs.declared.outcome.Outcome.{Outcome}
use Rattle.hls_status.specs.declared.status.Status.{Status}
use Rattle.hls_status.specs.declared.status.Status.TheVariants as status
use Rattle.hls_commands.specs.Answers.{Due, Gave, IsFoundInDoubt, OwesAt}
use Rattle.hls_tool.specs.Call.{Answered, AsksFor, TellsDiscipline}
use Rattle.hls_tool.specs.Delivery.{Ends, Passage}
use Rattle.hls_tool.proofs.CompleteLemmas.{never_refused, owed_for}

module _ (text : List ℕ) (P : Program) (w : ℕ) (accepted : IsAccepted text P w) where
  same : (given : List ℕ) (Q : Program) (v : ℕ) → Gave (Some text) given → IsAccepted given Q v → Q ≡ P
  same given Q v gave is = (accepted_once text Q P v w (subst (λ t. IsAccepted t Q v) gave is) accepted).0

  in_doubt : (offset : ℕ) (name : List ℕ) → IsFoundInDoubt (Some text) offset name → (step : ℕ) × (verdict P ≡ Doubt step name)
  in_doubt offset name h = (h.doubt.step, ap verdict (sym (same h.text h.program h.weight h.gave h.accepted)) ∙ h.doubt.verdict)

  owes_discipline : (rose : Type 0) (d : Due) (s : Status) → OwesAt (Some Check) (Some text) rose d s → TellsDiscipline P s
  owes_discipline rose d status.Ok h = (h.globals, subst (λ (Q : Program). IsDisciplined Q h.globals) (same h.text h.program h.weight h.gave h.accepted) h.disciplined)
  owes_discipline rose d (status.Refused r) h = absurd (never_refused text P w accepted r h.1)
  owes_discipline rose d status.Usage h = absurd (let e : Some Check ≡ None = h.0 in cc)
  owes_discipline rose d status.ReadFault h = tt
  owes_discipline rose d (status.WriteFault n m) h = tt
  owes_discipline rose d status.Memory h = tt
  owes_discipline rose d status.Entries h = h
  owes_discipline rose d status.Stuck h = h
  owes_discipline rose d (status.BadEntry index) h = h
  owes_discipline rose d (status.Walked end) h = h
  owes_discipline rose d (status.Cycles cycles) h = h
  owes_discipline rose d (status.NotNet offset) h = h.0
  owes_discipline rose d (status.Loop signal) h = h.0
  owes_discipline rose d (status.Doubt offset name) h = in_doubt offset (string_bytes name) h.0
  owes_discipline rose d (status.Race first second name) h = h
  owes_discipline rose d (status.UndefinedStep offset cause) h = h
  owes_discipline rose d (status.Unknown steps cause) h = h

ends_so : (P : Program) (owed : Status) (due line : List ℕ) (out err : Passage) (s : Status) → Ends owed due line out err s → TellsDiscipline P owed → TellsDiscipline P s
ends_so P owed due line out err status.Ok h k = subst (TellsDiscipline P) (sym h.0) k
ends_so P owed due line out err (status.Refused r) h k = subst (TellsDiscipline P) (sym h.0) k
ends_so P owed due line out err status.Usage h k = subst (TellsDiscipline P) (sym h.0) k
ends_so P owed due line out err status.ReadFault h k = tt
ends_so P owed due line out err (status.WriteFault n m) h k = tt
ends_so P owed due line out err status.Memory h k = tt
ends_so P owed due line out err status.Entries h k = subst (TellsDiscipline P) (sym h.0) k
ends_so P owed due line out err status.Stuck h k = subst (TellsDiscipline P) (sym h.0) k
ends_so P owed due line out err (status.BadEntry index) h k = subst (TellsDiscipline P) (sym h.0) k
ends_so P owed due line out err (status.Walked end) h k = subst (TellsDiscipline P) (sym h.0) k
ends_so P owed due line out err (status.Cycles cycles) h k = subst (TellsDiscipline P) (sym h.0) k
ends_so P owed due line out err (status.NotNet offset) h k = subst (TellsDiscipline P) (sym h.0) k
ends_so P owed due line out err (status.Loop signal) h k = subst (TellsDiscipline P) (sym h.0) k
ends_so P owed due line out err (status.Doubt offset name) h k = subst (TellsDiscipline P) (sym h.0) k
ends_so P owed due line out err (status.Race first second name) h k = subst (TellsDiscipline P) (sym h.0) k
ends_so P owed due line out err (status.UndefinedStep offset cause) h k = subst (TellsDiscipline P) (sym h.0) k
ends_so P owed due line out err (status.Unknown steps cause) h k = subst (TellsDiscipline P) (sym h.0) k

pub checks : (task : Option Task) (left : Option (List ℕ)) (rose : Type 0) (out err : Passage) (outcome : Outcome) (P : Program) →
    Answered task left rose out err outcome → AsksFor Check task left P → TellsDiscipline P outcome.status
checks task left rose out err outcome P h asked =
    ends_so P h.owed.status h.owed.out h.owed.err out err outcome.status h.ends
    (owes_discipline asked.text P asked.weight asked.accepted rose h.owed h.owed.status
    (subst (λ (x : List ℕ). OwesAt (Some Check) (Some x) rose h.owed h.owed.status) (sym asked.gives) (owed_for task left rose out err outcome Check P h asked)))
