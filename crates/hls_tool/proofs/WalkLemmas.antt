-- How a walk of a text of the profile ends.
use Rattle.std.proofs.Common.{◌≡◌, ℕ, List, Option, Some, None, sym, subst, ◌∙◌, ap}
use Rattle.hls_words.specs.declared.task.Task.{Task}
use Rattle.hls_words.specs.declared.task.Task.TheVariants.{Walk}
use Rattle.turns.specs.declared.Turn.{Turn}
use Rattle.turns.specs.Turns.{threads_of}
use Rattle.c_program.specs.Tree.{Program}
use Rattle.c_interpreter.specs.declared.walk.WalkEnd.{WalkEnd as WalkEnds}
use Rattle.c_interpreter.specs.Walk.{IsWalk}
use Rattle.c_interpreter.proofs.Ends.{one_end}
use Rattle.c_accepted.specs.Profile.{IsAccepted}
use Rattle.hls_status.proofs.Stages.{accepted_once}
use Rattle.hls_tool.specs.declared.outcome.Outcome.{Outcome}
use Rattle.hls_status.specs.declared.status.Status.{Status}
use Rattle.hls_status.specs.declared.status.Status.TheVariants as status
use Rattle.hls_commands.specs.Answers.{Due, IsWalked, OwesAt, status_of}
use Rattle.hls_tool.specs.Call.{Answered, AsksFor, TellsEnd}
use Rattle.hls_tool.specs.Delivery.{Ends, Passage}
use Rattle.hls_tool.proofs.CompleteLemmas.{never_refused, owed_for}

module _ (turns : List Turn) (text : List ℕ) (P : Program) (w : ℕ) (accepted : IsAccepted text P w) (end : WalkEnds) (output : List ℕ)
    (walk : IsWalk P (threads_of turns) end output) where
  end_of : (d : Due) (s : Status) → IsWalked turns (Some text) d s → s ≡ status_of end
  end_of d s h =
      let same : h.program ≡ P = (accepted_once text h.program P h.weight w (subst (λ t. IsAccepted t h.program h.weight) h.gave h.accepted) accepted).0 in
      let walked : IsWalk P (threads_of turns) h.end d.out = subst (λ Q. IsWalk Q (threads_of turns) h.end d.out) same h.walked in
      h.status ∙ ap status_of (one_end P (threads_of turns) h.end end d.out output walked walk).0

  owes_end : (rose : Type 0) (d : Due) (s : Status) → OwesAt (Some (Walk turns)) (Some text) rose d s → TellsEnd end s
  owes_end rose d status.Ok h = end_of d status.Ok h
  owes_end rose d (status.Refused r) h = absurd (never_refused text P w accepted r h.1)
  owes_end rose d status.Usage h = absurd (let e : Some (Walk turns) ≡ None = h.0 in cc)
  owes_end rose d status.ReadFault h = tt
  owes_end rose d (status.WriteFault n m) h = absurd h
  owes_end rose d status.Memory h = tt
  owes_end rose d status.Entries h = absurd h
  owes_end rose d status.Stuck h = absurd h
  owes_end rose d (status.BadEntry index) h = absurd h
  owes_end rose d (status.Walked e) h = end_of d (status.Walked e) h
  owes_end rose d (status.Cycles cycles) h = absurd h
  owes_end rose d (status.NotNet offset) h = absurd h.0
  owes_end rose d (status.Loop signal) h = absurd h.0
  owes_end rose d (status.Doubt offset name) h = absurd h.0
  owes_end rose d (status.Race first second name) h = absurd h
  owes_end rose d (status.UndefinedStep offset cause) h = absurd h
  owes_end rose d (status.Unknown steps cause) h = absurd h

ends_so : (end : WalkEnds) (owed : Status) (due line : List ℕ) (out err : Passage) (s : Status) → Ends owed due line out err s → TellsEnd end owed → TellsEnd end s
ends_so end owed due line out err status.Ok h k = subst (TellsEnd end) (sym h.0) k
ends_so end owed due line out err (status.Refused r) h k = subst (TellsEnd end) (sym h.0) k
ends_so end owed due line out err status.Usage h k = subst (TellsEnd end) (sym h.0) k
ends_so end owed due line out err status.ReadFault h k = tt
ends_so end owed due line out err (status.WriteFault n m) h k = tt
ends_so end owed due line out err status.Memory h k = tt
ends_so end owed due line out err status.Entries h k = subst (TellsEnd end) (sym h.0) k
ends_so end owed due line out err status.Stuck h k = subst (TellsEnd end) (sym h.0) k
ends_so end owed due line out err (status.BadEntry index) h k = subst (TellsEnd end) (sym h.0) k
ends_so end owed due line out err (status.Walked e) h k = subst (TellsEnd end) (sym h.0) k
ends_so end owed due line out err (status.Cycles cycles) h k = subst (TellsEnd end) (sym h.0) k
ends_so end owed due line out err (status.NotNet offset) h k = subst (TellsEnd end) (sym h.0) k
ends_so end owed due line out err (status.Loop signal) h k = subst (TellsEnd end) (sym h.0) k
ends_so end owed due line out err (status.Doubt offset name) h k = subst (TellsEnd end) (sym h.0) k
ends_so end owed due line out err (status.Race first second name) h k = subst (TellsEnd end) (sym h.0) k
ends_so end owed due line out err (status.UndefinedStep offset cause) h k = subst (TellsEnd end) (sym h.0) k
ends_so end owed due line out err (status.Unknown steps cause) h k = subst (TellsEnd end) (sym h.0) k

pub tells_end : (task : Option Task) (left : Option (List ℕ)) (rose : Type 0) (out err : Passage) (outcome : Outcome) (turns : List Turn) (P : Program) →
    Answered task left rose out err outcome → AsksFor (Walk turns) task left P → (end : WalkEnds) (output : List ℕ) → IsWalk P (threads_of turns) end output →
    TellsEnd end outcome.status
tells_end task left rose out err outcome turns P h asked end output walk =
    ends_so end h.owed.status h.owed.out h.owed.err out err outcome.status h.ends
    (owes_end turns asked.text P asked.weight asked.accepted end output walk rose h.owed h.owed.status
    (subst (λ (x : List ℕ). OwesAt (Some (Walk turns)) (Some x) rose h.owed h.owed.status) (sym asked.gives) (owed_for task left rose out err outcome (Walk turns) P h asked)))
