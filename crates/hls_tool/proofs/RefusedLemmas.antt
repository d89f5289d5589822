-- A call whose source gives a text with a refusal answers this refusal.
use Rattle.std.proofs.Common.{◌≡◌, ℕ, ◌<◌, ◌≤◌, true, false, List, length, Option, Some, None, sym, subst, ◌∙◌, ⊎_elim, arith}
use Rattle.std.specs.Prelude.{⊤}
use Rattle.hls_words.specs.declared.task.Task.{Task}
use Rattle.hls_words.specs.declared.task.Task.TheVariants.{Build, Step, Run, Replay, Walk, Check, CheckRun, Sim, Gen, Report}
use Rattle.c_program.specs.Tree.{Program}
use Rattle.c_accepted.specs.declared.refusal.Refusal.{Refusal}
use Rattle.c_accepted.specs.declared.refusal.Refusal.TheVariants as refusal
use Rattle.c_accepted.specs.Profile.{IsAccepted, IsRefused}
use Rattle.hls_status.proofs.Stages.{refused_once, never_both}
use Rattle.journal_text.specs.declared.entry.Entry.{Entry}
use Rattle.hls_tool.specs.declared.outcome.Outcome.{Outcome}
use Rattle.hls_status.specs.declared.status.Status.{Status}
use Rattle.hls_status.specs.declared.status.Status.TheVariants as status
use Rattle.hls_commands.specs.Answers.{Due, Gave, GaveJournal, IsRefusedBy, IsRefusedFor, IsReplayRefused, OwesAt}
use Rattle.hls_commands.specs.Answers.{most_replayed}
use Rattle.hls_tool.specs.Call.{Answered, TellsRefusal}
use Rattle.hls_tool.specs.Delivery.{Ends, Passage}
use Rattle.hls_tool.proofs.CompleteLemmas.{refused_text}
use Rattle.hls_tool.proofs.TextLemmas.{one_text}

-- the tasks whose C text is all that the source gives
abbrev TakesWhole : Option Task → Type 0
TakesWhole (Some Replay) = ⊥
TakesWhole (Some (Sim most)) = ⊥
TakesWhole (Some (Gen seed threads size most)) = ⊥
TakesWhole other = ⊤

module _ (text : List ℕ) (r : Refusal) (refused : IsRefused text r) where
  is_not_accepted : (given : List ℕ) (P : Program) (w : ℕ) → given ≡ text → IsAccepted given P w → ⊥
  is_not_accepted given P w same h = never_both text P w r (subst (λ t. IsAccepted t P w) same h) refused

  same_refusal : (s : Refusal) → ((given : List ℕ) × Gave (Some text) given × IsRefused given s) → s ≡ r
  same_refusal s h = refused_once text s r (subst (λ t. IsRefused t s) h.1 h.2) refused

  is_refused_by : (s : Refusal) → IsRefusedBy (Some text) s → s ≡ r
  is_refused_by refusal.TooLong h = refused_once text refusal.TooLong r h refused
  is_refused_by (refusal.NoToken at) h = same_refusal (refusal.NoToken at) h
  is_refused_by (refusal.Syntax at) h = same_refusal (refusal.Syntax at) h
  is_refused_by (refusal.Broken rule at) h = same_refusal (refusal.Broken rule at) h
  is_refused_by refusal.NoMain h = same_refusal refusal.NoMain h
  is_refused_by (refusal.LimitAt passed at) h = same_refusal (refusal.LimitAt passed at) h
  is_refused_by (refusal.Limit passed) h = same_refusal (refusal.Limit passed) h

  -- nothing else is owed for a task that takes the whole text
  others : (task : Option Task) (rose : Type 0) (d : Due) (s : Status) → TakesWhole task → OwesAt task (Some text) rose d s → TellsRefusal r s
  others None rose d status.Ok takes h = h
  others None rose d (status.Refused s) takes h = absurd (let e : false ≡ true = h.0 in cc)
  others None rose d status.Usage takes h = tt
  others None rose d status.ReadFault takes h = tt
  others None rose d (status.WriteFault n m) takes h = tt
  others None rose d status.Memory takes h = tt
  others None rose d status.Entries takes h = h
  others None rose d status.Stuck takes h = h
  others None rose d (status.BadEntry index) takes h = h
  others None rose d (status.Walked end) takes h = h
  others None rose d (status.Cycles cycles) takes h = h
  others None rose d (status.NotNet offset) takes h = h.0
  others None rose d (status.Loop signal) takes h = h.0
  others None rose d (status.Doubt offset name) takes h = h.0
  others None rose d (status.Race first second name) takes h = h
  others None rose d (status.UndefinedStep offset cause) takes h = h
  others None rose d (status.Unknown steps cause) takes h = h
  others (Some (Build jobs)) rose d status.Ok takes h = is_not_accepted h.text h.program h.weight h.gave h.compiled.accepted
  others (Some (Build jobs)) rose d (status.Refused s) takes h = is_refused_by s h.1
  others (Some (Build jobs)) rose d status.Usage takes h = tt
  others (Some (Build jobs)) rose d status.ReadFault takes h = tt
  others (Some (Build jobs)) rose d (status.WriteFault n m) takes h = tt
  others (Some (Build jobs)) rose d status.Memory takes h = tt
  others (Some (Build jobs)) rose d status.Entries takes h = h
  others (Some (Build jobs)) rose d status.Stuck takes h = h
  others (Some (Build jobs)) rose d (status.BadEntry index) takes h = h
  others (Some (Build jobs)) rose d (status.Walked end) takes h = h
  others (Some (Build jobs)) rose d (status.Cycles cycles) takes h = h
  others (Some (Build jobs)) rose d (status.NotNet offset) takes h = h.0
  others (Some (Build jobs)) rose d (status.Loop signal) takes h = h.0
  others (Some (Build jobs)) rose d (status.Doubt offset name) takes h = h.0
  others (Some (Build jobs)) rose d (status.Race first second name) takes h = h
  others (Some (Build jobs)) rose d (status.UndefinedStep offset cause) takes h = h
  others (Some (Build jobs)) rose d (status.Unknown steps cause) takes h = h
  others (Some (Step most vcd)) rose d status.Ok takes h = is_not_accepted h.1.text h.1.program h.1.weight h.1.gave h.1.compiled.accepted
  others (Some (Step most vcd)) rose d (status.Refused s) takes h = is_refused_by s h.1
  others (Some (Step most vcd)) rose d status.Usage takes h = tt
  others (Some (Step most vcd)) rose d status.ReadFault takes h = tt
  others (Some (Step most vcd)) rose d (status.WriteFault n m) takes h = tt
  others (Some (Step most vcd)) rose d status.Memory takes h = tt
  others (Some (Step most vcd)) rose d status.Entries takes h = h
  others (Some (Step most vcd)) rose d status.Stuck takes h = h
  others (Some (Step most vcd)) rose d (status.BadEntry index) takes h = h
  others (Some (Step most vcd)) rose d (status.Walked end) takes h = h
  others (Some (Step most vcd)) rose d (status.Cycles cycles) takes h = is_not_accepted h.text h.program h.weight h.gave h.compiled.accepted
  others (Some (Step most vcd)) rose d (status.NotNet offset) takes h = h.0
  others (Some (Step most vcd)) rose d (status.Loop signal) takes h = h.0
  others (Some (Step most vcd)) rose d (status.Doubt offset name) takes h = h.0
  others (Some (Step most vcd)) rose d (status.Race first second name) takes h = h
  others (Some (Step most vcd)) rose d (status.UndefinedStep offset cause) takes h = h
  others (Some (Step most vcd)) rose d (status.Unknown steps cause) takes h = h
  others (Some (Run most listed)) rose d status.Ok takes h = is_not_accepted h.text h.program h.weight h.gave h.compiled.accepted
  others (Some (Run most listed)) rose d (status.Refused s) takes h = is_refused_by s h.1
  others (Some (Run most listed)) rose d status.Usage takes h = tt
  others (Some (Run most listed)) rose d status.ReadFault takes h = tt
  others (Some (Run most listed)) rose d (status.WriteFault n m) takes h = tt
  others (Some (Run most listed)) rose d status.Memory takes h = tt
  others (Some (Run most listed)) rose d status.Entries takes h = is_not_accepted h.text h.program h.weight h.gave h.compiled.accepted
  others (Some (Run most listed)) rose d status.Stuck takes h = is_not_accepted h.text h.program h.weight h.gave h.compiled.accepted
  others (Some (Run most listed)) rose d (status.BadEntry index) takes h = h
  others (Some (Run most listed)) rose d (status.Walked end) takes h = h
  others (Some (Run most listed)) rose d (status.Cycles cycles) takes h = h
  others (Some (Run most listed)) rose d (status.NotNet offset) takes h = h.0
  others (Some (Run most listed)) rose d (status.Loop signal) takes h = h.0
  others (Some (Run most listed)) rose d (status.Doubt offset name) takes h = h.0
  others (Some (Run most listed)) rose d (status.Race first second name) takes h = h
  others (Some (Run most listed)) rose d (status.UndefinedStep offset cause) takes h = h
  others (Some (Run most listed)) rose d (status.Unknown steps cause) takes h = h
  others (Some (Walk turns)) rose d status.Ok takes h = is_not_accepted h.text h.program h.weight h.gave h.accepted
  others (Some (Walk turns)) rose d (status.Refused s) takes h = is_refused_by s h.1
  others (Some (Walk turns)) rose d status.Usage takes h = tt
  others (Some (Walk turns)) rose d status.ReadFault takes h = tt
  others (Some (Walk turns)) rose d (status.WriteFault n m) takes h = tt
  others (Some (Walk turns)) rose d status.Memory takes h = tt
  others (Some (Walk turns)) rose d status.Entries takes h = h
  others (Some (Walk turns)) rose d status.Stuck takes h = h
  others (Some (Walk turns)) rose d (status.BadEntry index) takes h = h
  others (Some (Walk turns)) rose d (status.Walked end) takes h = is_not_accepted h.text h.program h.weight h.gave h.accepted
  others (Some (Walk turns)) rose d (status.Cycles cycles) takes h = h
  others (Some (Walk turns)) rose d (status.NotNet offset) takes h = h.0
  others (Some (Walk turns)) rose d (status.Loop signal) takes h = h.0
  others (Some (Walk turns)) rose d (status.Doubt offset name) takes h = h.0
  others (Some (Walk turns)) rose d (status.Race first second name) takes h = h
  others (Some (Walk turns)) rose d (status.UndefinedStep offset cause) takes h = h
  others (Some (Walk turns)) rose d (status.Unknown steps cause) takes h = h
  others (Some Check) rose d status.Ok takes h = is_not_accepted h.text h.program h.weight h.gave h.accepted
  others (Some Check) rose d (status.Refused s) takes h = is_refused_by s h.1
  others (Some Check) rose d status.Usage takes h = tt
  others (Some Check) rose d status.ReadFault takes h = tt
  others (Some Check) rose d (status.WriteFault n m) takes h = tt
  others (Some Check) rose d status.Memory takes h = tt
  others (Some Check) rose d status.Entries takes h = h
  others (Some Check) rose d status.Stuck takes h = h
  others (Some Check) rose d (status.BadEntry index) takes h = h
  others (Some Check) rose d (status.Walked end) takes h = h
  others (Some Check) rose d (status.Cycles cycles) takes h = h
  others (Some Check) rose d (status.NotNet offset) takes h = h.0
  others (Some Check) rose d (status.Loop signal) takes h = h.0
  others (Some Check) rose d (status.Doubt offset name) takes h = is_not_accepted h.0.text h.0.program h.0.weight h.0.gave h.0.accepted
  others (Some Check) rose d (status.Race first second name) takes h = h
  others (Some Check) rose d (status.UndefinedStep offset cause) takes h = h
  others (Some Check) rose d (status.Unknown steps cause) takes h = h
  others (Some (CheckRun most)) rose d status.Ok takes h = is_not_accepted h.text h.program h.weight h.gave h.accepted
  others (Some (CheckRun most)) rose d (status.Refused s) takes h = is_refused_by s h.1
  others (Some (CheckRun most)) rose d status.Usage takes h = tt
  others (Some (CheckRun most)) rose d status.ReadFault takes h = tt
  others (Some (CheckRun most)) rose d (status.WriteFault n m) takes h = tt
  others (Some (CheckRun most)) rose d status.Memory takes h = tt
  others (Some (CheckRun most)) rose d status.Entries takes h = h
  others (Some (CheckRun most)) rose d status.Stuck takes h = h
  others (Some (CheckRun most)) rose d (status.BadEntry index) takes h = h
  others (Some (CheckRun most)) rose d (status.Walked end) takes h = h
  others (Some (CheckRun most)) rose d (status.Cycles cycles) takes h = h
  others (Some (CheckRun most)) rose d (status.NotNet offset) takes h = h.0
  others (Some (CheckRun most)) rose d (status.Loop signal) takes h = h.0
  others (Some (CheckRun most)) rose d (status.Doubt offset name) takes h = h.0
  others (Some (CheckRun most)) rose d (status.Race first second name) takes h = is_not_accepted h.text h.program h.weight h.gave h.accepted
  others (Some (CheckRun most)) rose d (status.UndefinedStep offset cause) takes h = is_not_accepted h.text h.program h.weight h.gave h.accepted
  others (Some (CheckRun most)) rose d (status.Unknown steps cause) takes h = is_not_accepted h.text h.program h.weight h.gave h.accepted
  others (Some Report) rose d status.Ok takes h = is_not_accepted h.text h.program h.weight h.gave h.compiled.accepted
  others (Some Report) rose d (status.Refused s) takes h = is_refused_by s h.1
  others (Some Report) rose d status.Usage takes h = tt
  others (Some Report) rose d status.ReadFault takes h = tt
  others (Some Report) rose d (status.WriteFault n m) takes h = tt
  others (Some Report) rose d status.Memory takes h = tt
  others (Some Report) rose d status.Entries takes h = h
  others (Some Report) rose d status.Stuck takes h = h
  others (Some Report) rose d (status.BadEntry index) takes h = h
  others (Some Report) rose d (status.Walked end) takes h = h
  others (Some Report) rose d (status.Cycles cycles) takes h = h
  others (Some Report) rose d (status.NotNet offset) takes h = h.0
  others (Some Report) rose d (status.Loop signal) takes h = h.0
  others (Some Report) rose d (status.Doubt offset name) takes h = h.0
  others (Some Report) rose d (status.Race first second name) takes h = h
  others (Some Report) rose d (status.UndefinedStep offset cause) takes h = h
  others (Some Report) rose d (status.Unknown steps cause) takes h = h
  others (Some Replay) rose d s takes h = absurd takes
  others (Some (Sim most)) rose d s takes h = absurd takes
  others (Some (Gen seed threads size most)) rose d s takes h = absurd takes

-- ---- a replay

-- a journal and a text that are too long together
module _ (whole : List ℕ) (r : Refusal) (long : r ≡ refusal.TooLong) (more : most_replayed < length whole) where
  never_short : (entries : List Entry) (bad : Option ℕ) (text : List ℕ) → GaveJournal (Some whole) entries bad text → ⊥
  never_short entries bad text g = let s = subst (λ (w : List ℕ). length w ≤ most_replayed) g.gave g.short in omega (arith, s, more)

  too_long_together : (rose : Type 0) (d : Due) (s : Status) → OwesAt (Some Replay) (Some whole) rose d s → TellsRefusal r s
  too_long_together rose d status.Ok h = never_short d.journal None h.text h.gave
  too_long_together rose d (status.Refused s) h = ⊎_elim (λ both. both.0 ∙ sym long) (λ other. absurd (never_short other.1.0 other.1.1 other.0 other.1.2)) h.1
  too_long_together rose d status.Usage h = tt
  too_long_together rose d status.ReadFault h = tt
  too_long_together rose d (status.WriteFault n m) h = tt
  too_long_together rose d status.Memory h = tt
  too_long_together rose d status.Entries h = never_short d.journal None h.text h.gave
  too_long_together rose d status.Stuck h = never_short d.journal None h.text h.gave
  too_long_together rose d (status.BadEntry index) h = never_short h.entries h.bad h.text h.gave
  too_long_together rose d (status.Walked end) h = h
  too_long_together rose d (status.Cycles cycles) h = h
  too_long_together rose d (status.NotNet offset) h = h.0
  too_long_together rose d (status.Loop signal) h = h.0
  too_long_together rose d (status.Doubt offset name) h = h.0
  too_long_together rose d (status.Race first second name) h = h
  too_long_together rose d (status.UndefinedStep offset cause) h = h
  too_long_together rose d (status.Unknown steps cause) h = h

-- a text behind a journal
module _ (whole : List ℕ) (first : List Entry) (a : Option ℕ) (text : List ℕ) (gave : GaveJournal (Some whole) first a text) (r : Refusal) (refused : IsRefused text r) where
  never_accepted : (entries : List Entry) (bad : Option ℕ) (given : List ℕ) (P : Program) (w : ℕ) → GaveJournal (Some whole) entries bad given → IsAccepted given P w → ⊥
  never_accepted entries bad given P w g h =
      never_both text P w r (subst (λ (t : List ℕ). IsAccepted t P w) (one_text whole entries first bad a given text g gave) h) refused

  is_short : length whole ≤ most_replayed
  is_short = subst (λ (w : List ℕ). length w ≤ most_replayed) gave.gave gave.short

  replay_refused : (s : Refusal) → IsReplayRefused (Some whole) s → s ≡ r
  replay_refused s h =
      ⊎_elim (λ both. let more = both.1 in absurd (omega (arith, more, is_short)))
      (λ other. refused_once text s r (subst (λ (t : List ℕ). IsRefused t s) (one_text whole other.1.0 first other.1.1 a other.0 text other.1.2 gave) other.2) refused) h

  refused_behind : (rose : Type 0) (d : Due) (s : Status) → OwesAt (Some Replay) (Some whole) rose d s → TellsRefusal r s
  refused_behind rose d status.Ok h = never_accepted d.journal None h.text h.program h.weight h.gave h.compiled.accepted
  refused_behind rose d (status.Refused s) h = replay_refused s h.1
  refused_behind rose d status.Usage h = tt
  refused_behind rose d status.ReadFault h = tt
  refused_behind rose d (status.WriteFault n m) h = tt
  refused_behind rose d status.Memory h = tt
  refused_behind rose d status.Entries h = never_accepted d.journal None h.text h.program h.weight h.gave h.compiled.accepted
  refused_behind rose d status.Stuck h = never_accepted d.journal None h.text h.program h.weight h.gave h.compiled.accepted
  refused_behind rose d (status.BadEntry index) h = never_accepted h.entries h.bad h.text h.program h.weight h.gave h.compiled.accepted
  refused_behind rose d (status.Walked end) h = h
  refused_behind rose d (status.Cycles cycles) h = h
  refused_behind rose d (status.NotNet offset) h = h.0
  refused_behind rose d (status.Loop signal) h = h.0
  refused_behind rose d (status.Doubt offset name) h = h.0
  refused_behind rose d (status.Race first second name) h = h
  refused_behind rose d (status.UndefinedStep offset cause) h = h
  refused_behind rose d (status.Unknown steps cause) h = h

owes_refusal : (whole : List ℕ) (r : Refusal) (task : Option Task) (rose : Type 0) (d : Due) (s : Status) → IsRefusedFor task (Some whole) r → OwesAt task (Some whole) rose d s → TellsRefusal r s
owes_refusal whole r None rose d s is h = others whole r (refused_text whole r is) None rose d s tt h
owes_refusal whole r (Some (Build jobs)) rose d s is h = others whole r (refused_text whole r is) (Some (Build jobs)) rose d s tt h
owes_refusal whole r (Some (Step most vcd)) rose d s is h =
    others whole r (refused_text whole r is) (Some (Step most vcd)) rose d s tt h
owes_refusal whole r (Some (Run most listed)) rose d s is h =
    others whole r (refused_text whole r is) (Some (Run most listed)) rose d s tt h
owes_refusal whole r (Some (Walk turns)) rose d s is h = others whole r (refused_text whole r is) (Some (Walk turns)) rose d s tt h
owes_refusal whole r (Some Check) rose d s is h = others whole r (refused_text whole r is) (Some Check) rose d s tt h
owes_refusal whole r (Some (CheckRun most)) rose d s is h = others whole r (refused_text whole r is) (Some (CheckRun most)) rose d s tt h
owes_refusal whole r (Some Report) rose d s is h = others whole r (refused_text whole r is) (Some Report) rose d s tt h
owes_refusal whole r (Some (Sim most)) rose d s is h = absurd is
owes_refusal whole r (Some (Gen seed threads size most)) rose d s is h = absurd is
owes_refusal whole r (Some Replay) rose d s is h =
    ⊎_elim (λ long. too_long_together whole r long.0 long.1 rose d s h) (λ other. refused_behind whole other.1.0 other.1.1 other.0 other.1.2 r other.2 rose d s h) is

ends_so : (r : Refusal) (owed : Status) (due line : List ℕ) (out err : Passage) (s : Status) → Ends owed due line out err s → TellsRefusal r owed → TellsRefusal r s
ends_so r owed due line out err status.Ok h k = subst (TellsRefusal r) (sym h.0) k
ends_so r owed due line out err (status.Refused s) h k = subst (TellsRefusal r) (sym h.0) k
ends_so r owed due line out err status.Usage h k = tt
ends_so r owed due line out err status.ReadFault h k = tt
ends_so r owed due line out err (status.WriteFault n m) h k = tt
ends_so r owed due line out err status.Memory h k = tt
ends_so r owed due line out err status.Entries h k = subst (TellsRefusal r) (sym h.0) k
ends_so r owed due line out err status.Stuck h k = subst (TellsRefusal r) (sym h.0) k
ends_so r owed due line out err (status.BadEntry index) h k = subst (TellsRefusal r) (sym h.0) k
ends_so r owed due line out err (status.Walked end) h k = subst (TellsRefusal r) (sym h.0) k
ends_so r owed due line out err (status.Cycles cycles) h k = subst (TellsRefusal r) (sym h.0) k
ends_so r owed due line out err (status.NotNet offset) h k = subst (TellsRefusal r) (sym h.0) k
ends_so r owed due line out err (status.Loop signal) h k = subst (TellsRefusal r) (sym h.0) k
ends_so r owed due line out err (status.Doubt offset name) h k = subst (TellsRefusal r) (sym h.0) k
ends_so r owed due line out err (status.Race first second name) h k = subst (TellsRefusal r) (sym h.0) k
ends_so r owed due line out err (status.UndefinedStep offset cause) h k = subst (TellsRefusal r) (sym h.0) k
ends_so r owed due line out err (status.Unknown steps cause) h k = subst (TellsRefusal r) (sym h.0) k

pub tells_refusal : (task : Option Task) (left : Option (List ℕ)) (rose : Type 0) (out err : Passage) (outcome : Outcome) (whole : List ℕ) (r : Refusal) →
    Answered task left rose out err outcome → left ≡ Some whole → IsRefusedFor task (Some whole) r → TellsRefusal r outcome.status
tells_refusal task left rose out err outcome whole r h same refused =
    ends_so r h.owed.status h.owed.out h.owed.err out err outcome.status h.ends
    (owes_refusal whole r task rose h.owed h.owed.status refused (subst (λ l. OwesAt task l rose h.owed h.owed.status) same h.owes))
