-- A task ends, for a text of the profile, with what it asks for or for want of memory, where no stream fails.
use Rattle.std.proofs.Common.{◌≡◌, ℕ, ◌≤◌, Bool, List, length, Option, Some, None, sym, subst, ⊎_elim, arith}
use Rattle.hls_words.specs.declared.task.Task.{Task}
use Rattle.hls_words.specs.declared.task.Task.TheVariants.{Build, Step, Run, Replay, Walk, Check, CheckRun, Sim, Gen, Report}
use Rattle.turns.specs.declared.Turn.{Turn}
use Rattle.c_program.specs.Tree.{Program}
use Rattle.c_accepted.specs.declared.refusal.Refusal.{Refusal}
use Rattle.c_accepted.specs.declared.refusal.Refusal.TheVariants as refusal
use Rattle.c_accepted.specs.Profile.{IsAccepted, IsRefused}
use Rattle.journal_text.specs.declared.entry.Entry.{Entry}
use Rattle.hls_status.proofs.Stages.{never_both}
use Rattle.hls_tool.specs.declared.outcome.Outcome.{Outcome}
use Rattle.hls_status.specs.declared.status.Status.{Status}
use Rattle.hls_status.specs.declared.status.Status.TheVariants as status
use Rattle.hls_commands.specs.Answers.{Due, Gave, GaveJournal, GaveTo, IsRefusedBy, IsReplayRefused, OwesAt, most_replayed}
use Rattle.hls_tool.specs.Call.{Answered, AsksFor, Completes}
use Rattle.hls_tool.proofs.TextLemmas.{one_text}
use Rattle.hls_tool.specs.Delivery.{Ends, Failed, Passage}

-- ---- a text that the source gave

of_given : (text : List ℕ) (r : Refusal) → ((given : List ℕ) × Gave (Some text) given × IsRefused given r) → IsRefused text r
of_given text r h = subst (λ t. IsRefused t r) h.1 h.2

-- one that is refused has the refusal
pub refused_text : (text : List ℕ) (r : Refusal) → IsRefusedBy (Some text) r → IsRefused text r
refused_text text refusal.TooLong h = h
refused_text text (refusal.NoToken at) h = of_given text (refusal.NoToken at) h
refused_text text (refusal.Syntax at) h = of_given text (refusal.Syntax at) h
refused_text text (refusal.Broken rule at) h = of_given text (refusal.Broken rule at) h
refused_text text refusal.NoMain h = of_given text refusal.NoMain h
refused_text text (refusal.LimitAt passed at) h = of_given text (refusal.LimitAt passed at) h
refused_text text (refusal.Limit passed) h = of_given text (refusal.Limit passed) h

module _ (text : List ℕ) (P : Program) (w : ℕ) (accepted : IsAccepted text P w) where
  pub never_refused : (r : Refusal) → IsRefusedBy (Some text) r → ⊥
  never_refused r h = never_both text P w r accepted (refused_text text r h)

  -- ---- what is owed for it

  owes_build : (jobs : ℕ) (rose : Type 0) (d : Due) (s : Status) → OwesAt (Some (Build jobs)) (Some text) rose d s → (rose → ⊥) → Completes (Build jobs) s
  owes_build jobs rose d status.Ok h calm = tt
  owes_build jobs rose d (status.Refused r) h calm = absurd (never_refused r h.1)
  owes_build jobs rose d status.Usage h calm = absurd (let e : Some (Build jobs) ≡ None = h.0 in cc)
  owes_build jobs rose d status.ReadFault h calm = absurd (calm h.1)
  owes_build jobs rose d (status.WriteFault n m) h calm = absurd h
  owes_build jobs rose d status.Memory h calm = tt
  owes_build jobs rose d status.Entries h calm = absurd h
  owes_build jobs rose d status.Stuck h calm = absurd h
  owes_build jobs rose d (status.BadEntry index) h calm = absurd h
  owes_build jobs rose d (status.Walked end) h calm = absurd h
  owes_build jobs rose d (status.Cycles cycles) h calm = absurd h
  owes_build jobs rose d (status.NotNet offset) h calm = absurd h.0
  owes_build jobs rose d (status.Loop signal) h calm = absurd h.0
  owes_build jobs rose d (status.Doubt offset name) h calm = absurd h.0
  owes_build jobs rose d (status.Race first second name) h calm = absurd h
  owes_build jobs rose d (status.UndefinedStep offset cause) h calm = absurd h
  owes_build jobs rose d (status.Unknown steps cause) h calm = absurd h

  owes_step : (most : ℕ) (vcd : Bool) (rose : Type 0) (d : Due) (s : Status) → OwesAt (Some (Step most vcd)) (Some text) rose d s → (rose → ⊥) → Completes (Step most vcd) s
  owes_step most vcd rose d status.Ok h calm = tt
  owes_step most vcd rose d (status.Refused r) h calm = absurd (never_refused r h.1)
  owes_step most vcd rose d status.Usage h calm = absurd (let e : Some (Step most vcd) ≡ None = h.0 in cc)
  owes_step most vcd rose d status.ReadFault h calm = absurd (calm h.1)
  owes_step most vcd rose d (status.WriteFault n m) h calm = absurd h
  owes_step most vcd rose d status.Memory h calm = tt
  owes_step most vcd rose d status.Entries h calm = absurd h
  owes_step most vcd rose d status.Stuck h calm = absurd h
  owes_step most vcd rose d (status.BadEntry index) h calm = absurd h
  owes_step most vcd rose d (status.Walked end) h calm = absurd h
  owes_step most vcd rose d (status.Cycles cycles) h calm = tt
  owes_step most vcd rose d (status.NotNet offset) h calm = absurd h.0
  owes_step most vcd rose d (status.Loop signal) h calm = absurd h.0
  owes_step most vcd rose d (status.Doubt offset name) h calm = absurd h.0
  owes_step most vcd rose d (status.Race first second name) h calm = absurd h
  owes_step most vcd rose d (status.UndefinedStep offset cause) h calm = absurd h
  owes_step most vcd rose d (status.Unknown steps cause) h calm = absurd h

  owes_run : (most : ℕ) (listed : Bool) (rose : Type 0) (d : Due) (s : Status) → OwesAt (Some (Run most listed)) (Some text) rose d s → (rose → ⊥) → Completes (Run most listed) s
  owes_run most listed rose d status.Ok h calm = tt
  owes_run most listed rose d (status.Refused r) h calm = absurd (never_refused r h.1)
  owes_run most listed rose d status.Usage h calm = absurd (let e : Some (Run most listed) ≡ None = h.0 in cc)
  owes_run most listed rose d status.ReadFault h calm = absurd (calm h.1)
  owes_run most listed rose d (status.WriteFault n m) h calm = absurd h
  owes_run most listed rose d status.Memory h calm = tt
  owes_run most listed rose d status.Entries h calm = tt
  owes_run most listed rose d status.Stuck h calm = tt
  owes_run most listed rose d (status.BadEntry index) h calm = absurd h
  owes_run most listed rose d (status.Walked end) h calm = absurd h
  owes_run most listed rose d (status.Cycles cycles) h calm = absurd h
  owes_run most listed rose d (status.NotNet offset) h calm = absurd h.0
  owes_run most listed rose d (status.Loop signal) h calm = absurd h.0
  owes_run most listed rose d (status.Doubt offset name) h calm = absurd h.0
  owes_run most listed rose d (status.Race first second name) h calm = absurd h
  owes_run most listed rose d (status.UndefinedStep offset cause) h calm = absurd h
  owes_run most listed rose d (status.Unknown steps cause) h calm = absurd h

  owes_walk : (turns : List Turn) (rose : Type 0) (d : Due) (s : Status) → OwesAt (Some (Walk turns)) (Some text) rose d s → (rose → ⊥) → Completes (Walk turns) s
  owes_walk turns rose d status.Ok h calm = tt
  owes_walk turns rose d (status.Refused r) h calm = absurd (never_refused r h.1)
  owes_walk turns rose d status.Usage h calm = absurd (let e : Some (Walk turns) ≡ None = h.0 in cc)
  owes_walk turns rose d status.ReadFault h calm = absurd (calm h.1)
  owes_walk turns rose d (status.WriteFault n m) h calm = absurd h
  owes_walk turns rose d status.Memory h calm = tt
  owes_walk turns rose d status.Entries h calm = absurd h
  owes_walk turns rose d status.Stuck h calm = absurd h
  owes_walk turns rose d (status.BadEntry index) h calm = absurd h
  owes_walk turns rose d (status.Walked end) h calm = tt
  owes_walk turns rose d (status.Cycles cycles) h calm = absurd h
  owes_walk turns rose d (status.NotNet offset) h calm = absurd h.0
  owes_walk turns rose d (status.Loop signal) h calm = absurd h.0
  owes_walk turns rose d (status.Doubt offset name) h calm = absurd h.0
  owes_walk turns rose d (status.Race first second name) h calm = absurd h
  owes_walk turns rose d (status.UndefinedStep offset cause) h calm = absurd h
  owes_walk turns rose d (status.Unknown steps cause) h calm = absurd h

  owes_check : (rose : Type 0) (d : Due) (s : Status) → OwesAt (Some Check) (Some text) rose d s → (rose → ⊥) → Completes Check s
  owes_check rose d status.Ok h calm = tt
  owes_check rose d (status.Refused r) h calm = absurd (never_refused r h.1)
  owes_check rose d status.Usage h calm = absurd (let e : Some Check ≡ None = h.0 in cc)
  owes_check rose d status.ReadFault h calm = absurd (calm h.1)
  owes_check rose d (status.WriteFault n m) h calm = absurd h
  owes_check rose d status.Memory h calm = tt
  owes_check rose d status.Entries h calm = absurd h
  owes_check rose d status.Stuck h calm = absurd h
  owes_check rose d (status.BadEntry index) h calm = absurd h
  owes_check rose d (status.Walked end) h calm = absurd h
  owes_check rose d (status.Cycles cycles) h calm = absurd h
  owes_check rose d (status.NotNet offset) h calm = absurd h.0
  owes_check rose d (status.Loop signal) h calm = absurd h.0
  owes_check rose d (status.Doubt offset name) h calm = tt
  owes_check rose d (status.Race first second name) h calm = absurd h
  owes_check rose d (status.UndefinedStep offset cause) h calm = absurd h
  owes_check rose d (status.Unknown steps cause) h calm = absurd h

  owes_check_run : (most : ℕ) (rose : Type 0) (d : Due) (s : Status) → OwesAt (Some (CheckRun most)) (Some text) rose d s → (rose → ⊥) → Completes (CheckRun most) s
  owes_check_run most rose d status.Ok h calm = tt
  owes_check_run most rose d (status.Refused r) h calm = absurd (never_refused r h.1)
  owes_check_run most rose d status.Usage h calm = absurd (let e : Some (CheckRun most) ≡ None = h.0 in cc)
  owes_check_run most rose d status.ReadFault h calm = absurd (calm h.1)
  owes_check_run most rose d (status.WriteFault n m) h calm = absurd h
  owes_check_run most rose d status.Memory h calm = tt
  owes_check_run most rose d status.Entries h calm = absurd h
  owes_check_run most rose d status.Stuck h calm = absurd h
  owes_check_run most rose d (status.BadEntry index) h calm = absurd h
  owes_check_run most rose d (status.Walked end) h calm = absurd h
  owes_check_run most rose d (status.Cycles cycles) h calm = absurd h
  owes_check_run most rose d (status.NotNet offset) h calm = absurd h.0
  owes_check_run most rose d (status.Loop signal) h calm = absurd h.0
  owes_check_run most rose d (status.Doubt offset name) h calm = absurd h.0
  owes_check_run most rose d (status.Race first second name) h calm = tt
  owes_check_run most rose d (status.UndefinedStep offset cause) h calm = tt
  owes_check_run most rose d (status.Unknown steps cause) h calm = tt

  owes_report : (rose : Type 0) (d : Due) (s : Status) → OwesAt (Some Report) (Some text) rose d s → (rose → ⊥) → Completes Report s
  owes_report rose d status.Ok h calm = tt
  owes_report rose d (status.Refused r) h calm = absurd (never_refused r h.1)
  owes_report rose d status.Usage h calm = absurd (let e : Some Report ≡ None = h.0 in cc)
  owes_report rose d status.ReadFault h calm = absurd (calm h.1)
  owes_report rose d (status.WriteFault n m) h calm = absurd h
  owes_report rose d status.Memory h calm = tt
  owes_report rose d status.Entries h calm = absurd h
  owes_report rose d status.Stuck h calm = absurd h
  owes_report rose d (status.BadEntry index) h calm = absurd h
  owes_report rose d (status.Walked end) h calm = absurd h
  owes_report rose d (status.Cycles cycles) h calm = absurd h
  owes_report rose d (status.NotNet offset) h calm = absurd h.0
  owes_report rose d (status.Loop signal) h calm = absurd h.0
  owes_report rose d (status.Doubt offset name) h calm = absurd h.0
  owes_report rose d (status.Race first second name) h calm = absurd h
  owes_report rose d (status.UndefinedStep offset cause) h calm = absurd h
  owes_report rose d (status.Unknown steps cause) h calm = absurd h

  -- ---- for a text behind a journal

  module _ (whole : List ℕ) (entries : List Entry) (bad : Option ℕ) (gave : GaveJournal (Some whole) entries bad text) where
    replay_never_refused : (r : Refusal) → IsReplayRefused (Some whole) r → ⊥
    replay_never_refused r h =
        let short = subst (λ (t : List ℕ). length t ≤ most_replayed) gave.gave gave.short in
        ⊎_elim (λ long. let more = long.1 in absurd (omega (arith, short, more)))
        (λ other. never_both text P w r accepted (subst (λ (t : List ℕ). IsRefused t r) (one_text whole other.1.0 entries other.1.1 bad other.0 text other.1.2 gave) other.2)) h

    owes_replay : (rose : Type 0) (d : Due) (s : Status) → OwesAt (Some Replay) (Some whole) rose d s → (rose → ⊥) → Completes Replay s
    owes_replay rose d status.Ok h calm = tt
    owes_replay rose d (status.Refused r) h calm = absurd (replay_never_refused r h.1)
    owes_replay rose d status.Usage h calm = absurd (let e : Some Replay ≡ None = h.0 in cc)
    owes_replay rose d status.ReadFault h calm = absurd (calm h.1)
    owes_replay rose d (status.WriteFault n m) h calm = absurd h
    owes_replay rose d status.Memory h calm = tt
    owes_replay rose d status.Entries h calm = tt
    owes_replay rose d status.Stuck h calm = tt
    owes_replay rose d (status.BadEntry index) h calm = tt
    owes_replay rose d (status.Walked end) h calm = absurd h
    owes_replay rose d (status.Cycles cycles) h calm = absurd h
    owes_replay rose d (status.NotNet offset) h calm = absurd h.0
    owes_replay rose d (status.Loop signal) h calm = absurd h.0
    owes_replay rose d (status.Doubt offset name) h calm = absurd h.0
    owes_replay rose d (status.Race first second name) h calm = absurd h
    owes_replay rose d (status.UndefinedStep offset cause) h calm = absurd h
    owes_replay rose d (status.Unknown steps cause) h calm = absurd h

owes_complete : (whole text : List ℕ) (P : Program) (w : ℕ) → IsAccepted text P w → (t : Task) (rose : Type 0) (d : Due) (s : Status) → GaveTo (Some t) (Some whole) text
    → OwesAt (Some t) (Some whole) rose d s → (rose → ⊥) → Completes t s
owes_complete whole text P w accepted (Build jobs) rose d s gave h calm =
    owes_build text P w accepted jobs rose d s (subst (λ (x : List ℕ). OwesAt (Some (Build jobs)) (Some x) rose d s) (sym gave) h) calm
owes_complete whole text P w accepted (Step most vcd) rose d s gave h calm =
    owes_step text P w accepted most vcd rose d s (subst (λ (x : List ℕ). OwesAt (Some (Step most vcd)) (Some x) rose d s) (sym gave) h) calm
owes_complete whole text P w accepted (Run most listed) rose d s gave h calm =
    owes_run text P w accepted most listed rose d s (subst (λ (x : List ℕ). OwesAt (Some (Run most listed)) (Some x) rose d s) (sym gave) h) calm
owes_complete whole text P w accepted Replay rose d s gave h calm = owes_replay text P w accepted whole gave.0 gave.1 gave.2 rose d s h calm
owes_complete whole text P w accepted (Walk turns) rose d s gave h calm =
    owes_walk text P w accepted turns rose d s (subst (λ (x : List ℕ). OwesAt (Some (Walk turns)) (Some x) rose d s) (sym gave) h) calm
owes_complete whole text P w accepted Check rose d s gave h calm =
    owes_check text P w accepted rose d s (subst (λ (x : List ℕ). OwesAt (Some Check) (Some x) rose d s) (sym gave) h) calm
owes_complete whole text P w accepted (CheckRun most) rose d s gave h calm =
    owes_check_run text P w accepted most rose d s (subst (λ (x : List ℕ). OwesAt (Some (CheckRun most)) (Some x) rose d s) (sym gave) h) calm
owes_complete whole text P w accepted Report rose d s gave h calm =
    owes_report text P w accepted rose d s (subst (λ (x : List ℕ). OwesAt (Some Report) (Some x) rose d s) (sym gave) h) calm
owes_complete whole text P w accepted (Sim most) rose d s gave h calm = absurd gave
owes_complete whole text P w accepted (Gen seed threads size most) rose d s gave h calm = absurd gave

-- ---- how it goes out

ends_complete : (t : Task) (owed : Status) (due line : List ℕ) (out err : Passage) (s : Status) → Ends owed due line out err s → Completes t owed → (Failed out → ⊥) →
    (Failed err → ⊥) → Completes t s
ends_complete t owed due line out err status.Ok h k o e = subst (Completes t) (sym h.0) k
ends_complete t owed due line out err (status.Refused r) h k o e = subst (Completes t) (sym h.0) k
ends_complete t owed due line out err status.Usage h k o e = subst (Completes t) (sym h.0) k
ends_complete t owed due line out err status.ReadFault h k o e = subst (Completes t) (sym h.0) k
ends_complete t owed due line out err (status.WriteFault n m) h k o e = absurd (⊎_elim (λ f. o f.0) (λ f. e f.0) h.1)
ends_complete t owed due line out err status.Memory h k o e = tt
ends_complete t owed due line out err status.Entries h k o e = subst (Completes t) (sym h.0) k
ends_complete t owed due line out err status.Stuck h k o e = subst (Completes t) (sym h.0) k
ends_complete t owed due line out err (status.BadEntry index) h k o e = subst (Completes t) (sym h.0) k
ends_complete t owed due line out err (status.Walked end) h k o e = subst (Completes t) (sym h.0) k
ends_complete t owed due line out err (status.Cycles cycles) h k o e = subst (Completes t) (sym h.0) k
ends_complete t owed due line out err (status.NotNet offset) h k o e = subst (Completes t) (sym h.0) k
ends_complete t owed due line out err (status.Loop signal) h k o e = subst (Completes t) (sym h.0) k
ends_complete t owed due line out err (status.Doubt offset name) h k o e = subst (Completes t) (sym h.0) k
ends_complete t owed due line out err (status.Race first second name) h k o e = subst (Completes t) (sym h.0) k
ends_complete t owed due line out err (status.UndefinedStep offset cause) h k o e = subst (Completes t) (sym h.0) k
ends_complete t owed due line out err (status.Unknown steps cause) h k o e = subst (Completes t) (sym h.0) k

module _ (task : Option Task) (left : Option (List ℕ)) (rose : Type 0) (out err : Passage) (outcome : Outcome) (t : Task) (P : Program)
    (h : Answered task left rose out err outcome) (asked : AsksFor t task left P) where
  pub owed_for : OwesAt (Some t) (Some asked.whole) rose h.owed h.owed.status
  owed_for = subst (λ l. OwesAt (Some t) l rose h.owed h.owed.status) asked.tells (subst (λ k. OwesAt k left rose h.owed h.owed.status) asked.asks h.owes)

  pub completes : (rose → ⊥) → (Failed out → ⊥) → (Failed err → ⊥) → Completes t outcome.status
  completes calm calm_out calm_err =
      ends_complete t h.owed.status h.owed.out h.owed.err out err outcome.status h.ends
      (owes_complete asked.whole asked.text P asked.weight asked.accepted t rose h.owed h.owed.status asked.gives owed_for calm) calm_out calm_err
