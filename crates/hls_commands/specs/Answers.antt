-- What a call owes for the task that its words ask for and the text that its source gives.
use Rattle.std.specs.Prelude.{◌≡◌, ◌⊎◌, ℕ, ◌+◌, ◌<◌, ◌≤◌, Bool, true, false, List, [], ◌++◌, length, drop, Option, Some, None, IfSome, IsSome, string_bytes}
use Rattle.hls_words.specs.declared.task.Task.{Task}
use Rattle.hls_words.specs.declared.task.Task.TheVariants.{Build, Step, Run, Replay, Walk, Check, CheckRun, Sim, Gen, Report}
use Rattle.turns.specs.declared.Turn.{Turn}
use Rattle.turns.specs.Turns.{threads_of}
use Rattle.c_program.specs.Tree.{Program}
use Rattle.c_program.specs.Weight.{thread_count}
use Rattle.c_interpreter.specs.declared.walk.WalkEnd.{WalkEnd as Ends}
use Rattle.c_interpreter.specs.declared.walk.WalkEnd.TheVariants as ends
use Rattle.c_interpreter.specs.Walk.{IsWalk}
use Rattle.c_accepted.specs.declared.refusal.Refusal.{Refusal}
use Rattle.c_accepted.specs.declared.refusal.Refusal.TheVariants as refusal
use Rattle.c_accepted.specs.Profile.{most_bytes, IsAccepted, IsRefused}
use Rattle.verilog_tree.specs.declared.tree.Net.{Net}
use Rattle.netlist.specs.declared.netlist.Module.{Module}
use Rattle.netlist.specs.declared.netlist.Netlist.{Netlist}
use Rattle.netlist.specs.NetlistOf.{netlist_of}
use Rattle.hls_compile.specs.Compiled.{IsCompiled}
use Rattle.hls_compile.specs.Plans.{ArePlans}
use Rattle.hardware_report.specs.Report.{report_of}
use Rattle.generated_text.specs.Draws.{lines_of}
use Rattle.generated_text.specs.Text.{text_of}
use Rattle.thread_semantics.specs.Races.{IsGood}
use Rattle.thread_semantics.specs.declared.cause.UndefinedCause.{UndefinedCause}
use Rattle.check_command.specs.Told.{IsDisciplined, IsInDoubt}
use Rattle.check_command.specs.TurnList.{list_line}
use Rattle.check_command.specs.RunTold.{IsShownGood, IsShownRacing, IsShownUndefined}
use Rattle.check_command.specs.Verdict.{IsReason}
use Rattle.run_check.specs.declared.run.Reason.{Reason}
use Rattle.run_check.specs.declared.run.Reason.TheVariants as reason
use Rattle.sim_layout.specs.Rounds.{threads_of as enabled_of}
use Rattle.cycle_sim.specs.Round.{IsRound}
use Rattle.verilog_reader.specs.Faults.{IsFault, IsRead}
use Rattle.sim_loops.specs.First.{IsLoopless}
use Rattle.sim_loops.specs.Dotted.{IsLoopPath}
use Rattle.vcd_trace.specs.Trace.{IsTraced}
use Rattle.journal_text.specs.declared.entry.Entry.{Entry}
use Rattle.journal_text.specs.Texts.{IsParted}
use Rattle.journal_laws.specs.declared.verdict.Verdict.{Verdict}
use Rattle.journal_laws.specs.declared.verdict.Verdict.TheVariants as verdicts
use Rattle.run_command.specs.Run.{IsRan}
use Rattle.run_command.specs.Lines.{listed_lines, summary, bad_entry_line}
use Rattle.run_command.specs.Replays.{AreRun, IsFirstBad}
use Rattle.hls_status.specs.declared.status.Status.{Status}
use Rattle.hls_status.specs.declared.status.Status.TheVariants as status
use Rattle.hls_status.specs.declared.status.UnknownCause.{UnknownCause}
use Rattle.hls_status.specs.declared.status.UnknownCause.TheVariants as unknown
use Rattle.hls_status.specs.declared.status.WalkEnd.{WalkEnd}
use Rattle.hls_status.specs.declared.status.WalkEnd.TheVariants as walked
use Rattle.hls_status.specs.Lines.{built_line, cycles_line, disciplined_line, doubt_line, generated_line, good_line, loop_line, memory_line, not_net_line, race_line, read_fault_line}
use Rattle.hls_status.specs.Lines.{refusal_line, reported_line, undefined_step_line, unknown_line, usage_line, walk_line}

-- what a call owes: its status, the Verilog, the journal, the bytes for out and the lines for err
pub record Due : Type 0 where
  pub status : Status
  pub text : List ℕ
  pub journal : List Entry
  pub out : List ℕ
  pub err : List ℕ

-- no text, no journal, nothing for out, and this line
pub record IsPlain (d : Due) (line : List ℕ) : Type 0 where
  pub text : d.text ≡ []
  pub journal : d.journal ≡ []
  pub out : d.out ≡ []
  pub err : d.err ≡ line

-- ---- the text read

-- the source gave this text to its end, where it tells
abbrev pub Gave : Option (List ℕ) → List ℕ → Type 0
Gave left text = IfSome left (λ bytes. text ≡ bytes)

-- the source gave a text with this refusal, or one that is too long, of which the rest was not read
abbrev pub IsRefusedBy : Option (List ℕ) → Refusal → Type 0
IsRefusedBy left refusal.TooLong = IfSome left (λ bytes. most_bytes < length bytes)
IsRefusedBy left r = (text : List ℕ) × Gave left text × IsRefused text r

-- the most bytes of a text that begins with a journal
abbrev pub most_replayed : ℕ
most_replayed = 16777216

-- the source gave a text that begins with a journal, of these entries before the first that is misspelt, and behind it is the C text
pub record GaveJournal (left : Option (List ℕ)) (entries : List Entry) (bad : Option ℕ) (text : List ℕ) : Type 0 where
  pub whole : List ℕ
  pub gave : Gave left whole
  pub short : length whole ≤ most_replayed
  pub rest : ℕ
  pub parted : IsParted whole entries bad rest
  pub behind : text ≡ drop rest whole

-- the most bytes of a Verilog text
abbrev pub most_simulated : ℕ
most_simulated = 16777216

-- the source gave this Verilog text to its end, where it tells, and it is not too long
pub record GaveVerilog (left : Option (List ℕ)) (text : List ℕ) : Type 0 where
  pub gave : Gave left text
  pub short : length text ≤ most_simulated

-- the source gave this C text to a task: all that it has, or what follows the journal; a simulation takes none, nor does a program made from a number
abbrev pub GaveTo : Option Task → Option (List ℕ) → List ℕ → Type 0
GaveTo (Some (Sim most)) left text = ⊥
GaveTo (Some (Gen seed threads size most)) left text = ⊥
GaveTo (Some Replay) left text = (entries : List Entry) × (bad : Option ℕ) × GaveJournal left entries bad text
GaveTo other left text = Gave left text

-- a journal and a text that are too long together, or a text with this refusal behind a journal
abbrev pub IsReplayRefused : Option (List ℕ) → Refusal → Type 0
IsReplayRefused left r =
    ((r ≡ refusal.TooLong) × IfSome left (λ bytes. most_replayed < length bytes)) ⊎ ((text : List ℕ) × GaveTo (Some Replay) left text × IsRefused text r)

-- the text that the source gave to the task has this refusal
abbrev pub IsRefusedFor : Option Task → Option (List ℕ) → Refusal → Type 0
IsRefusedFor (Some (Sim most)) left r = ⊥
IsRefusedFor (Some (Gen seed threads size most)) left r = ⊥
IsRefusedFor (Some Replay) left r = IsReplayRefused left r
IsRefusedFor other left r = IsRefusedBy left r

-- a read failed, as the count of faults shows; a program made from a number reads nothing
abbrev pub IsReadFault : Option Task → Type 0 → Type 0
IsReadFault (Some (Gen seed threads size most)) rose = ⊥
IsReadFault other rose = rose

-- ---- what each command owes

-- the text is accepted as a program of this weight, and its Verilog, good Verilog of the program, goes to out
pub record IsBuilt (left : Option (List ℕ)) (d : Due) : Type 0 where
  pub text : List ℕ
  pub program : Program
  pub weight : ℕ
  pub net : Netlist
  pub gave : Gave left text
  pub compiled : IsCompiled text program weight net d.text
  pub unlisted : d.journal ≡ []
  pub out : d.out ≡ d.text
  pub err : d.err ≡ built_line (thread_count program) weight (length d.text)

-- what the Verilog of this net, by which thread functions of the program run by their plans, is made of
abbrev pub IsReportOf : Program → Netlist → List ℕ → Type 0
IsReportOf P n report = (plans : _) × ArePlans P n plans × (report ≡ report_of P n plans)

-- the text is accepted as a program of this weight, and what its good Verilog is made of goes to out
pub record IsReported (left : Option (List ℕ)) (d : Due) : Type 0 where
  pub text : List ℕ
  pub program : Program
  pub weight : ℕ
  pub net : Netlist
  pub written : List ℕ
  pub gave : Gave left text
  pub compiled : IsCompiled text program weight net written
  pub reported : IsReportOf program net d.out
  pub unwritten : d.text ≡ []
  pub unlisted : d.journal ≡ []
  pub err : d.err ≡ reported_line (length d.out)

-- main returned, or the walk ended before
abbrev pub status_of : Ends → Status
status_of (ends.Ended steps) = status.Ok
status_of (ends.Listed steps) = status.Walked (walked.Listed steps)
status_of (ends.Blocked index thread cause) = status.Walked (walked.Blocked index thread cause)
status_of (ends.Undefined index offset cause) = status.Walked (walked.Undefined index offset cause)

-- the text is accepted as a program, the listed threads took steps of it up to this end, and what was printed goes to out
pub record IsWalked (turns : List Turn) (left : Option (List ℕ)) (d : Due) (s : Status) : Type 0 where
  pub text : List ℕ
  pub program : Program
  pub weight : ℕ
  pub gave : Gave left text
  pub accepted : IsAccepted text program weight
  pub end : Ends
  pub walked : IsWalk program (threads_of turns) end d.out
  pub status : s ≡ status_of end
  pub plain : d.text ≡ []
  pub unlisted : d.journal ≡ []
  pub err : d.err ≡ walk_line end

-- what goes to out: what the net writes, or its dump
abbrev pub RunsAs : Bool → List Module → ℕ → ℕ → ℕ → Bool → List ℕ → Type 0
RunsAs true modules threads most cycles done out = IsTraced modules threads most cycles done out
RunsAs false modules threads most cycles done out = IsRound modules threads most cycles done out

-- the text is accepted as a program; of the net that its good Verilog reads as, so many cycles ran under the choices of `top_rr`,
-- the fewest after which done is shown, or else so many as were asked for; and what was written goes to out, or the dump in its place
pub record IsRun (most : ℕ) (vcd : Bool) (left : Option (List ℕ)) (d : Due) (cycles : ℕ) (done : Bool) : Type 0 where
  pub text : List ℕ
  pub program : Program
  pub weight : ℕ
  pub net : Netlist
  pub gave : Gave left text
  pub compiled : IsCompiled text program weight net d.text
  pub unlisted : d.journal ≡ []
  pub ran : RunsAs vcd net.modules (thread_count program) most cycles done d.out
  pub err : d.err ≡ cycles_line done cycles

-- done is shown, or not
abbrev pub run_status : Bool → ℕ → Status
run_status true cycles = status.Ok
run_status false cycles = status.Cycles cycles

abbrev pub IsStepped : ℕ → Bool → Option (List ℕ) → Due → Status → Type 0
IsStepped most vcd left d s = (cycles : ℕ) × (done : Bool) × IsRun most vcd left d cycles done × (s ≡ run_status done cycles)

-- the text of this seed, with so many threads beside main and so many lines, is accepted as a program, which is good; of the net that its good
-- Verilog reads as, so many cycles ran under the choices of `top_rr`, the fewest after which done is shown, or else so many as were asked for; and
-- what was written goes to out
pub record IsGeneratedRun (seed threads size most : ℕ) (d : Due) (cycles : ℕ) (done : Bool) : Type 0 where
  pub program : Program
  pub weight : ℕ
  pub net : Netlist
  pub compiled : IsCompiled (text_of threads (lines_of seed size)) program weight net d.text
  pub good : IsGood program
  pub counted : thread_count program ≡ threads + 1
  pub unlisted : d.journal ≡ []
  pub ran : IsRound net.modules (thread_count program) most cycles done d.out
  pub err : d.err ≡ generated_line done (length (text_of threads (lines_of seed size))) (length d.text) cycles

abbrev pub IsGenerated : ℕ → ℕ → ℕ → ℕ → Due → Status → Type 0
IsGenerated seed threads size most d s = (cycles : ℕ) × (done : Bool) × IsGeneratedRun seed threads size most d cycles done × (s ≡ run_status done cycles)

-- the text is accepted as a program; of the net that its good Verilog reads as, a run made this journal of at most so many entries, which
-- are legal and full; what its choices print goes to out, and this is the verdict on the state that they lead to
pub record IsRunBy (most : ℕ) (listed : Bool) (left : Option (List ℕ)) (d : Due) (v : Verdict) : Type 0 where
  pub text : List ℕ
  pub program : Program
  pub weight : ℕ
  pub net : Netlist
  pub gave : Gave left text
  pub compiled : IsCompiled text program weight net d.text
  pub ran : IsRan net.modules (thread_count program) most d.journal d.out v
  pub err : d.err ≡ listed_lines listed d.journal ++ summary d.journal v

-- the text behind the journal is accepted as a program, the entries of the journal are legal on the net that its good Verilog reads as,
-- what their choices print goes to out, and this is the verdict on the state that they lead to
pub record IsReplayed (left : Option (List ℕ)) (d : Due) (v : Verdict) : Type 0 where
  pub text : List ℕ
  pub program : Program
  pub weight : ℕ
  pub net : Netlist
  pub gave : GaveJournal left d.journal None text
  pub compiled : IsCompiled text program weight net d.text
  pub run : AreRun net.modules (thread_count program) d.journal d.out v
  pub err : d.err ≡ summary d.journal v

-- the text behind the journal is accepted as a program, and on the net that its good Verilog reads as this is the first entry that is not
-- legal, or misspelt
pub record HasBadEntry (left : Option (List ℕ)) (d : Due) (index : ℕ) : Type 0 where
  pub text : List ℕ
  pub program : Program
  pub weight : ℕ
  pub net : Netlist
  pub entries : List Entry
  pub bad : Option ℕ
  pub gave : GaveJournal left entries bad text
  pub compiled : IsCompiled text program weight net d.text
  pub first : IsFirstBad net.modules (thread_count program) entries bad index
  pub unlisted : d.journal ≡ []
  pub out : d.out ≡ []
  pub err : d.err ≡ bad_entry_line index

-- the verdict on the journal of a run or a replay
abbrev pub IsJudged : Option Task → Option (List ℕ) → Due → Verdict → Type 0
IsJudged (Some (Run most listed)) left d v = IsRunBy most listed left d v
IsJudged (Some Replay) left d v = IsReplayed left d v
IsJudged other left d v = ⊥

abbrev pub verdict_status : Verdict → Status
verdict_status verdicts.Done = status.Ok
verdict_status verdicts.Stuck = status.Stuck
verdict_status verdicts.Entries = status.Entries

abbrev pub HasBad : Option Task → Option (List ℕ) → Due → ℕ → Type 0
HasBad (Some Replay) left d index = HasBadEntry left d index
HasBad other left d index = ⊥

abbrev pub IsVerdict : Option Task → Option (List ℕ) → Verdict → Type 0
IsVerdict task left v = (d : Due) × IsJudged task left d v

abbrev pub IsBadEntryOf : Option Task → Option (List ℕ) → ℕ → Type 0
IsBadEntryOf task left index = (d : Due) × HasBad task left d index

-- ---- lock disciplines

-- the text is accepted as a program of which each global has a discipline, so that it never races
pub record IsFoundDisciplined (left : Option (List ℕ)) (d : Due) : Type 0 where
  pub text : List ℕ
  pub program : Program
  pub weight : ℕ
  pub gave : Gave left text
  pub accepted : IsAccepted text program weight
  pub globals : ℕ
  pub disciplined : IsDisciplined program globals
  pub plain : IsPlain d (disciplined_line globals)

-- the text is accepted as a program that is in doubt, at this place, about the global of this name, or without a name about a creator
pub record IsFoundInDoubt (left : Option (List ℕ)) (offset : ℕ) (name : List ℕ) : Type 0 where
  pub text : List ℕ
  pub program : Program
  pub weight : ℕ
  pub gave : Gave left text
  pub accepted : IsAccepted text program weight
  pub doubt : IsInDoubt text program offset name

abbrev pub IsDoubtOf : Option Task → Option (List ℕ) → ℕ → List ℕ → Type 0
IsDoubtOf (Some Check) left offset name = IsFoundInDoubt left offset name
IsDoubtOf other left offset name = ⊥

-- ---- one run

-- no text, no journal, this for out, and this line
pub record IsListed (d : Due) (list line : List ℕ) : Type 0 where
  pub text : d.text ≡ []
  pub journal : d.journal ≡ []
  pub out : d.out ≡ list
  pub err : d.err ≡ line

-- the text is accepted as a program that one run of so many steps shows good
pub record IsFoundGood (left : Option (List ℕ)) (d : Due) : Type 0 where
  pub text : List ℕ
  pub program : Program
  pub weight : ℕ
  pub gave : Gave left text
  pub accepted : IsAccepted text program weight
  pub steps : ℕ
  pub one_output : Bool
  pub good : IsShownGood program steps one_output
  pub plain : IsPlain d (good_line steps one_output)

-- the text is accepted as a program that, behind turns of which the list goes to out, races by steps at these bytes at the global of this name
pub record IsFoundRacing (left : Option (List ℕ)) (d : Due) (first second : ℕ) (name : List ℕ) : Type 0 where
  pub text : List ℕ
  pub program : Program
  pub weight : ℕ
  pub gave : Gave left text
  pub accepted : IsAccepted text program weight
  pub turns : List Turn
  pub racing : IsShownRacing program turns first second name
  pub listed : IsListed d (list_line turns) (race_line first second name)

-- the text is accepted as a program that comes to a step undefined for this cause at this byte, the last one of turns of which the list goes to out
pub record IsFoundUndefined (left : Option (List ℕ)) (d : Due) (offset : ℕ) (cause : UndefinedCause) : Type 0 where
  pub text : List ℕ
  pub program : Program
  pub weight : ℕ
  pub gave : Gave left text
  pub accepted : IsAccepted text program weight
  pub turns : List Turn
  pub undefined : IsShownUndefined program turns offset cause
  pub listed : IsListed d (list_line turns) (undefined_step_line offset cause)

abbrev pub cause_of : Reason → UnknownCause
cause_of reason.TooFewSteps = unknown.TooFewSteps
cause_of reason.Deadlock = unknown.Deadlock
cause_of reason.MutexLocked = unknown.MutexLocked
cause_of reason.BarrierWaited = unknown.BarrierWaited
cause_of reason.Unordered = unknown.Unordered

-- the text is accepted as a program of which one run shows nothing after so many steps, and why
pub record IsFoundUnknown (left : Option (List ℕ)) (d : Due) (steps : ℕ) (cause : UnknownCause) : Type 0 where
  pub text : List ℕ
  pub program : Program
  pub weight : ℕ
  pub gave : Gave left text
  pub accepted : IsAccepted text program weight
  pub reason : Reason
  pub named : cause ≡ cause_of reason
  pub shown : IsReason program steps reason
  pub plain : IsPlain d (unknown_line steps cause)

abbrev pub Racing : Option Task → Option (List ℕ) → Due → ℕ → ℕ → List ℕ → Type 0
Racing (Some (CheckRun most)) left d first second name = IsFoundRacing left d first second name
Racing other left d first second name = ⊥

abbrev pub Undefined : Option Task → Option (List ℕ) → Due → ℕ → UndefinedCause → Type 0
Undefined (Some (CheckRun most)) left d offset cause = IsFoundUndefined left d offset cause
Undefined other left d offset cause = ⊥

abbrev pub Unknown : Option Task → Option (List ℕ) → Due → ℕ → UnknownCause → Type 0
Unknown (Some (CheckRun most)) left d steps cause = IsFoundUnknown left d steps cause
Unknown other left d steps cause = ⊥

abbrev pub IsRaceOf : Option Task → Option (List ℕ) → ℕ → ℕ → List ℕ → Type 0
IsRaceOf task left first second name = (d : Due) × Racing task left d first second name

abbrev pub IsUndefinedOf : Option Task → Option (List ℕ) → ℕ → UndefinedCause → Type 0
IsUndefinedOf task left offset cause = (d : Due) × Undefined task left d offset cause

abbrev pub IsUnknownOf : Option Task → Option (List ℕ) → ℕ → UnknownCause → Type 0
IsUnknownOf task left steps cause = (d : Due) × Unknown task left d steps cause

-- ---- Verilog texts

-- the text spells a net that a simulator runs, of which no signal depends on itself; so many cycles of it ran under the choices of `top_rr`,
-- the fewest after which done is shown, or else so many as were asked for; and what was written goes to out
pub record IsSimulated (most : ℕ) (left : Option (List ℕ)) (d : Due) (cycles : ℕ) (done : Bool) : Type 0 where
  pub text : List ℕ
  pub net : Net
  pub gave : GaveVerilog left text
  pub read : IsRead text net
  pub loopless : IsLoopless (netlist_of net).modules
  pub ran : IsRound (netlist_of net).modules (enabled_of (netlist_of net).modules) most cycles done d.out
  pub unwritten : d.text ≡ []
  pub unlisted : d.journal ≡ []
  pub err : d.err ≡ cycles_line done cycles

-- a text that is too long, or one of which no net is read, and the offset that tells so
abbrev pub IsNotNet : Option (List ℕ) → ℕ → Type 0
IsNotNet left offset =
    ((offset ≡ most_simulated) × IfSome left (λ bytes. most_simulated < length bytes))
    ⊎ ((text : List ℕ) × GaveVerilog left text × IsFault text offset × ((n : Net) → IsRead text n → ⊥))

-- the text spells a net that a simulator would run, and the signal of this path is its first that depends on itself
pub record HasLoop (left : Option (List ℕ)) (path : List ℕ) : Type 0 where
  pub text : List ℕ
  pub net : Net
  pub gave : GaveVerilog left text
  pub read : IsRead text net
  pub first : IsLoopPath (netlist_of net).modules path

abbrev pub IsNotNetOf : Option Task → Option (List ℕ) → ℕ → Type 0
IsNotNetOf (Some (Sim most)) left offset = IsNotNet left offset
IsNotNetOf other left offset = ⊥

abbrev pub HasLoopOf : Option Task → Option (List ℕ) → List ℕ → Type 0
HasLoopOf (Some (Sim most)) left path = HasLoop left path
HasLoopOf other left path = ⊥

-- the task did all that it asks for
abbrev pub Succeeds : Option Task → Option (List ℕ) → Due → Type 0
Succeeds None left d = ⊥
Succeeds (Some (Build jobs)) left d = IsBuilt left d
Succeeds (Some (Step most vcd)) left d = (cycles : ℕ) × IsRun most vcd left d cycles true
Succeeds (Some (Run most listed)) left d = IsRunBy most listed left d verdicts.Done
Succeeds (Some Replay) left d = IsReplayed left d verdicts.Done
Succeeds (Some (Walk turns)) left d = IsWalked turns left d status.Ok
Succeeds (Some Check) left d = IsFoundDisciplined left d
Succeeds (Some (CheckRun most)) left d = IsFoundGood left d
Succeeds (Some (Sim most)) left d = (cycles : ℕ) × IsSimulated most left d cycles true
Succeeds (Some (Gen seed threads size most)) left d = (cycles : ℕ) × IsGeneratedRun seed threads size most d cycles true
Succeeds (Some Report) left d = IsReported left d

-- a walk ended so, before main returned
abbrev pub Halts : Option Task → Option (List ℕ) → Due → Status → Type 0
Halts (Some (Walk turns)) left d s = IsWalked turns left d s
Halts other left d s = ⊥

-- all cycles that the words ask for ran, and done is not shown
abbrev pub RunsOut : Option Task → Option (List ℕ) → Due → ℕ → Type 0
RunsOut (Some (Step most vcd)) left d cycles = IsRun most vcd left d cycles false
RunsOut (Some (Sim most)) left d cycles = IsSimulated most left d cycles false
RunsOut (Some (Gen seed threads size most)) left d cycles = IsGeneratedRun seed threads size most d cycles false
RunsOut other left d cycles = ⊥

abbrev pub HasRunOut : Option Task → Option (List ℕ) → ℕ → Type 0
HasRunOut task left cycles = (d : Due) × RunsOut task left d cycles

-- the words ask for a walk, and the program of the text comes to this end by it
abbrev pub IsWalkEnd : Option Task → Option (List ℕ) → WalkEnd → Type 0
IsWalkEnd task left end = (d : Due) × Halts task left d (status.Walked end)

-- ---- one line for each status

-- `task` is what the words ask for, `left` what the source has, and `rose` that its count of faults rose
abbrev pub OwesAt : Option Task → Option (List ℕ) → Type 0 → Due → Status → Type 0
OwesAt task left rose d status.Ok = Succeeds task left d
OwesAt task left rose d (status.Refused r) = IsSome task × IsRefusedFor task left r × IsPlain d (refusal_line r)
OwesAt task left rose d status.Usage = (task ≡ None) × IsPlain d usage_line
OwesAt task left rose d status.ReadFault = IsSome task × IsReadFault task rose × IsPlain d read_fault_line
OwesAt task left rose d (status.WriteFault out err) = ⊥
OwesAt task left rose d status.Memory = IsPlain d memory_line
OwesAt task left rose d status.Entries = IsJudged task left d verdicts.Entries
OwesAt task left rose d status.Stuck = IsJudged task left d verdicts.Stuck
OwesAt task left rose d (status.BadEntry index) = HasBad task left d index
OwesAt task left rose d (status.Walked end) = Halts task left d (status.Walked end)
OwesAt task left rose d (status.Cycles cycles) = RunsOut task left d cycles
OwesAt task left rose d (status.NotNet offset) = IsNotNetOf task left offset × IsPlain d (not_net_line offset)
OwesAt task left rose d (status.Loop signal) = HasLoopOf task left (string_bytes signal) × IsPlain d (loop_line (string_bytes signal))
OwesAt task left rose d (status.Doubt offset name) = IsDoubtOf task left offset (string_bytes name) × IsPlain d (doubt_line offset (string_bytes name))
OwesAt task left rose d (status.Race first second name) = Racing task left d first second (string_bytes name)
OwesAt task left rose d (status.UndefinedStep offset cause) = Undefined task left d offset cause
OwesAt task left rose d (status.Unknown steps cause) = Unknown task left d steps cause

abbrev pub Owes : Option Task → Option (List ℕ) → Type 0 → Due → Type 0
Owes task left rose d = OwesAt task left rose d d.status
