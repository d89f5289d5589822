-- How the code holds what it owes, and the parts of a command.
use Rattle.std.specs.Prelude.{◌≡◌, ◌⊎◌, ℕ, ◌+◌, true, false, List, [], length, string_bytes, Option, ⊤}
use Rattle.generated_text.specs.Draws.{lines_of}
use Rattle.generated_text.specs.Text.{text_of}
use Rattle.c_program.specs.Tree.{Program}
use Rattle.c_program.specs.Weight.{thread_count}
use Rattle.thread_semantics.specs.Races.{IsGood}
use Rattle.netlist.specs.declared.netlist.Netlist.{Netlist}
use Rattle.hls_compile.specs.Compiled.{IsCompiled}
use Rattle.hls_words.specs.declared.task.Task.{Task}
use Rattle.c_profile.specs.declared.text.ProfileError.{ProfileError}
use Rattle.c_profile.specs.declared.text.ProfileError.TheVariants as profile_error
use Rattle.hls_compile.specs.declared.CompileError.{CompileError}
use Rattle.hls_compile.specs.declared.CompileError.TheVariants as error
use Rattle.journal_laws.specs.declared.verdict.Verdict.{Verdict}
use Rattle.run_command.specs.declared.replay.ReplayAnswer.{ReplayAnswer}
use Rattle.run_command.specs.declared.replay.ReplayAnswer.TheVariants.{Replayed, BadEntry}
use Rattle.cycle_sim.specs.declared.run.Ran.{Ran}
use Rattle.hls_status.specs.declared.status.Status.{Status}
use Rattle.hls_status.specs.declared.status.Status.TheVariants as status
use Rattle.hls_commands.specs.declared.commands.Stop.{Stop}
use Rattle.hls_commands.specs.declared.commands.Stop.TheVariants as stop
use Rattle.hls_commands.specs.declared.answer.Answer.{Answer}
use Rattle.hls_commands.specs.declared.answer.Out.{Out}
use Rattle.hls_commands.specs.declared.answer.Out.TheVariants as to_out
use Rattle.hls_commands.specs.declared.answer.Line.{Line}
use Rattle.hls_commands.specs.declared.answer.Line.TheVariants as line
use Rattle.check_command.specs.declared.check.Told.{Told}
use Rattle.check_command.specs.declared.check.Told.TheVariants as told
use Rattle.check_command.specs.declared.run.RunTold.{RunTold}
use Rattle.check_command.specs.declared.run.RunTold.TheVariants as run
use Rattle.check_command.specs.TurnList.{list_line}
use Rattle.hls_commands.specs.Answers.{Due, Gave, HasBadEntry, HasLoop, IsFoundDisciplined, IsFoundGood, IsFoundInDoubt, IsFoundRacing, IsFoundUndefined, IsFoundUnknown, IsListed}
use Rattle.hls_commands.specs.Answers.{IsNotNet, IsPlain, IsReadFault, IsRefusedFor, IsReplayed, IsSimulated, cause_of, verdict_status}
use Rattle.hls_status.specs.Lines.{cycles_line, disciplined_line, doubt_line, good_line, loop_line, memory_line, not_net_line, race_line, read_fault_line, refusal_line}
use Rattle.hls_status.specs.Lines.{undefined_step_line, unknown_line}

-- ---- the bytes that an answer owes

abbrev pub out_bytes : List ℕ → Out → List ℕ
out_bytes text to_out.Nothing = []
out_bytes text to_out.Text = text
out_bytes text (to_out.Printed bytes) = bytes

abbrev pub line_bytes : Line → List ℕ
line_bytes (line.Fixed bytes) = bytes.now
line_bytes (line.Made text) = string_bytes text
line_bytes (line.Lines bytes) = bytes

abbrev pub due_of : Answer → Due
due_of a = record {
  status = a.status;
  text = a.text;
  journal = a.journal;
  out = out_bytes a.text a.out;
  err = line_bytes a.line;
}

-- ---- the parts of a command

-- a command that stops early has a cause
abbrev pub StopsBy : Option Task → Option (List ℕ) → Type 0 → Stop → Type 0
StopsBy task left rose stop.ReadFault = IsReadFault task rose
StopsBy task left rose (stop.Refused r) = IsRefusedFor task left r
StopsBy task left rose stop.Memory = ⊤

-- why a text has no Verilog
abbrev pub stop_of : CompileError → Stop
stop_of (error.Refused r) = stop.Refused r
stop_of error.Memory = stop.Memory

-- why a text has no program
abbrev pub refused : ProfileError → Stop
refused (profile_error.Refused r) = stop.Refused r
refused profile_error.Memory = stop.Memory

-- the answer to a stop; want of memory may stand in its place
abbrev pub StopStatus : Stop → Due → Status → Type 0
StopStatus s a status.Memory = IsPlain a memory_line
StopStatus s a status.ReadFault = (s ≡ stop.ReadFault) × IsPlain a read_fault_line
StopStatus s a (status.Refused r) = (s ≡ stop.Refused r) × IsPlain a (refusal_line r)
StopStatus s a _ = ⊥

abbrev pub AnswersStop : Stop → Due → Type 0
AnswersStop s a = StopStatus s a a.status

-- ---- replays

-- the answer of a replay whose net has this text
abbrev pub IsAnswerOf : List ℕ → ReplayAnswer → Due → Status → Type 0
IsAnswerOf text (Replayed v output journal line) d s =
    (s ≡ verdict_status v) × (d.text ≡ text) × (d.journal ≡ journal) × (d.out ≡ output) × (d.err ≡ string_bytes line)
IsAnswerOf text (BadEntry index line) d s =
    (s ≡ status.BadEntry index) × (d.text ≡ text) × (d.journal ≡ []) × (d.out ≡ []) × (d.err ≡ string_bytes line)

abbrev pub IsReplayOrBad : Option (List ℕ) → Due → Status → Type 0
IsReplayOrBad left d s =
    ((v : Verdict) × IsReplayed left d v × (s ≡ verdict_status v)) ⊎ ((index : ℕ) × HasBadEntry left d index × (s ≡ status.BadEntry index))

-- ---- lock disciplines

-- the answer that tells this
abbrev pub TellsIt : Told → Due → Status → Type 0
TellsIt (told.Disciplined globals) d s = (s ≡ status.Ok) × IsPlain d (disciplined_line globals)
TellsIt (told.Doubt offset name) d s = (s ≡ status.Doubt offset name) × IsPlain d (doubt_line offset (string_bytes name))

-- what a check owes that is told of its text
abbrev pub CheckOwes : Option (List ℕ) → Due → Status → Type 0
CheckOwes left d status.Ok = IsFoundDisciplined left d
CheckOwes left d (status.Doubt offset name) = IsFoundInDoubt left offset (string_bytes name) × IsPlain d (doubt_line offset (string_bytes name))
CheckOwes left d s = ⊥

-- ---- one run

-- the answer that tells this
abbrev pub TellsRun : RunTold → Due → Status → Type 0
TellsRun (run.Good steps one_output) d s = (s ≡ status.Ok) × IsPlain d (good_line steps one_output)
TellsRun (run.Race turns first second name) d s =
    (s ≡ status.Race first second name) × IsListed d (list_line turns.items) (race_line first second (string_bytes name))
TellsRun (run.Undefined turns offset cause) d s =
    (s ≡ status.UndefinedStep offset cause) × IsListed d (list_line turns.items) (undefined_step_line offset cause)
TellsRun (run.Unknown steps reason) d s =
    (s ≡ status.Unknown steps (cause_of reason)) × IsPlain d (unknown_line steps (cause_of reason))

-- what a check by one run owes that is told of its text
abbrev pub RunOwes : Option (List ℕ) → Due → Status → Type 0
RunOwes left d status.Ok = IsFoundGood left d
RunOwes left d (status.Race first second name) = IsFoundRacing left d first second (string_bytes name)
RunOwes left d (status.UndefinedStep offset cause) = IsFoundUndefined left d offset cause
RunOwes left d (status.Unknown steps cause) = IsFoundUnknown left d steps cause
RunOwes left d s = ⊥

-- ---- programs made from a number

-- the text of a seed has so many bytes and compiles to this, and its program is good
pub record IsMade (seed threads size c_bytes : ℕ) (P : Program) (weight : ℕ) (n : Netlist) (written : List ℕ) : Type 0 where
  pub long : c_bytes ≡ length (text_of threads (lines_of seed size))
  pub compiled : IsCompiled (text_of threads (lines_of seed size)) P weight n written
  pub good : IsGood P
  pub counted : thread_count P ≡ threads + 1

-- ---- Verilog texts

-- no text, no journal, what a run wrote for out, and the line of its cycles
pub record IsPrinted (ran : Ran) (d : Due) : Type 0 where
  pub text : d.text ≡ []
  pub journal : d.journal ≡ []
  pub out : d.out ≡ ran.printed
  pub err : d.err ≡ cycles_line ran.is_done ran.cycles

-- what a simulation owes that reads its text without a fault
abbrev pub SimOwes : ℕ → Option (List ℕ) → Due → Status → Type 0
SimOwes most left d status.Ok = (cycles : ℕ) × IsSimulated most left d cycles true
SimOwes most left d (status.Cycles cycles) = IsSimulated most left d cycles false
SimOwes most left d (status.NotNet offset) = IsNotNet left offset × IsPlain d (not_net_line offset)
SimOwes most left d (status.Loop signal) = HasLoop left (string_bytes signal) × IsPlain d (loop_line (string_bytes signal))
SimOwes most left d s = ⊥

-- the same of a text that a source gives
abbrev pub SimOwesFor : ℕ → List ℕ → Due → Status → Type 0
SimOwesFor most text d s = (left : Option (List ℕ)) → Gave left text → SimOwes most left d s
