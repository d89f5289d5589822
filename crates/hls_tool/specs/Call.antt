-- What a call of the tool says of its answer.
use Rattle.std.specs.Prelude.{◌≡◌, ◌⊎◌, ℕ, ◌<◌, ◌≤◌, Bool, List, length, Option, Some, ⊤, string_bytes}
use Rattle.hls_words.specs.declared.task.Task.{Task}
use Rattle.hls_words.specs.declared.task.Task.TheVariants.{Build, Step, Run, Replay, Walk, Check, CheckRun, Sim, Report}
use Rattle.verilog_tree.specs.declared.tree.Net.{Net}
use Rattle.netlist.specs.NetlistOf.{netlist_of}
use Rattle.verilog_reader.specs.Faults.{IsRead}
use Rattle.sim_loops.specs.First.{IsLoopless}
use Rattle.sim_loops.specs.Dotted.{IsLoopPath}
use Rattle.c_program.specs.Tree.{Program}
use Rattle.check_command.specs.Discipline.{Doubt, verdict}
use Rattle.check_command.specs.Told.{IsDisciplined}
use Rattle.check_command.specs.RunTold.{IsShownGood, IsShownRacing, IsShownUndefined}
use Rattle.check_command.specs.Verdict.{IsReason}
use Rattle.run_check.specs.declared.run.Reason.{Reason}
use Rattle.turns.specs.declared.Turn.{Turn}
use Rattle.c_interpreter.specs.declared.walk.WalkEnd.{WalkEnd as Ends}
use Rattle.c_accepted.specs.Profile.{IsAccepted}
use Rattle.c_accepted.specs.declared.refusal.Refusal.{Refusal}
use Rattle.hls_tool.specs.declared.outcome.Outcome.{Outcome}
use Rattle.hls_status.specs.declared.status.Status.{Status}
use Rattle.hls_status.specs.declared.status.Status.TheVariants as status
use Rattle.hls_commands.specs.Answers.{Due, GaveTo, Owes, cause_of, most_simulated, status_of}
use Rattle.hls_tool.specs.Delivery.{Ends as Delivered, Passage, TookAll}

-- the call owed an answer to its task, this is how that answer went out, and text and journal are those of the answer, also where a write failed
pub record Answered (task : Option Task) (left : Option (List ℕ)) (rose : Type 0) (out err : Passage) (outcome : Outcome) : Type 0 where
  pub owed : Due
  pub owes : Owes task left rose owed
  pub ends : Delivered owed.status owed.out owed.err out err outcome.status
  pub text : outcome.text ≡ owed.text
  pub journal : outcome.journal ≡ owed.journal

abbrev pub IsWriteFault : Status → Type 0
IsWriteFault (status.WriteFault n m) = ⊤
IsWriteFault s = ⊥

-- this refusal, but for words of no task, a fault of the source or of a sink, and want of memory
abbrev pub TellsRefusal : Refusal → Status → Type 0
TellsRefusal r (status.Refused s) = s ≡ r
TellsRefusal r status.Usage = ⊤
TellsRefusal r status.ReadFault = ⊤
TellsRefusal r (status.WriteFault n m) = ⊤
TellsRefusal r status.Memory = ⊤
TellsRefusal r s = ⊥

-- the words ask for the task, and the source gives it a text of the profile
pub record AsksFor (t : Task) (task : Option Task) (left : Option (List ℕ)) (P : Program) : Type 0 where
  pub whole : List ℕ
  pub text : List ℕ
  pub weight : ℕ
  pub asks : task ≡ Some t
  pub tells : left ≡ Some whole
  pub gives : GaveTo (Some t) (Some whole) text
  pub accepted : IsAccepted text P weight

-- how a task ends for a text of the profile: with what it asks for, or for want of memory
abbrev pub Completes : Task → Status → Type 0
Completes t status.Memory = ⊤
Completes (Build jobs) status.Ok = ⊤
Completes (Step most vcd) status.Ok = ⊤
Completes (Step most vcd) (status.Cycles n) = ⊤
Completes (Run most listed) status.Ok = ⊤
Completes (Run most listed) status.Entries = ⊤
Completes (Run most listed) status.Stuck = ⊤
Completes Replay status.Ok = ⊤
Completes Replay status.Entries = ⊤
Completes Replay status.Stuck = ⊤
Completes Replay (status.BadEntry index) = ⊤
Completes (Walk turns) status.Ok = ⊤
Completes (Walk turns) (status.Walked end) = ⊤
Completes Check status.Ok = ⊤
Completes Check (status.Doubt offset name) = ⊤
Completes (CheckRun most) status.Ok = ⊤
Completes (CheckRun most) (status.Race first second name) = ⊤
Completes (CheckRun most) (status.UndefinedStep offset cause) = ⊤
Completes (CheckRun most) (status.Unknown steps cause) = ⊤
Completes Report status.Ok = ⊤
Completes t s = ⊥

-- the status of this end of a walk, but for a fault of the source or of a sink, and want of memory
abbrev pub TellsEnd : Ends → Status → Type 0
TellsEnd end status.Memory = ⊤
TellsEnd end status.ReadFault = ⊤
TellsEnd end (status.WriteFault n m) = ⊤
TellsEnd end s = s ≡ status_of end

-- ---- lock disciplines

-- how a check of the program ends, but for a fault of the source or of a sink, and want of memory. The two cases exclude one another, so each
-- status comes exactly where its case holds
abbrev pub TellsDiscipline : Program → Status → Type 0
TellsDiscipline P status.Ok = (globals : ℕ) × IsDisciplined P globals
TellsDiscipline P (status.Doubt offset name) = (step : ℕ) × (verdict P ≡ Doubt step (string_bytes name))
TellsDiscipline P status.ReadFault = ⊤
TellsDiscipline P (status.WriteFault n m) = ⊤
TellsDiscipline P status.Memory = ⊤
TellsDiscipline P s = ⊥

-- ---- one run

-- how a check of the program by one run ends, but for a fault of the source or of a sink, and want of memory: good only where it is good, and a
-- race or an undefined step only where some interleaving comes to it
abbrev pub TellsRun : Program → Status → Type 0
TellsRun P status.Ok = (steps : ℕ) × (one_output : Bool) × IsShownGood P steps one_output
TellsRun P (status.Race first second name) = (turns : List Turn) × IsShownRacing P turns first second (string_bytes name)
TellsRun P (status.UndefinedStep offset cause) = (turns : List Turn) × IsShownUndefined P turns offset cause
TellsRun P (status.Unknown steps cause) = (reason : Reason) × (cause ≡ cause_of reason) × IsReason P steps reason
TellsRun P status.ReadFault = ⊤
TellsRun P (status.WriteFault n m) = ⊤
TellsRun P status.Memory = ⊤
TellsRun P s = ⊥

-- ---- programs made from a number

-- how a task that makes a program from a number ends, but for a fault of a sink and want of memory: it reads nothing, and what it makes is never refused
abbrev pub TellsGeneration : Status → Type 0
TellsGeneration status.Ok = ⊤
TellsGeneration (status.Cycles cycles) = ⊤
TellsGeneration (status.WriteFault n m) = ⊤
TellsGeneration status.Memory = ⊤
TellsGeneration s = ⊥

-- ---- Verilog texts

-- the words ask for a simulation of so many cycles at most, and the source gives this text
pub record AsksToSimulate (most : ℕ) (task : Option Task) (left : Option (List ℕ)) (text : List ℕ) : Type 0 where
  pub asks : task ≡ Some (Sim most)
  pub tells : left ≡ Some text

-- the text is too long, or no net is read of it
abbrev pub SpellsNone : List ℕ → Type 0
SpellsNone text = (most_simulated < length text) ⊎ ((n : Net) → IsRead text n → ⊥)

-- the text is not too long, and this net is read of it
pub record Spells (text : List ℕ) (n : Net) : Type 0 where
  pub short : length text ≤ most_simulated
  pub read : IsRead text n

-- of the net that the text spells no signal depends on itself
abbrev pub SpellsLoopless : List ℕ → Type 0
SpellsLoopless text = (n : Net) × Spells text n × IsLoopless (netlist_of n).modules

-- of the net that the text spells the signal of this path is the first that depends on itself
abbrev pub SpellsLoop : List ℕ → List ℕ → Type 0
SpellsLoop text path = (n : Net) × Spells text n × IsLoopPath (netlist_of n).modules path

-- how a simulation of the text ends, but for a fault of the source or of a sink, and want of memory. The three cases exclude one another, so
-- each status comes exactly where its case holds
abbrev pub TellsSimulation : List ℕ → Status → Type 0
TellsSimulation text status.Ok = SpellsLoopless text
TellsSimulation text (status.Cycles cycles) = SpellsLoopless text
TellsSimulation text (status.NotNet offset) = SpellsNone text
TellsSimulation text (status.Loop signal) = SpellsLoop text (string_bytes signal)
TellsSimulation text status.ReadFault = ⊤
TellsSimulation text (status.WriteFault n m) = ⊤
TellsSimulation text status.Memory = ⊤
TellsSimulation text s = ⊥

-- this status, and both sinks took what another answer owes to them; but for a fault of the source or of a sink, and want of memory
abbrev pub AnswersAs : Due → Status → Passage → Passage → Status → Type 0
AnswersAs d owed out err status.ReadFault = ⊤
AnswersAs d owed out err (status.WriteFault n m) = ⊤
AnswersAs d owed out err status.Memory = ⊤
AnswersAs d owed out err s = (s ≡ owed) × TookAll d.out d.err out err
