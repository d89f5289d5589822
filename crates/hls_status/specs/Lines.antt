-- The numbers of the statuses, and the lines on err.
use Rattle.std.specs.Prelude.{ℕ, Bool, true, false, List, [], ◌∷◌, ◌++◌, codes, decimal}
use Rattle.c_rules.specs.declared.fault.Rule.{Rule}
use Rattle.c_rules.specs.declared.fault.Rule.TheVariants as rule
use Rattle.c_rules.specs.Faults.{number}
use Rattle.c_limits.specs.declared.limit.Passed.{Passed}
use Rattle.c_limits.specs.Counts.{name_of, most}
use Rattle.c_accepted.specs.declared.refusal.Refusal.{Refusal}
use Rattle.c_accepted.specs.declared.refusal.Refusal.TheVariants as refusal
use Rattle.hls_ints.specs.declared.fault.ArithmeticFault.{ArithmeticFault}
use Rattle.hls_ints.specs.declared.fault.ArithmeticFault.TheVariants as arithmetic
use Rattle.thread_semantics.specs.declared.cause.UndefinedCause.{UndefinedCause}
use Rattle.thread_semantics.specs.declared.cause.UndefinedCause.TheVariants as undefined
use Rattle.thread_semantics.specs.declared.cause.BlockedCause.{BlockedCause}
use Rattle.thread_semantics.specs.declared.cause.BlockedCause.TheVariants as blocked
use Rattle.c_interpreter.specs.declared.walk.WalkEnd.{WalkEnd}
use Rattle.c_interpreter.specs.declared.walk.WalkEnd.TheVariants as ends
use Rattle.hls_status.specs.declared.status.UnknownCause.{UnknownCause}
use Rattle.hls_status.specs.declared.status.UnknownCause.TheVariants as unknown
use Rattle.hls_status.specs.declared.status.Status.{Status}
use Rattle.hls_status.specs.declared.status.Status.TheVariants as status

abbrev pub status_number : Status → ℕ
status_number status.Ok = 0
status_number (status.Refused refusal) = 1
status_number status.Usage = 2
status_number status.ReadFault = 3
status_number (status.WriteFault out err) = 4
status_number status.Memory = 5
status_number status.Entries = 6
status_number status.Stuck = 7
status_number (status.BadEntry index) = 8
status_number (status.Cycles cycles) = 9
status_number (status.Walked end) = 10
status_number (status.NotNet offset) = 11
status_number (status.Loop signal) = 11
status_number (status.Doubt offset name) = 12
status_number (status.Race first second name) = 13
status_number (status.UndefinedStep offset cause) = 14
status_number (status.Unknown steps cause) = 15

abbrev pub usage_line : List ℕ
usage_line = codes "hls: usage\n"

abbrev pub read_fault_line : List ℕ
read_fault_line = codes "hls: read fault\n"

abbrev pub write_fault_line : List ℕ
write_fault_line = codes "hls: write fault\n"

abbrev pub memory_line : List ℕ
memory_line = codes "hls: out of memory\n"

-- ---- refusals

abbrev pub words_of : Rule → List ℕ
words_of rule.Unknown = codes "unknown name"
words_of rule.Twice = codes "declared twice"
words_of rule.Kind = codes "wrong kind"
words_of rule.Arguments = codes "argument count"
words_of rule.Recursive = codes "recursion"
words_of rule.Threads = codes "thread rule"
words_of rule.Place = codes "out of place"
words_of rule.Constant = codes "constant out of range"
words_of rule.Format = codes "format"

abbrev pub refused_at : ℕ → ℕ → List ℕ → List ℕ
refused_at n at words =
    codes "hls: refused E" ++ (decimal n ++ (codes " at byte " ++ (decimal at ++ (codes ": " ++ (words ++ codes "\n")))))

abbrev pub limit_words : Passed → List ℕ
limit_words p = name_of p.limit ++ (codes " " ++ (decimal p.count ++ (codes ", at most " ++ decimal (most p.limit))))

abbrev pub limit_line : Passed → List ℕ
limit_line p = codes "hls: refused E12: " ++ (limit_words p ++ codes "\n")

abbrev pub refusal_line : Refusal → List ℕ
refusal_line refusal.TooLong = codes "hls: refused E1: longer than 65536 bytes\n"
refusal_line (refusal.NoToken at) = refused_at 2 at (codes "no token")
refusal_line (refusal.Syntax at) = refused_at 3 at (codes "syntax")
refusal_line (refusal.Broken r at) = refused_at (number r) at (words_of r)
refusal_line refusal.NoMain = codes "hls: refused E14: no main\n"
refusal_line (refusal.LimitAt p at) = refused_at 12 at (limit_words p)
refusal_line (refusal.Limit p) = limit_line p

-- ---- what a command did

abbrev pub built_line : ℕ → ℕ → ℕ → List ℕ
built_line threads weight bytes =
    codes "hls: built, " ++ (decimal threads ++ (codes " threads, weight " ++ (decimal weight ++ (codes ", " ++ (decimal bytes ++ codes " bytes\n")))))

-- ---- what a Verilog text is made of

abbrev pub reported_line : ℕ → List ℕ
reported_line bytes = codes "hls: reported, " ++ (decimal bytes ++ codes " bytes\n")

-- ---- runs of the Verilog

abbrev pub cycles_line : Bool → ℕ → List ℕ
cycles_line true cycles = codes "hls: done, " ++ (decimal cycles ++ codes " cycles\n")
cycles_line false cycles = codes "hls: not done, " ++ (decimal cycles ++ codes " cycles\n")

-- ---- programs made from a number

abbrev pub sizes_and_cycles : ℕ → ℕ → ℕ → List ℕ
sizes_and_cycles c_bytes bytes cycles =
    decimal c_bytes ++ (codes " bytes of C, " ++ (decimal bytes ++ (codes " bytes of Verilog, " ++ (decimal cycles ++ codes " cycles\n"))))

abbrev pub generated_line : Bool → ℕ → ℕ → ℕ → List ℕ
generated_line true c_bytes bytes cycles = codes "hls: generated, done, " ++ sizes_and_cycles c_bytes bytes cycles
generated_line false c_bytes bytes cycles = codes "hls: generated, not done, " ++ sizes_and_cycles c_bytes bytes cycles

-- ---- Verilog texts

abbrev pub not_net_line : ℕ → List ℕ
not_net_line offset = codes "hls: not a net at byte " ++ (decimal offset ++ codes "\n")

abbrev pub loop_line : List ℕ → List ℕ
loop_line signal = codes "hls: loop at " ++ (signal ++ codes "\n")

-- ---- lock disciplines

abbrev pub disciplined_line : ℕ → List ℕ
disciplined_line globals = codes "hls: disciplined, " ++ (decimal globals ++ codes " globals\n")

-- a global by its name; a call that creates or joins has none
abbrev pub doubted : List ℕ → List ℕ
doubted [] = codes "creator"
doubted (byte ∷ bytes) = byte ∷ bytes

abbrev pub doubt_line : ℕ → List ℕ → List ℕ
doubt_line offset name = codes "hls: doubt at byte " ++ (decimal offset ++ (codes ": " ++ (doubted name ++ codes "\n")))

-- ---- walks

abbrev pub arithmetic_words : ArithmeticFault → List ℕ
arithmetic_words arithmetic.Overflow = codes "overflow"
arithmetic_words arithmetic.Divisor = codes "divisor"
arithmetic_words arithmetic.Shift = codes "shift"

abbrev pub undefined_words : UndefinedCause → List ℕ
undefined_words (undefined.Arithmetic fault) = arithmetic_words fault
undefined_words undefined.Index = codes "index"
undefined_words undefined.Unwritten = codes "unwritten"
undefined_words undefined.NoValue = codes "no value"
undefined_words undefined.ThreadId = codes "thread id"
undefined_words undefined.Mutex = codes "mutex"
undefined_words undefined.Barrier = codes "barrier"
undefined_words undefined.LiveThread = codes "live thread"

-- ---- one run

abbrev pub good_line : ℕ → Bool → List ℕ
good_line steps true = codes "hls: good, " ++ (decimal steps ++ codes " steps, one output\n")
good_line steps false = codes "hls: good, " ++ (decimal steps ++ codes " steps\n")

abbrev pub race_line : ℕ → ℕ → List ℕ → List ℕ
race_line first second name =
    codes "hls: race at bytes " ++ (decimal first ++ (codes " and " ++ (decimal second ++ (codes ": " ++ (name ++ codes "\n")))))

abbrev pub undefined_step_line : ℕ → UndefinedCause → List ℕ
undefined_step_line offset cause = codes "hls: undefined at byte " ++ (decimal offset ++ (codes ": " ++ (undefined_words cause ++ codes "\n")))

abbrev pub unknown_words : UnknownCause → List ℕ
unknown_words unknown.TooFewSteps = codes "too few steps"
unknown_words unknown.Deadlock = codes "deadlock"
unknown_words unknown.MutexLocked = codes "a mutex was locked"
unknown_words unknown.BarrierWaited = codes "waits at a barrier not ordered"
unknown_words unknown.Unordered = codes "steps not ordered"

abbrev pub unknown_line : ℕ → UnknownCause → List ℕ
unknown_line steps cause =
    codes "hls: unknown, " ++ (decimal steps ++ (codes " steps: " ++ (unknown_words cause ++ codes "\n")))

-- ---- how steps end

abbrev pub blocked_words : BlockedCause → List ℕ
blocked_words blocked.Join = codes "join"
blocked_words blocked.Mutex = codes "mutex"
blocked_words blocked.Barrier = codes "barrier"
blocked_words blocked.NotRunning = codes "not running"

abbrev pub steps_line : List ℕ → ℕ → List ℕ
steps_line word steps = codes "hls: " ++ (word ++ (codes ", " ++ (decimal steps ++ codes " steps\n")))

abbrev pub blocked_line : ℕ → ℕ → BlockedCause → List ℕ
blocked_line index thread cause =
    codes "hls: blocked at step " ++ (decimal index ++ (codes ", thread " ++ (decimal thread ++ (codes ": " ++ (blocked_words cause ++ codes "\n")))))

abbrev pub undefined_line : ℕ → ℕ → UndefinedCause → List ℕ
undefined_line index offset cause =
    codes "hls: undefined at step " ++ (decimal index ++ (codes ", byte " ++ (decimal offset ++ (codes ": " ++ (undefined_words cause ++ codes "\n")))))

abbrev pub walk_line : WalkEnd → List ℕ
walk_line (ends.Ended steps) = steps_line (codes "ended") steps
walk_line (ends.Listed steps) = steps_line (codes "listed") steps
walk_line (ends.Blocked index thread cause) = blocked_line index thread cause
walk_line (ends.Undefined index offset cause) = undefined_line index offset cause
