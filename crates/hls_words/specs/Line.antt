-- The command line as a definition in clap's own data, and what its words ask for. Source: clap's builder, `Command`
-- and `Arg`. A further command is a line of `commands` and one of `task_in`.
use Rattle.std.specs.Prelude.{◌&&◌, ℕ, ◌≤◌, ◌^◌, ⊤, Bool, true, false, pos, List, [], ◌∷◌, codes, Option, Some, None, if◌then◌else◌, nat_lt, nat_le, option_and_then, option_map, is_some}
use Rattle.std.specs.Str.{bytes_eq}
use Rattle.std.specs.Str.Parse.{digits_value, without_leading_plus}
use Rattle.clap.specs.ValueTests.{is_numeral}
use Rattle.clap.specs.Faults.{fault_of}
use Rattle.clap.specs.Kinds.{Kinds}
use Rattle.clap.specs.Simple.{App, new_app, new_rule, on_top, subcommand_of, with_rule, with_subcommand}
use Rattle.clap.specs.Walk.{Row, Rule, Text, first_of, one_of}
use Rattle.clap.specs.declared.builder.action.ArgAction.TheVariants.{SetTrue}
use Rattle.clap.specs.declared.builder.value_parser.ValueParser.TheVariants.{Signed}
use Rattle.turns.specs.declared.Turn.{Turn}
use Rattle.turns.specs.Turns.{turns_of}
use Rattle.hls_words.specs.declared.task.Task.{Task}
use Rattle.hls_words.specs.declared.task.Task.TheVariants as task

-- ---- the table of commands

-- `--NAME n`, n from low to high
abbrev pub number_rule : Text → ℕ → ℕ → Rule
number_rule name low high =
    record (new_rule name) { long = Some name; parser = Some (Signed (pos low) (pos high)) }

-- an option that has to be given
abbrev pub required : Rule → Rule
required rule = record rule { required = true }

-- build, with `--jobs n` or without
abbrev pub build_line : App
build_line = with_rule (new_app (codes "build")) (number_rule (codes "jobs") 1 16)

-- `--NAME`, which reads as `true` where it is given, and else as `false`
abbrev pub flag_rule : Text → Rule
flag_rule name = record (new_rule name) { long = Some name; action = Some SetTrue }

-- step --cycles n, with `--vcd` or without
abbrev pub step_line : App
step_line =
    with_rule (with_rule (new_app (codes "step")) (required (number_rule (codes "cycles") 0 4294967295)))
    (flag_rule (codes "vcd"))

-- run, with `--entries n` or without, and with `--journal` or without
abbrev pub run_line : App
run_line = with_rule (with_rule (new_app (codes "run")) (number_rule (codes "entries") 1 1000000)) (flag_rule (codes "journal"))

-- replay
abbrev pub replay_line : App
replay_line = new_app (codes "replay")

-- `--NAME TEXT`
abbrev pub text_rule : Text → Rule
text_rule name = record (new_rule name) { long = Some name }

-- walk --threads list
abbrev pub walk_line : App
walk_line = with_rule (new_app (codes "walk")) (required (text_rule (codes "threads")))

-- check, with `--run n` or without
abbrev pub check_line : App
check_line = with_rule (new_app (codes "check")) (number_rule (codes "run") 1 10000000)

-- sim --cycles n
abbrev pub sim_line : App
sim_line = with_rule (new_app (codes "sim")) (required (number_rule (codes "cycles") 0 4294967295))

-- gen --seed s --threads t --size k, with `--steps n` or without
abbrev pub gen_line : App
gen_line =
    with_rule
    (with_rule
    (with_rule (with_rule (new_app (codes "gen")) (required (number_rule (codes "seed") 0 4294967295)))
    (required (number_rule (codes "threads") 1 63)))
    (required (number_rule (codes "size") 1 1000)))
    (number_rule (codes "steps") 0 4294967295)

-- report
abbrev pub report_line : App
report_line = new_app (codes "report")

abbrev pub commands : List App
commands = build_line ∷ step_line ∷ run_line ∷ replay_line ∷ walk_line ∷ check_line ∷ sim_line ∷ gen_line ∷ report_line ∷ []

-- the program without its commands, of which one has to be given
abbrev pub program_line : App
program_line = on_top (λ top. record top { subcommand_required = true }) (new_app (codes "hls"))

abbrev pub with_commands : App → List App → App
with_commands program [] = program
with_commands program (line ∷ lines) = with_commands (with_subcommand program line.top) lines

unfoldable pub command_line : App
command_line = with_commands program_line commands

-- ---- what taken words ask for

-- the number that the text writes, where it is one of 32 bits
abbrev pub number_of : Text → Option ℕ
number_of text =
    if is_numeral (without_leading_plus text)
    && nat_lt (digits_value 10 (without_leading_plus text)) (2 ^ 32)
    then Some (digits_value 10 (without_leading_plus text)) else None

abbrev pub in_range : ℕ → ℕ → ℕ → Option ℕ
in_range low high n = if nat_le low n && nat_le n high then Some n else None

-- the number of an option, or its default where the option isn't given
abbrev pub number_in : ℕ → ℕ → Option ℕ → Option Text → Option ℕ
number_in low high default text =
    if is_some text
    then option_and_then (in_range low high) (option_and_then number_of text) else default

abbrev pub build_in : List Row → Option Task
build_in rows = option_map (λ n. task.Build n)
    (number_in 1 16 (Some 1) (one_of (codes "jobs") rows))

-- whether a flag is given
abbrev pub is_set : Option Text → Bool
is_set None = false
is_set (Some text) = bytes_eq text (codes "true")

-- a dump is of 100,000 cycles at most
abbrev pub step_of : Bool → ℕ → Option Task
step_of vcd n = if vcd && nat_lt 100000 n then None else Some (task.Step n vcd)

abbrev pub step_in : List Row → Option Task
step_in rows = option_and_then (step_of (is_set (first_of (codes "vcd") rows)))
    (number_in 0 4294967295 None (one_of (codes "cycles") rows))

abbrev pub run_in : List Row → Option Task
run_in rows = option_map (λ n. task.Run n (is_set (first_of (codes "journal") rows)))
    (number_in 1 1000000 (Some 100000) (one_of (codes "entries") rows))

abbrev pub turns_in : Option Text → Option (List Turn)
turns_in None = None
turns_in (Some list) = turns_of list

abbrev pub walk_in : List Row → Option Task
walk_in rows = option_map (λ turns. task.Walk turns) (turns_in (first_of (codes "threads") rows))

-- with `--run n` by one run, and without it by lock disciplines
abbrev pub check_of : Bool → Option ℕ → Option Task
check_of true steps = option_map (λ n. task.CheckRun n) steps
check_of false steps = Some task.Check

abbrev pub check_in : List Row → Option Task
check_in rows = check_of (is_some (one_of (codes "run") rows)) (number_in 1 10000000 None (one_of (codes "run") rows))

abbrev pub sim_in : List Row → Option Task
sim_in rows = option_map (λ n. task.Sim n) (number_in 0 4294967295 None (one_of (codes "cycles") rows))

abbrev pub gen_in : List Row → Option Task
gen_in rows =
    option_and_then
    (λ seed. option_and_then
    (λ threads. option_and_then
    (λ size. option_map (λ cycles. task.Gen seed threads size cycles) (number_in 0 4294967295 (Some 1000000) (one_of (codes "steps") rows)))
    (number_in 1 1000 None (one_of (codes "size") rows)))
    (number_in 1 63 None (one_of (codes "threads") rows)))
    (number_in 0 4294967295 None (one_of (codes "seed") rows))

-- the command of this name with the values given to its options
abbrev pub task_in : Text → List Row → Option Task
task_in name rows =
    if bytes_eq name (codes "build") then build_in rows
    else (if bytes_eq name (codes "step") then step_in rows
    else (if bytes_eq name (codes "run") then run_in rows
    else (if bytes_eq name (codes "replay") then Some task.Replay
    else (if bytes_eq name (codes "walk") then walk_in rows
    else (if bytes_eq name (codes "check") then check_in rows
    else (if bytes_eq name (codes "sim") then sim_in rows
    else (if bytes_eq name (codes "gen") then gen_in rows
    else (if bytes_eq name (codes "report") then Some task.Report
    else None))))))))

-- a program that is made has 1 to 63 threads beside main, and at most 1,000 lines
abbrev pub IsInRange : Task → Type 0
IsInRange (task.Gen seed threads size cycles) = (1 ≤ threads) × (threads ≤ 63) × (size ≤ 1000)
IsInRange other = ⊤

-- x where clap finds no fault
abbrev pub unless_fails : Kinds → Option Task → Option Task
unless_fails [] x = x
unless_fails (kind ∷ kinds) x = None

-- what the words ask for, if they are of the grammar
abbrev pub task_of : List Text → Option Task
task_of words = unless_fails (fault_of command_line words)
    (option_and_then (λ p. task_in p.0 p.1) (subcommand_of command_line words))
