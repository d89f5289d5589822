-- Worked examples of the command line: what it takes, and what it doesn't.
use Rattle.std.proofs.Common.{◌≡◌, ℕ, List, [], ◌∷◌, refl, codes}
use Rattle.std.specs.Prelude.{Some, None, true, false}
use Rattle.clap.proofs.OnLiterals.{clap_on_literals}
use Rattle.turns.specs.Turns.{turn}
use Rattle.hls_words.specs.declared.task.Task.TheVariants.{Build, Step, Run, Replay, Walk, Check, CheckRun, Sim, Gen, Report}
use Rattle.hls_words.specs.Line.{command_line, task_of}

builds : task_of (codes "hls" ∷ codes "build" ∷ []) ≡ Some (Build 1)
unfolding clap_on_literals command_line
builds = refl

ends_the_options : task_of (codes "hls" ∷ codes "build" ∷ codes "--" ∷ []) ≡ Some (Build 1)
unfolding clap_on_literals command_line
ends_the_options = refl

-- the first word is free
any_name : (name : List ℕ) → task_of (name ∷ codes "build" ∷ []) ≡ Some (Build 1)
unfolding clap_on_literals command_line
any_name name = refl

no_words : task_of ([]) ≡ None
unfolding clap_on_literals command_line
no_words = refl

no_command : task_of (codes "hls" ∷ []) ≡ None
unfolding clap_on_literals command_line
no_command = refl

unknown_command : task_of (codes "hls" ∷ codes "compile" ∷ []) ≡ None
unfolding clap_on_literals command_line
unknown_command = refl

other_case : task_of (codes "hls" ∷ codes "Build" ∷ []) ≡ None
unfolding clap_on_literals command_line
other_case = refl

word_too_many : task_of (codes "hls" ∷ codes "build" ∷ codes "first.c" ∷ []) ≡ None
unfolding clap_on_literals command_line
word_too_many = refl

command_twice : task_of (codes "hls" ∷ codes "build" ∷ codes "build" ∷ []) ≡ None
unfolding clap_on_literals command_line
command_twice = refl

behind_the_options : task_of (codes "hls" ∷ codes "--" ∷ codes "build" ∷ []) ≡ None
unfolding clap_on_literals command_line
behind_the_options = refl

long_help : task_of (codes "hls" ∷ codes "--help" ∷ []) ≡ None
unfolding clap_on_literals command_line
long_help = refl

short_help : task_of (codes "hls" ∷ codes "-h" ∷ []) ≡ None
unfolding clap_on_literals command_line
short_help = refl

help_command : task_of (codes "hls" ∷ codes "help" ∷ []) ≡ None
unfolding clap_on_literals command_line
help_command = refl

version : task_of (codes "hls" ∷ codes "--version" ∷ []) ≡ None
unfolding clap_on_literals command_line
version = refl

help_of_build : task_of (codes "hls" ∷ codes "build" ∷ codes "--help" ∷ []) ≡ None
unfolding clap_on_literals command_line
help_of_build = refl

-- ---- numbers of jobs

jobs : task_of (codes "hls" ∷ codes "build" ∷ codes "--jobs" ∷ codes "2" ∷ []) ≡ Some (Build 2)
unfolding clap_on_literals command_line
jobs = refl

jobs_in_one_word : task_of (codes "hls" ∷ codes "build" ∷ codes "--jobs=2" ∷ []) ≡ Some (Build 2)
unfolding clap_on_literals command_line
jobs_in_one_word = refl

most_jobs : task_of (codes "hls" ∷ codes "build" ∷ codes "--jobs" ∷ codes "16" ∷ []) ≡ Some (Build 16)
unfolding clap_on_literals command_line
most_jobs = refl

one_job_more : task_of (codes "hls" ∷ codes "build" ∷ codes "--jobs" ∷ codes "17" ∷ []) ≡ None
unfolding clap_on_literals command_line
one_job_more = refl

no_jobs : task_of (codes "hls" ∷ codes "build" ∷ codes "--jobs" ∷ codes "0" ∷ []) ≡ None
unfolding clap_on_literals command_line
no_jobs = refl

no_number_of_jobs : task_of (codes "hls" ∷ codes "build" ∷ codes "--jobs" ∷ codes "two" ∷ []) ≡ None
unfolding clap_on_literals command_line
no_number_of_jobs = refl

jobs_left_out : task_of (codes "hls" ∷ codes "build" ∷ codes "--jobs" ∷ []) ≡ None
unfolding clap_on_literals command_line
jobs_left_out = refl

jobs_twice : task_of (codes "hls" ∷ codes "build" ∷ codes "--jobs=2" ∷ codes "--jobs=2" ∷ []) ≡ None
unfolding clap_on_literals command_line
jobs_twice = refl

jobs_of_steps : task_of (codes "hls" ∷ codes "step" ∷ codes "--cycles" ∷ codes "9" ∷ codes "--jobs" ∷ codes "2" ∷ []) ≡ None
unfolding clap_on_literals command_line
jobs_of_steps = refl

jobs_of_a_walk : task_of (codes "hls" ∷ codes "walk" ∷ codes "--threads" ∷ codes "0" ∷ codes "--jobs" ∷ codes "2" ∷ []) ≡ None
unfolding clap_on_literals command_line
jobs_of_a_walk = refl

-- ---- numbers of cycles

steps : task_of (codes "hls" ∷ codes "step" ∷ codes "--cycles" ∷ codes "3136" ∷ []) ≡ Some (Step 3136 false)
unfolding clap_on_literals command_line
steps = refl

steps_none : task_of (codes "hls" ∷ codes "step" ∷ codes "--cycles=0" ∷ []) ≡ Some (Step 0 false)
unfolding clap_on_literals command_line
steps_none = refl

minus_zero : task_of (codes "hls" ∷ codes "step" ∷ codes "--cycles=-0" ∷ []) ≡ Some (Step 0 false)
unfolding clap_on_literals command_line
minus_zero = refl

plus : task_of (codes "hls" ∷ codes "step" ∷ codes "--cycles=+0010" ∷ []) ≡ Some (Step 10 false)
unfolding clap_on_literals command_line
plus = refl

most_steps : task_of (codes "hls" ∷ codes "step" ∷ codes "--cycles=4294967295" ∷ []) ≡ Some (Step 4294967295 false)
unfolding clap_on_literals command_line
most_steps = refl

one_step_more : task_of (codes "hls" ∷ codes "step" ∷ codes "--cycles=4294967296" ∷ []) ≡ None
unfolding clap_on_literals command_line
one_step_more = refl

no_cycles : task_of (codes "hls" ∷ codes "step" ∷ []) ≡ None
unfolding clap_on_literals command_line
no_cycles = refl

below_zero : task_of (codes "hls" ∷ codes "step" ∷ codes "--cycles" ∷ codes "-5" ∷ []) ≡ None
unfolding clap_on_literals command_line
below_zero = refl

cycles_twice : task_of (codes "hls" ∷ codes "step" ∷ codes "--cycles=1" ∷ codes "--cycles=1" ∷ []) ≡ None
unfolding clap_on_literals command_line
cycles_twice = refl

-- ---- entries of a run

runs : task_of (codes "hls" ∷ codes "run" ∷ []) ≡ Some (Run 100000 false)
unfolding clap_on_literals command_line
runs = refl

runs_listed : task_of (codes "hls" ∷ codes "run" ∷ codes "--journal" ∷ codes "--entries" ∷ codes "5" ∷ []) ≡ Some (Run 5 true)
unfolding clap_on_literals command_line
runs_listed = refl

most_entries : task_of (codes "hls" ∷ codes "run" ∷ codes "--entries=1000000" ∷ []) ≡ Some (Run 1000000 false)
unfolding clap_on_literals command_line
most_entries = refl

one_entry_more : task_of (codes "hls" ∷ codes "run" ∷ codes "--entries=1000001" ∷ []) ≡ None
unfolding clap_on_literals command_line
one_entry_more = refl

no_entries : task_of (codes "hls" ∷ codes "run" ∷ codes "--entries=0" ∷ []) ≡ None
unfolding clap_on_literals command_line
no_entries = refl

journal_twice : task_of (codes "hls" ∷ codes "run" ∷ codes "--journal" ∷ codes "--journal" ∷ []) ≡ None
unfolding clap_on_literals command_line
journal_twice = refl

replays : task_of (codes "hls" ∷ codes "replay" ∷ []) ≡ Some Replay
unfolding clap_on_literals command_line
replays = refl

replay_of_a_word : task_of (codes "hls" ∷ codes "replay" ∷ codes "journal" ∷ []) ≡ None
unfolding clap_on_literals command_line
replay_of_a_word = refl

-- turns of a walk
walks : task_of (codes "hls" ∷ codes "walk" ∷ codes "--threads" ∷ codes "0*11,1" ∷ []) ≡ Some (Walk (turn 0 11 ∷ turn 1 1 ∷ []))
unfolding clap_on_literals command_line
walks = refl

walks_without_turns : task_of (codes "hls" ∷ codes "walk" ∷ []) ≡ None
unfolding clap_on_literals command_line
walks_without_turns = refl

no_turn : task_of (codes "hls" ∷ codes "walk" ∷ codes "--threads=0*0" ∷ []) ≡ None
unfolding clap_on_literals command_line
no_turn = refl

dumped : task_of (codes "hls" ∷ codes "step" ∷ codes "--cycles" ∷ codes "100000" ∷ codes "--vcd" ∷ []) ≡ Some (Step 100000 true)
unfolding clap_on_literals command_line
dumped = refl

dumped_first : task_of (codes "hls" ∷ codes "step" ∷ codes "--vcd" ∷ codes "--cycles=9" ∷ []) ≡ Some (Step 9 true)
unfolding clap_on_literals command_line
dumped_first = refl

dumped_too_long : task_of (codes "hls" ∷ codes "step" ∷ codes "--cycles" ∷ codes "100001" ∷ codes "--vcd" ∷ []) ≡ None
unfolding clap_on_literals command_line
dumped_too_long = refl

dumped_with_value : task_of (codes "hls" ∷ codes "step" ∷ codes "--cycles=9" ∷ codes "--vcd=true" ∷ []) ≡ None
unfolding clap_on_literals command_line
dumped_with_value = refl

build_dumps_none : task_of (codes "hls" ∷ codes "build" ∷ codes "--vcd" ∷ []) ≡ None
unfolding clap_on_literals command_line
build_dumps_none = refl

-- ---- a lock discipline

checks : task_of (codes "hls" ∷ codes "check" ∷ []) ≡ Some Check
unfolding clap_on_literals command_line
checks = refl

checks_of_a_word : task_of (codes "hls" ∷ codes "check" ∷ codes "first.c" ∷ []) ≡ None
unfolding clap_on_literals command_line
checks_of_a_word = refl

checks_no_cycles : task_of (codes "hls" ∷ codes "check" ∷ codes "--cycles=9" ∷ []) ≡ None
unfolding clap_on_literals command_line
checks_no_cycles = refl

-- ---- a Verilog text

simulates : task_of (codes "hls" ∷ codes "sim" ∷ codes "--cycles" ∷ codes "11520" ∷ []) ≡ Some (Sim 11520)
unfolding clap_on_literals command_line
simulates = refl

most_simulated : task_of (codes "hls" ∷ codes "sim" ∷ codes "--cycles=4294967295" ∷ []) ≡ Some (Sim 4294967295)
unfolding clap_on_literals command_line
most_simulated = refl

one_simulated_more : task_of (codes "hls" ∷ codes "sim" ∷ codes "--cycles=4294967296" ∷ []) ≡ None
unfolding clap_on_literals command_line
one_simulated_more = refl

simulates_no_cycles : task_of (codes "hls" ∷ codes "sim" ∷ []) ≡ None
unfolding clap_on_literals command_line
simulates_no_cycles = refl

simulates_no_dump : task_of (codes "hls" ∷ codes "sim" ∷ codes "--cycles=9" ∷ codes "--vcd" ∷ []) ≡ None
unfolding clap_on_literals command_line
simulates_no_dump = refl

checks_a_run : task_of (codes "hls" ∷ codes "check" ∷ codes "--run" ∷ codes "1000" ∷ []) ≡ Some (CheckRun 1000)
unfolding clap_on_literals command_line
checks_a_run = refl

checks_the_longest_run : task_of (codes "hls" ∷ codes "check" ∷ codes "--run=10000000" ∷ []) ≡ Some (CheckRun 10000000)
unfolding clap_on_literals command_line
checks_the_longest_run = refl

checks_no_run : task_of (codes "hls" ∷ codes "check" ∷ codes "--run=0" ∷ []) ≡ None
unfolding clap_on_literals command_line
checks_no_run = refl

checks_no_longer_run : task_of (codes "hls" ∷ codes "check" ∷ codes "--run=10000001" ∷ []) ≡ None
unfolding clap_on_literals command_line
checks_no_longer_run = refl

-- ---- programs made from a number

makes : task_of (codes "hls" ∷ codes "gen" ∷ codes "--seed" ∷ codes "0" ∷ codes "--threads" ∷ codes "2" ∷ codes "--size" ∷ codes "1" ∷ []) ≡ Some (Gen 0 2 1 1000000)
unfolding clap_on_literals command_line
makes = refl

makes_the_largest : task_of (codes "hls" ∷ codes "gen" ∷ codes "--steps=9" ∷ codes "--size=1000" ∷ codes "--threads=63" ∷ codes "--seed=4294967295" ∷ []) ≡ Some (Gen 4294967295 63 1000 9)
unfolding clap_on_literals command_line
makes_the_largest = refl

makes_no_thread : task_of (codes "hls" ∷ codes "gen" ∷ codes "--seed=0" ∷ codes "--threads=0" ∷ codes "--size=1" ∷ []) ≡ None
unfolding clap_on_literals command_line
makes_no_thread = refl

makes_one_thread_more : task_of (codes "hls" ∷ codes "gen" ∷ codes "--seed=0" ∷ codes "--threads=64" ∷ codes "--size=1" ∷ []) ≡ None
unfolding clap_on_literals command_line
makes_one_thread_more = refl

makes_one_line_more : task_of (codes "hls" ∷ codes "gen" ∷ codes "--seed=0" ∷ codes "--threads=2" ∷ codes "--size=1001" ∷ []) ≡ None
unfolding clap_on_literals command_line
makes_one_line_more = refl

makes_no_line : task_of (codes "hls" ∷ codes "gen" ∷ codes "--seed=0" ∷ codes "--threads=2" ∷ codes "--size=0" ∷ []) ≡ None
unfolding clap_on_literals command_line
makes_no_line = refl

makes_of_no_seed : task_of (codes "hls" ∷ codes "gen" ∷ codes "--threads=2" ∷ codes "--size=1" ∷ []) ≡ None
unfolding clap_on_literals command_line
makes_of_no_seed = refl

-- ---- what a Verilog text is made of

reports : task_of (codes "hls" ∷ codes "report" ∷ []) ≡ Some Report
unfolding clap_on_literals command_line
reports = refl

reports_of_a_word : task_of (codes "hls" ∷ codes "report" ∷ codes "first.c" ∷ []) ≡ None
unfolding clap_on_literals command_line
reports_of_a_word = refl
