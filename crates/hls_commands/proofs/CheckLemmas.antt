-- What a check owes.
use Rattle.std.proofs.Common.{ℕ, List, Option, Some, refl, sym, subst}
use Rattle.hls_words.specs.declared.task.Task.TheVariants.{Check, CheckRun}
use Rattle.check_command.specs.declared.check.Told.{Told}
use Rattle.check_command.specs.declared.check.Told.TheVariants as told
use Rattle.check_command.specs.Told.{IsToldOf}
use Rattle.check_command.specs.declared.run.RunTold.{RunTold}
use Rattle.check_command.specs.declared.run.RunTold.TheVariants as run
use Rattle.check_command.specs.RunTold.{IsRunToldOf}
use Rattle.hls_status.specs.declared.status.Status.{Status}
use Rattle.hls_status.specs.declared.status.Status.TheVariants as status
use Rattle.hls_commands.specs.Answers.{Due, Gave, OwesAt}
use Rattle.hls_commands.specs.Inside.{CheckOwes, RunOwes, TellsIt, TellsRun}

-- what is told of the text that the source gave
pub told_owes : (left : Option (List ℕ)) (text : List ℕ) → Gave left text → (t : Told) → IsToldOf text t → (d : Due) (s : Status) → TellsIt t d s → CheckOwes left d s
told_owes left text gave (told.Disciplined globals) is d s tells =
    subst (CheckOwes left d) (sym tells.0) (record {
      text = text;
      program = is.0;
      weight = is.1;
      gave = gave;
      accepted = is.2;
      globals = globals;
      disciplined = is.3;
      plain = tells.1;
    })
told_owes left text gave (told.Doubt offset name) is d s tells =
    subst (CheckOwes left d) (sym tells.0) (
      record {
        text = text;
        program = is.0;
        weight = is.1;
        gave = gave;
        accepted = is.2;
        doubt = is.3;
      },
      tells.1,
    )

-- what is owed for the task
pub check_owes : (left : Option (List ℕ)) (rose : Type 0) (d : Due) (s : Status) → CheckOwes left d s → OwesAt (Some Check) left rose d s
check_owes left rose d status.Ok is = is
check_owes left rose d (status.Refused r) is = absurd is
check_owes left rose d status.Usage is = absurd is
check_owes left rose d status.ReadFault is = absurd is
check_owes left rose d (status.WriteFault out err) is = is
check_owes left rose d status.Memory is = absurd is
check_owes left rose d status.Entries is = is
check_owes left rose d status.Stuck is = is
check_owes left rose d (status.BadEntry index) is = is
check_owes left rose d (status.Walked end) is = is
check_owes left rose d (status.Cycles cycles) is = is
check_owes left rose d (status.NotNet offset) is = absurd is
check_owes left rose d (status.Loop signal) is = absurd is
check_owes left rose d (status.Doubt offset name) is = is
check_owes left rose d (status.Race first second name) is = is
check_owes left rose d (status.UndefinedStep offset cause) is = is
check_owes left rose d (status.Unknown steps cause) is = is

-- ---- one run

-- what a run shows of the text that the source gave
pub shown_owes : (left : Option (List ℕ)) (text : List ℕ) → Gave left text → (t : RunTold) → IsRunToldOf text t → (d : Due) (s : Status) → TellsRun t d s → RunOwes left d s
shown_owes left text gave (run.Good steps one_output) is d s tells =
    subst (RunOwes left d) (sym tells.0) (record {
      text = text;
      program = is.0;
      weight = is.1;
      gave = gave;
      accepted = is.2;
      steps = steps;
      one_output = one_output;
      good = is.3;
      plain = tells.1;
    })
shown_owes left text gave (run.Race turns first second name) is d s tells =
    subst (RunOwes left d) (sym tells.0) (record {
      text = text;
      program = is.0;
      weight = is.1;
      gave = gave;
      accepted = is.2;
      turns = turns.items;
      racing = is.3;
      listed = tells.1;
    })
shown_owes left text gave (run.Undefined turns offset cause) is d s tells =
    subst (RunOwes left d) (sym tells.0) (record {
      text = text;
      program = is.0;
      weight = is.1;
      gave = gave;
      accepted = is.2;
      turns = turns.items;
      undefined = is.3;
      listed = tells.1;
    })
shown_owes left text gave (run.Unknown steps reason) is d s tells =
    subst (RunOwes left d) (sym tells.0) (record {
      text = text;
      program = is.0;
      weight = is.1;
      gave = gave;
      accepted = is.2;
      reason = reason;
      named = refl;
      shown = is.3;
      plain = tells.1;
    })

-- what is owed for the task
pub check_run_owes : (most : ℕ) (left : Option (List ℕ)) (rose : Type 0) (d : Due) (s : Status) → RunOwes left d s → OwesAt (Some (CheckRun most)) left rose d s
check_run_owes most left rose d status.Ok is = is
check_run_owes most left rose d (status.Refused r) is = absurd is
check_run_owes most left rose d status.Usage is = absurd is
check_run_owes most left rose d status.ReadFault is = absurd is
check_run_owes most left rose d (status.WriteFault out err) is = is
check_run_owes most left rose d status.Memory is = absurd is
check_run_owes most left rose d status.Entries is = is
check_run_owes most left rose d status.Stuck is = is
check_run_owes most left rose d (status.BadEntry index) is = is
check_run_owes most left rose d (status.Walked end) is = is
check_run_owes most left rose d (status.Cycles cycles) is = is
check_run_owes most left rose d (status.NotNet offset) is = absurd is
check_run_owes most left rose d (status.Loop signal) is = absurd is
check_run_owes most left rose d (status.Doubt offset name) is = absurd is
check_run_owes most left rose d (status.Race first second name) is = is
check_run_owes most left rose d (status.UndefinedStep offset cause) is = is
check_run_owes most left rose d (status.Unknown steps cause) is = is
