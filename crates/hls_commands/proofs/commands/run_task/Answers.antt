use Rattle.std.proofs.Common.{◌≡◌, List, Result, Ok, IfOk, Some, subst, sym, ◌∙◌}
use Rattle.turns.specs.declared.Turn.{Turn}
use Rattle.hls_words.specs.declared.task.Task.{Task}
use Rattle.hls_words.specs.declared.task.Task.TheVariants.{Build, Report}
use Rattle.hls_words.specs.Line.{IsInRange}
use Rattle.hls_io.specs.Causes.{Rose}
use Rattle.journal_laws.specs.declared.verdict.Verdict.{Verdict}
use Rattle.hls_status.specs.declared.status.Status.{Status}
use Rattle.hls_status.specs.declared.status.Status.TheVariants as status
use Rattle.hls_commands.specs.declared.answer.Answer.{Answer}
use Rattle.hls_commands.specs.declared.commands.Stop.{Stop}
use Rattle.hls_commands.specs.Answers.{IsBuilt, IsGenerated, IsReported, IsRunBy, IsStepped, IsWalked, OwesAt, verdict_status}
use Rattle.hls_commands.specs.Inside.{CheckOwes, IsReplayOrBad, RunOwes, SimOwes, due_of}
use Rattle.hls_commands.proofs.RunLemmas.{stepped_owes, run_owes, replay_owes, walked_owes}
use Rattle.hls_commands.proofs.SimLemmas.{sim_owes}
use Rattle.hls_commands.proofs.CheckLemmas.{check_owes, check_run_owes}
use Rattle.hls_commands.proofs.GeneratedLemmas.{generated_owes}
use Rattle.hls_commands.proofs.commands.run_task.Goals as goal
use Rattle.hls_commands.proofs.commands.run_task.Goals.{in-Build, in-Step, in-Run, in-Replay, in-Walk, in-Check, in-CheckRun, in-Sim, in-Gen, in-Report}

-- what a command that answers has come to
at_ok : (Is : Answer → Type 0) (r : Result Answer Stop) (a : Answer) → r ≡ Ok a → IfOk r Is → Is a
at_ok Is r a e h = subst (λ (x : Result Answer Stop). IfOk x Is) e h

pub returns-in-Ok-clause-owes : goal.returns-in-Ok-clause-owes
returns-in-Ok-clause-owes g c =
    let left = g.S.Source.left c.args.source.now in
    let rose = Rose (g.S.Source.faults c.args.source.now) (g.S.Source.faults c.match-task.source) in
    let a = c.in-Ok.answer in
    let owed = λ (t : Task) (e : c.args.task ≡ t) (h : OwesAt (Some t) left rose (due_of a) a.status).
    subst (λ (x : Task). OwesAt (Some x) left rose (due_of a) a.status) (sym e) h in
    elim c.match-task.branch [
      | in-Build w ↦ let is = at_ok (λ (x : Answer). (x.status ≡ status.Ok) × IsBuilt left (due_of x)) w.build-done.result a (sym w.done-is ∙ c.in-Ok.is) w.build-done.ensures.ok in
          owed (Build w.in-Build.jobs) w.in-Build.is (subst (λ (s : Status). OwesAt (Some (Build w.in-Build.jobs)) left rose (due_of a) s) (sym is.0) is.1)
      | in-Step w ↦ owed _ w.in-Step.is (stepped_owes w.in-Step.cycles w.in-Step.vcd left rose (due_of a) a.status
          (at_ok (λ (x : Answer). IsStepped w.in-Step.cycles w.in-Step.vcd left (due_of x) x.status) w.step-done.result a (sym w.done-is ∙ c.in-Ok.is) w.step-done.ensures.ok))
      | in-Run w ↦ owed _ w.in-Run.is (run_owes w.in-Run.entries w.in-Run.journal left rose (due_of a) a.status
          (at_ok (λ (x : Answer). (v : Verdict) × IsRunBy w.in-Run.entries w.in-Run.journal left (due_of x) v × (x.status ≡ verdict_status v)) w.run_workers-done.result a
          (sym w.done-is ∙ c.in-Ok.is) w.run_workers-done.ensures.ok))
      | in-Replay w ↦ owed _ w.in-Replay.is (replay_owes left rose (due_of a) a.status
          (at_ok (λ (x : Answer). IsReplayOrBad left (due_of x) x.status) w.replay_journal-done.result a (sym w.done-is ∙ c.in-Ok.is) w.replay_journal-done.ensures.ok))
      | in-Walk w ↦ owed _ w.in-Walk.is (walked_owes w.in-Walk.turns left rose (due_of a) a.status
          (subst (λ (ts : List Turn). IsWalked ts left (due_of a) a.status) w.as_slice.ensures
          (at_ok (λ (x : Answer). IsWalked w.as_slice.result.now left (due_of x) x.status) w.walk_turns-done.result a (sym w.done-is ∙ c.in-Ok.is) w.walk_turns-done.ensures.ok)))
      | in-Check w ↦ owed _ w.in-Check.is (check_owes left rose (due_of a) a.status
          (at_ok (λ (x : Answer). CheckOwes left (due_of x) x.status) w.check-done.result a (sym w.done-is ∙ c.in-Ok.is) w.check-done.ensures.ok))
      | in-CheckRun w ↦ owed _ w.in-CheckRun.is (check_run_owes w.in-CheckRun.steps left rose (due_of a) a.status
          (at_ok (λ (x : Answer). RunOwes left (due_of x) x.status) w.check_run-done.result a (sym w.done-is ∙ c.in-Ok.is) w.check_run-done.ensures.ok))
      | in-Sim w ↦ owed _ w.in-Sim.is (sim_owes w.in-Sim.cycles left rose (due_of a) a.status
          (at_ok (λ (x : Answer). SimOwes w.in-Sim.cycles left (due_of x) x.status) w.simulate-done.result a (sym w.done-is ∙ c.in-Ok.is) w.simulate-done.ensures.ok))
      | in-Gen w ↦ owed _ w.in-Gen.is (generated_owes w.in-Gen.seed w.in-Gen.threads w.in-Gen.size w.in-Gen.cycles left rose (due_of a) a.status
          (at_ok (λ (x : Answer). IsGenerated w.in-Gen.seed w.in-Gen.threads w.in-Gen.size w.in-Gen.cycles (due_of x) x.status) w.generate-done.result a
          (sym w.done-is ∙ c.in-Ok.is) w.generate-done.ensures.ok))
      | in-Report w ↦ let is = at_ok (λ (x : Answer). (x.status ≡ status.Ok) × IsReported left (due_of x)) w.report_hardware-done.result a (sym w.done-is ∙ c.in-Ok.is)
          w.report_hardware-done.ensures.ok in
          owed Report w.in-Report.is (subst (λ (s : Status). OwesAt (Some Report) left rose (due_of a) s) (sym is.0) is.1)
    ]

pub generate-done-requires-clause-some : goal.generate-done-requires-clause-some
generate-done-requires-clause-some g c κs within = (subst IsInRange c.in-Gen.is c.requires).0

pub generate-done-requires-clause-most : goal.generate-done-requires-clause-most
generate-done-requires-clause-most g c κs within = (subst IsInRange c.in-Gen.is c.requires).1

pub generate-done-requires-clause-few : goal.generate-done-requires-clause-few
generate-done-requires-clause-few g c κs within = (subst IsInRange c.in-Gen.is c.requires).2
