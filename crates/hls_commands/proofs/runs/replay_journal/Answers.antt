use Rattle.std.proofs.Common.{ℕ, ◌≤◌, List, ap, sym, ◌∙◌, subst}
use Rattle.c_program.specs.Plain.{program_of}
use Rattle.c_program.specs.Weight.{thread_count}
use Rattle.netlist.specs.declared.netlist.Module.{Module}
use Rattle.cycle_sim.specs.Opened.{IsOpenable}
use Rattle.sim_layout.specs.Rounds.{threads_of}
use Rattle.slot_sim.specs.Slots.{IsThreadedIn}
use Rattle.run_command.specs.Replays.{IsReplayAnswer}
use Rattle.hls_commands.specs.Inside.{due_of}
use Rattle.hls_commands.proofs.RunLemmas.{openable, threads_are, few_threads, is_threaded, replay_answers}
use Rattle.hls_commands.proofs.runs.replay_journal.Goals as goal

pub threads_of-threads-requires : goal.threads_of-threads-requires
threads_of-threads-requires g c = (c.in_ok-journal.ensures.ok.0, c.in_ok-journal.ensures.ok.2)

pub replay_net-requires-clause-openable : goal.replay_net-requires-clause-openable
replay_net-requires-clause-openable g c =
    let b = c.in_ok-journal.field-0.built in
    subst IsOpenable (sym c.as_slice-modules.ensures) (openable c.in_ok-journal.ensures.ok.0 (program_of b.program) b.weight b.net b.text c.in_ok-journal.ensures.ok.2)

pub replay_net-requires-clause-few : goal.replay_net-requires-clause-few
replay_net-requires-clause-few g c =
    let b = c.in_ok-journal.field-0.built in
    subst (λ (n : ℕ). n ≤ 64) (sym c.threads_of-threads.ensures)
    (few_threads c.in_ok-journal.ensures.ok.0 (program_of b.program) b.weight b.net b.text c.in_ok-journal.ensures.ok.2)

pub replay_net-requires-clause-threads : goal.replay_net-requires-clause-threads
replay_net-requires-clause-threads g c =
    let b = c.in_ok-journal.field-0.built in
    c.threads_of-threads.ensures ∙ sym (threads_are c.in_ok-journal.ensures.ok.0 (program_of b.program) b.weight b.net b.text c.in_ok-journal.ensures.ok.2)
    ∙ ap threads_of (sym c.as_slice-modules.ensures)

pub replay_net-requires-clause-threaded : goal.replay_net-requires-clause-threaded
replay_net-requires-clause-threaded g c =
    let b = c.in_ok-journal.field-0.built in
    subst (λ (ms : List Module). IsThreadedIn ms c.threads_of-threads.result) (sym c.as_slice-modules.ensures)
    (subst (λ (n : ℕ). IsThreadedIn b.net.modules n) (sym c.threads_of-threads.ensures)
    (is_threaded c.in_ok-journal.ensures.ok.0 (program_of b.program) b.weight b.net b.text c.in_ok-journal.ensures.ok.2))

pub returns-clause-ok : goal.returns-clause-ok
returns-clause-ok g c =
    let journal = c.in_ok-journal.field-0.journal in
    let built = c.in_ok-journal.field-0.built in
    let told = c.in_ok-journal.ensures.ok in
    let answer : IsReplayAnswer built.net.modules (thread_count (program_of built.program)) journal.entries journal.bad c.in_ok-replay.replay =
    subst (λ (n : ℕ). IsReplayAnswer built.net.modules n journal.entries journal.bad c.in_ok-replay.replay) c.threads_of-threads.ensures
    (subst (λ (ms : List Module). IsReplayAnswer ms c.threads_of-threads.result journal.entries journal.bad c.in_ok-replay.replay) c.as_slice-modules.ensures c.in_ok-replay.ensures) in
    replay_answers (g.S.Source.left c.args.source.now) journal.entries journal.bad told.0 (program_of built.program) built.weight built.net built.text told.1 told.2
    (due_of c.replay_answer.result) c.replay_answer.result.status c.in_ok-replay.replay answer c.replay_answer.ensures
