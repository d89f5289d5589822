use Rattle.std.proofs.Common.{ℕ, ◌<◌, ◌≤◌, List, ap, rules, sym, ◌∙◌, subst}
use Rattle.c_program.specs.Plain.{program_of}
use Rattle.c_program.specs.Weight.{thread_count}
use Rattle.netlist.specs.declared.netlist.Module.{Module}
use Rattle.cycle_sim.specs.Opened.{IsOpenable}
use Rattle.sim_layout.specs.Rounds.{threads_of}
use Rattle.slot_sim.specs.Slots.{IsThreadedIn}
use Rattle.run_command.specs.Runs.{IsRunAnswer}
use Rattle.hls_commands.proofs.RunLemmas.{openable, threads_are, any_thread, few_threads, is_threaded}
use Rattle.hls_commands.proofs.runs.run_workers.Goals as goal

pub threads_of-threads-requires : goal.threads_of-threads-requires
threads_of-threads-requires g c = (c.in_ok-built.ensures.ok.0, c.in_ok-built.ensures.ok.2)

pub run_net-requires-clause-openable : goal.run_net-requires-clause-openable
run_net-requires-clause-openable g c κs within =
    let b = c.in_ok-built.built in
    subst IsOpenable (sym c.as_slice-modules.ensures) (openable c.in_ok-built.ensures.ok.0 (program_of b.program) b.weight b.net b.text c.in_ok-built.ensures.ok.2)

pub run_net-requires-clause-any : goal.run_net-requires-clause-any
run_net-requires-clause-any g c κs within =
    let b = c.in_ok-built.built in
    subst (λ (n : ℕ). 0 < n) (sym c.threads_of-threads.ensures) (any_thread c.in_ok-built.ensures.ok.0 (program_of b.program) b.weight b.net b.text c.in_ok-built.ensures.ok.2)

pub run_net-requires-clause-few : goal.run_net-requires-clause-few
run_net-requires-clause-few g c κs within =
    let b = c.in_ok-built.built in
    subst (λ (n : ℕ). n ≤ 64) (sym c.threads_of-threads.ensures) (few_threads c.in_ok-built.ensures.ok.0 (program_of b.program) b.weight b.net b.text c.in_ok-built.ensures.ok.2)

pub run_net-requires-clause-threads : goal.run_net-requires-clause-threads
run_net-requires-clause-threads g c κs within =
    let b = c.in_ok-built.built in
    c.threads_of-threads.ensures ∙ sym (threads_are c.in_ok-built.ensures.ok.0 (program_of b.program) b.weight b.net b.text c.in_ok-built.ensures.ok.2)
    ∙ ap threads_of (sym c.as_slice-modules.ensures)

pub run_net-requires-clause-threaded : goal.run_net-requires-clause-threaded
run_net-requires-clause-threaded g c κs within =
    let b = c.in_ok-built.built in
    subst (λ (ms : List Module). IsThreadedIn ms c.threads_of-threads.result) (sym c.as_slice-modules.ensures)
    (subst (λ (n : ℕ). IsThreadedIn b.net.modules n) (sym c.threads_of-threads.ensures)
    (is_threaded c.in_ok-built.ensures.ok.0 (program_of b.program) b.weight b.net b.text c.in_ok-built.ensures.ok.2))

pub returns-clause-ok : goal.returns-clause-ok
returns-clause-ok g c =
    let b = c.in_ok-built.built in
    let answer : IsRunAnswer b.net.modules (thread_count (program_of b.program)) c.args.entries c.args.journal c.in_ok-ran.ran =
    subst (λ (n : ℕ). IsRunAnswer b.net.modules n c.args.entries c.args.journal c.in_ok-ran.ran) c.threads_of-threads.ensures
    (subst (λ (ms : List Module). IsRunAnswer ms c.threads_of-threads.result c.args.entries c.args.journal c.in_ok-ran.ran) c.as_slice-modules.ensures c.in_ok-ran.ensures) in (
      c.in_ok-ran.ran.verdict,
      record {
        text = c.in_ok-built.ensures.ok.0;
        program = program_of b.program;
        weight = b.weight;
        net = b.net;
        gave = c.in_ok-built.ensures.ok.1;
        compiled = c.in_ok-built.ensures.ok.2;
        ran = answer.ran;
        err = answer.lines;
      },
      search rules,
    )
