use Rattle.std.proofs.Common.{Bool, subst, sym}
use Rattle.c_program.specs.Plain.{program_of}
use Rattle.c_program.specs.Weight.{thread_count}
use Rattle.cycle_sim.specs.Opened.{IsOpenable, IsCause}
use Rattle.cycle_sim.specs.Round.{IsRound}
use Rattle.sim_layout.specs.Rounds.{threads_of}
use Rattle.vcd_trace.specs.Trace.{IsTraced}
use Rattle.hls_commands.specs.Answers.{RunsAs}
use Rattle.hls_commands.proofs.RunLemmas.{openable, threads_are, no_cause}
use Rattle.hls_commands.proofs.commands.ran_as.Goals as goal

pub trace-requires : goal.trace-requires
trace-requires c =
    let b = c.args.built.now in subst IsOpenable (sym c.as_slice-modules.ensures) (openable c.requires.0 (program_of b.program) b.weight b.net b.text c.requires.1)

pub run-requires : goal.run-requires
run-requires c =
    let b = c.args.built.now in subst IsOpenable (sym c.as_slice-modules.ensures) (openable c.requires.0 (program_of b.program) b.weight b.net b.text c.requires.1)

pub memory_alone-requires : goal.memory_alone-requires
memory_alone-requires c =
    let b = c.args.built.now in
    no_cause c.requires.0 (program_of b.program) b.weight b.net b.text c.requires.1 c.in-Err.error
    (subst (λ m. IsCause m c.in-Err.error) c.as_slice-modules.ensures c.in-Err.ensures.cause)

pub memory_alone-requires-in-Err-run : goal.memory_alone-requires-in-Err-run
memory_alone-requires-in-Err-run c =
    let b = c.args.built.now in
    no_cause c.requires.0 (program_of b.program) b.weight b.net b.text c.requires.1 c.in-Err-run.error
    (subst (λ m. IsCause m c.in-Err-run.error) c.as_slice-modules.ensures c.in-Err-run.ensures.cause)

pub returns-in-Ok : goal.returns-in-Ok
returns-in-Ok c =
    let b = c.args.built.now in
    let r = c.in-Ok.traced in
    let there = subst (λ m. IsTraced m (threads_of m) c.args.cycles r.cycles r.is_done r.text) c.as_slice-modules.ensures c.in-Ok.ensures.ok in
    subst (λ (v : Bool). RunsAs v b.net.modules (thread_count (program_of b.program)) c.args.cycles r.cycles r.is_done r.text) (sym c.if-vcd.true)
    (subst (λ t. IsTraced b.net.modules t c.args.cycles r.cycles r.is_done r.text)
    (threads_are c.requires.0 (program_of b.program) b.weight b.net b.text c.requires.1) there)

pub returns-in-Ok-run : goal.returns-in-Ok-run
returns-in-Ok-run c =
    let b = c.args.built.now in
    let r = c.in-Ok-run.ran in
    let there = subst (λ m. IsRound m (threads_of m) c.args.cycles r.cycles r.is_done r.printed) c.as_slice-modules.ensures c.in-Ok-run.ensures.ok in
    subst (λ (v : Bool). RunsAs v b.net.modules (thread_count (program_of b.program)) c.args.cycles r.cycles r.is_done r.printed) (sym c.if-vcd.false)
    (subst (λ t. IsRound b.net.modules t c.args.cycles r.cycles r.is_done r.printed)
    (threads_are c.requires.0 (program_of b.program) b.weight b.net b.text c.requires.1) there)
