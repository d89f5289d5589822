-- `step`, `run`, `replay` and `gen` show an interleaving of a good program.
use Rattle.std.proofs.Common.{◌≡◌, sym, subst}
use Rattle.std.specs.Prelude.{Some}
use Rattle.c_program.specs.Weight.{thread_count}
use Rattle.netlist.specs.declared.netlist.Netlist.{Netlist}
use Rattle.verilog_meaning.specs.Names.{top_of}
use Rattle.verilog_meaning.specs.Threads.{IsThreaded}
use Rattle.cycle_sim.specs.Round.{IsRound}
use Rattle.run_command.specs.Run.{IsRan}
use Rattle.run_command.specs.Replays.{AreRun}
use Rattle.journal_follows.proofs.Verdicts.{runs_follow, replays_follow}
use Rattle.commands_follow.specs.Shown.{StepsShow, RunsShow, ReplaysShow, GeneratedShow}
use Rattle.commands_follow.proofs.StepShown.{step_shown}

pub steps_show : StepsShow
steps_show most left d cycles done r good =
    let c = r.compiled in
    step_shown r.program d.text c.net.net good c.good c.net.reads most cycles done d.out
    (subst (λ (n : Netlist). IsRound n.modules (thread_count r.program) most cycles done d.out) (sym c.net.is) r.ran)

pub runs_show : RunsShow
runs_show most listed left d v r good =
    let c = r.compiled in
    runs_follow r.program d.text c.net.net c.threaded.top good c.good c.net.reads
    (subst (λ (n : Netlist). top_of n.modules ≡ Some c.threaded.top) (sym c.net.is) c.threaded.is_top)
    (subst (λ (n : Netlist). IsThreaded n.modules c.threaded.top (thread_count r.program)) (sym c.net.is) c.threaded.threaded) most d.journal d.out v
    (subst (λ (n : Netlist). IsRan n.modules (thread_count r.program) most d.journal d.out v) (sym c.net.is) r.ran)

pub replays_show : ReplaysShow
replays_show left d v r good =
    let c = r.compiled in
    replays_follow r.program d.text c.net.net c.threaded.top good c.good c.net.reads
    (subst (λ (n : Netlist). top_of n.modules ≡ Some c.threaded.top) (sym c.net.is) c.threaded.is_top)
    (subst (λ (n : Netlist). IsThreaded n.modules c.threaded.top (thread_count r.program)) (sym c.net.is) c.threaded.threaded) d.journal d.out v
    (subst (λ (n : Netlist). AreRun n.modules (thread_count r.program) d.journal d.out v) (sym c.net.is) r.run)

pub generated_show : GeneratedShow
generated_show seed threads size most d cycles done r =
    let c = r.compiled in
    step_shown r.program d.text c.net.net r.good c.good c.net.reads most cycles done d.out
    (subst (λ (n : Netlist). IsRound n.modules (thread_count r.program) most cycles done d.out) (sym c.net.is) r.ran)
