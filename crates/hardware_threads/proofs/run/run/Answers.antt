use Rattle.std.proofs.Common.{List, IfOk, subst}
use Rattle.netlist.specs.declared.netlist.Module.{Module}
use Rattle.cycle_sim.proofs.LockstepTurns.{net_refl}
use Rattle.hardware_threads.specs.Run.{IsRan}
use Rattle.hardware_threads.proofs.RunStart.{frame_of, opened_first}
use Rattle.hardware_threads.proofs.run.run.Goals as goal

pub run_as-requires-clause-frame : goal.run_as-requires-clause-frame
run_as-requires-clause-frame g c κs within =
    let r = c.requires in frame_of c.args.modules.now c.in_ok-first.first c.in_ok-first.ensures c.args.threads r.threaded r.any r.few r.threads

pub run_as-requires-clause-net : goal.run_as-requires-clause-net
run_as-requires-clause-net g c κs within = net_refl c.in_ok-first.first

pub run_as-requires-clause-begins : goal.run_as-requires-clause-begins
run_as-requires-clause-begins g c κs within = opened_first c.args.modules.now c.in_ok-first.first c.in_ok-first.ensures

pub returns : goal.returns
returns g c =
    subst (λ (ms : List Module). IfOk c.run_as.result (λ r. IsRan ms c.args.threads c.args.entries r.journal r.output r.verdict)) c.in_ok-first.ensures.net c.run_as.ensures
