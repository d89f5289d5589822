use Rattle.std.proofs.Common.{ap, sym, ◌∙◌, subst}
use Rattle.netlist.specs.declared.netlist.Netlist.{Netlist}
use Rattle.cycle_sim.specs.Opened.{IsOpenable}
use Rattle.sim_command.proofs.OpenedNet.{openable}
use Rattle.sim_command.proofs.TextRun.{runs}
use Rattle.sim_command.proofs.sim.sim.Goals as goal

pub run_net-requires : goal.run_net-requires
run_net-requires c =
    let of = c.in_ok-net.ensures.ok in
    subst IsOpenable (sym (c.as_slice.ensures ∙ ap (λ (l : Netlist). l.modules) of.2)) (openable of.0 (of.1).simulated)

pub returns-clause-ok : goal.returns-clause-ok
returns-clause-ok c = runs c.args.text.now c.in_ok-net.net c.as_slice.result.now c.args.cycles c.in_ok-net.ensures.ok c.as_slice.ensures c.run_net.result c.run_net.ensures.ok
