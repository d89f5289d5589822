-- The netlist of a net that was read can be opened.
use Rattle.std.specs.Prelude.{◌≡◌}
use Rattle.std.proofs.Common.{ap, sym, subst}
use Rattle.verilog_tree.specs.declared.tree.Net.{Net}
use Rattle.netlist.specs.declared.netlist.Netlist.{Netlist}
use Rattle.netlist.specs.NetlistOf.{netlist_of}
use Rattle.cycle_sim.specs.Opened.{IsOpenable}
use Rattle.verilog_reader.specs.Faults.{IsSimulated}
use Rattle.sim_command.proofs.OpenedNet.{openable}

pub opens : (n : Net) (l : Netlist) → IsSimulated n → l ≡ netlist_of n → IsOpenable l.modules
opens n l is of = subst IsOpenable (sym (ap (λ (k : Netlist). k.modules) of)) (openable n is)
