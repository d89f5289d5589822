use Rattle.std.proofs.Common.{◌∙◌, ap, []}
use Rattle.netlist.specs.NetlistOf.{modules_of, netlist_of}
use Rattle.net_netlist.proofs.net.netlist.Goals as goal

pub returns : goal.returns
unfolding netlist_of
returns c =
    let e = c.in_ok-modules.ensures ∙ ap (modules_of []) c.as_slice-all.ensures in
    (λ i. record { modules = e i })
