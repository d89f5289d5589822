use Rattle.std.proofs.Common.{◌∙◌, ap}
use Rattle.std.specs.List.{flat_map}
use Rattle.netlist.specs.NetlistOf.{module_of, item_actions}
use Rattle.net_netlist.specs.Laid.{item_instance}
use Rattle.net_netlist.proofs.Laws.{signals_are, memories_are, actions_are, instances_are}
use Rattle.net_netlist.proofs.net.with_tables.Goals as goal

pub returns : goal.returns
unfolding module_of
returns c =
    let all = c.args.kinds.now in
    let before = c.args.before in
    let m = c.args.of.now in
    let t = c.args.tables.now in
    let are = c.requires.tables in
    let declared = c.in_ok-declared.ensures in
    let items = c.as_slice-items.ensures in
    (λ i. record {
      name = c.in_ok-name.ensures.cases i;
      signals = (declared.signals ∙ signals_are all before m t are) i;
      memories = (declared.memories ∙ memories_are all before m t are) i;
      actions = (c.in_ok-actions.ensures ∙ ap (flat_map (item_actions t.names.signals t.names.memories)) items ∙ actions_are all before m t are) i;
      instances = (c.in_ok-instances.ensures ∙ ap (flat_map (item_instance all before t.names.signals)) items ∙ instances_are all before m t are) i;
    })
