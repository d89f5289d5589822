use Rattle.std.proofs.Common.{◌∙◌, true, false}
use Rattle.net_netlist.specs.Laid.{kind_places}
use Rattle.net_netlist.proofs.Laws.{kind_is}
use Rattle.net_netlist.proofs.instances.instance.Goals as goal

pub returns : goal.returns
returns c =
    let all = c.args.kinds.now in
    let before = c.args.before in
    let signals = c.args.signals.now in
    let n = c.args.of.now in
    let list = c.as_slice.ensures in
    let kind = kind_is all before n.module_name c.get-kind.result c.get-kind.ensures in
    (λ i. record {
      name = c.in_ok-name.ensures.cases i;
      of = c.place.ensures.place i;
      inputs = (c.in_ok-inputs.ensures.inputs ∙ (λ j. kind_places signals (list j) true (kind j))) i;
      outputs = (c.in_ok-inputs.ensures.outputs ∙ (λ j. kind_places signals (list j) false (kind j))) i;
    })
