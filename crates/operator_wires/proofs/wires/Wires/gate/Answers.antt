use Rattle.operator_wires.proofs.OperatorWords.{gate_adds}
use Rattle.operator_wires.proofs.wires.Wires.gate.Goals as goal

pub returns-clause-wired : goal.returns-clause-wired
returns-clause-wired c =
    gate_adds c.args.self.now.signals c.binary.new.self.signals c.args.operator c.args.left c.args.right c.at_place.result c.in_ok-place.place c.in_ok-place.ensures.wired
    c.at_place.ensures.place c.at_place.ensures.width c.at_place.ensures.signed
