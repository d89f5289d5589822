use Rattle.operator_wires.proofs.OperatorWords.{negated_adds}
use Rattle.operator_wires.proofs.wires.Wires.negated.Goals as goal

pub returns-clause-wired : goal.returns-clause-wired
returns-clause-wired c =
    negated_adds c.args.self.now.signals c.constant.new.self.signals c.binary.new.self.signals c.args.own c.at_place.result c.in_ok-zero.zero c.in_ok-place.place c.in_ok-zero.ensures.wired
    c.in_ok-place.ensures.wired c.at_place.ensures.place c.at_place.ensures.width c.at_place.ensures.signed
