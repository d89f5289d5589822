use Rattle.operator_wires.proofs.OperatorWords.{complement_adds}
use Rattle.operator_wires.proofs.wires.Wires.complement.Goals as goal

pub returns-clause-wired : goal.returns-clause-wired
returns-clause-wired c =
    complement_adds c.args.self.now.signals c.not.new.self.signals c.args.own c.at_place.result c.in_ok-place.place c.in_ok-place.ensures.wired
    c.at_place.ensures.place c.at_place.ensures.width c.at_place.ensures.signed
