use Rattle.operator_wires.proofs.OperatorWords.{shifted_adds, sign_shifted_adds}
use Rattle.operator_wires.proofs.wires.Wires.shifted_right.Goals as goal

pub returns-in_ok-place-clause-wired : goal.returns-in_ok-place-clause-wired
returns-in_ok-place-clause-wired c =
    sign_shifted_adds c.args.self.now.signals c.wire.new.self.signals c.args.left c.args.right c.at_place.result c.in_ok-place.place c.in_ok-place.ensures.wired
    c.at_place.ensures.place c.at_place.ensures.width c.at_place.ensures.signed

pub returns-else-left-clause-wired : goal.returns-else-left-clause-wired
returns-else-left-clause-wired c =
    shifted_adds c.gate.result c.args.self.now.signals c.gate.new.self.signals c.args.left c.args.right c.gate.ensures.wired
