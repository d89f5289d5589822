use Rattle.operator_wires.proofs.OperatorWords.{division_adds, signed_division_adds}
use Rattle.operator_wires.proofs.wires.Wires.division.Goals as goal

pub returns-then-left-clause-wired : goal.returns-then-left-clause-wired
returns-then-left-clause-wired c = signed_division_adds c.wire.result c.args.self.now.signals c.wire.new.self.signals c.args.operator c.args.left c.args.right c.wire.ensures.wired

pub returns-else-left-clause-wired : goal.returns-else-left-clause-wired
returns-else-left-clause-wired c =
    division_adds c.wire-else-left.result c.args.self.now.signals c.wire-else-left.new.self.signals c.args.operator c.args.left c.args.right c.wire-else-left.ensures.wired
