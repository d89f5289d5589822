use Rattle.operator_wires.proofs.OperatorWords.{signed_less_adds, less_adds}
use Rattle.operator_wires.proofs.wires.Wires.less.Goals as goal

pub returns-then-left-clause-wired : goal.returns-then-left-clause-wired
returns-then-left-clause-wired c =
    signed_less_adds c.wire.result c.args.self.now.signals c.wire.new.self.signals c.args.left c.args.right c.wire.ensures.wired

pub returns-else-left-clause-wired : goal.returns-else-left-clause-wired
returns-else-left-clause-wired c =
    less_adds c.binary.result c.args.self.now.signals c.binary.new.self.signals c.args.left c.args.right c.binary.ensures.wired
