use Rattle.operator_wires.proofs.BuiltWires.{binary_answer}
use Rattle.operator_wires.proofs.wires.Wires.binary.Goals as goal

pub returns-clause-wired : goal.returns-clause-wired
returns-clause-wired c = binary_answer c.wire.result c.args.self.now.signals c.wire.new.self.signals c.args.bits c.args.left c.args.right c.args.operator c.wire.ensures.wired
