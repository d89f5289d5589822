use Rattle.operator_wires.proofs.BuiltWires.{constant_answer}
use Rattle.operator_wires.proofs.wires.Wires.constant.Goals as goal

pub returns-clause-wired : goal.returns-clause-wired
returns-clause-wired c = constant_answer c.wire.result c.args.self.now.signals c.wire.new.self.signals c.args.bits c.args.number c.wire.ensures.wired
