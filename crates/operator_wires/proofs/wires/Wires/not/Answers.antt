use Rattle.operator_wires.proofs.BuiltWires.{not_answer}
use Rattle.operator_wires.proofs.wires.Wires.not.Goals as goal

pub returns-clause-wired : goal.returns-clause-wired
returns-clause-wired c = not_answer c.wire.result c.args.self.now.signals c.wire.new.self.signals c.args.bits c.args.of c.wire.ensures.wired
