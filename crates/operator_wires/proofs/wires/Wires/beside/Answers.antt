use Rattle.operator_wires.proofs.BuiltWires.{beside_answer}
use Rattle.operator_wires.proofs.wires.Wires.beside.Goals as goal

pub returns-clause-wired : goal.returns-clause-wired
returns-clause-wired c = beside_answer c.wire.result c.args.self.now.signals c.wire.new.self.signals c.args.bits c.args.high c.args.low c.in_ok-parts.parts c.in_ok-parts.ensures c.wire.ensures.wired
