use Rattle.operator_wires.proofs.BuiltWires.{either_answer}
use Rattle.operator_wires.proofs.wires.Wires.either.Goals as goal

pub returns-clause-wired : goal.returns-clause-wired
returns-clause-wired c = either_answer c.binary.result c.args.self.now.signals c.binary.new.self.signals c.args.left c.args.right c.binary.ensures.wired
