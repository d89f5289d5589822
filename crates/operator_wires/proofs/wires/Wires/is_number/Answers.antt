use Rattle.operator_wires.proofs.BuiltWires.{is_number_answer}
use Rattle.operator_wires.proofs.wires.Wires.is_number.Goals as goal

pub returns-clause-wired : goal.returns-clause-wired
returns-clause-wired c = is_number_answer c.binary.result c.args.self.now.signals c.constant.new.self.signals c.binary.new.self.signals c.args.bits c.args.of c.args.number
    c.in_ok-constant.constant c.in_ok-constant.ensures.wired c.binary.ensures.wired
