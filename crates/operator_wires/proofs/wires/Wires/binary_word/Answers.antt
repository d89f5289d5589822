use Rattle.operator_wires.proofs.MadeWords.{binary_answer}
use Rattle.operator_wires.proofs.OperatorWords.{binary_adds}
use Rattle.operator_wires.proofs.wires.Wires.binary_word.Goals as goal

pub returns-clause-shows : goal.returns-clause-shows
returns-clause-shows c =
    binary_answer c.binary_own.result c.args.operator c.args.ty c.args.self.now.signals c.converted.new.self.signals c.right_operand.new.self.signals c.binary_own.new.self.signals
    c.args.left c.args.right c.in_ok-own.own c.in_ok-other.other c.in_ok-own.ensures.shows c.in_ok-other.ensures.shows c.binary_own.ensures.shows

pub returns-clause-wired : goal.returns-clause-wired
returns-clause-wired c =
    binary_adds c.binary_own.result c.args.self.now.signals c.converted.new.self.signals c.right_operand.new.self.signals c.binary_own.new.self.signals c.args.operator c.args.ty c.args.left
    c.args.right
    c.in_ok-own.own c.in_ok-other.other c.in_ok-own.ensures.wired c.in_ok-other.ensures.wired c.binary_own.ensures.wired
