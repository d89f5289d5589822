use Rattle.operator_wires.proofs.MadeWords.{unary_answer}
use Rattle.operator_wires.proofs.OperatorWords.{unary_adds}
use Rattle.operator_wires.proofs.wires.Wires.unary.Goals as goal

pub returns-clause-shows : goal.returns-clause-shows
returns-clause-shows c =
    unary_answer c.unary_own.result c.args.operator c.args.ty c.args.self.now.signals c.converted.new.self.signals c.unary_own.new.self.signals c.args.operand c.in_ok-own.own c.in_ok-own.ensures.shows
    c.unary_own.ensures.shows

pub returns-clause-wired : goal.returns-clause-wired
returns-clause-wired c =
    unary_adds c.unary_own.result c.args.self.now.signals c.converted.new.self.signals c.unary_own.new.self.signals c.args.operator c.args.ty c.args.operand c.in_ok-own.own c.in_ok-own.ensures.wired
    c.unary_own.ensures.wired
