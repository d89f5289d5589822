use Rattle.std.proofs.Common.{sym, ◌∙◌}
use Rattle.operator_wires.proofs.MadeWords.{right_kept, right_answer}
use Rattle.operator_wires.proofs.OperatorWords.{right_kept as kept_adds, right_converted}
use Rattle.operator_wires.proofs.wires.Wires.right_operand.Goals as goal

pub returns-then-is_shift-clause-shows : goal.returns-then-is_shift-clause-shows
returns-then-is_shift-clause-shows c = right_kept c.args.self.now.signals c.args.operator c.args.ty c.args.right (sym c.is_shift.ensures ∙ c.if-is_shift.true)

pub returns-else-is_shift-clause-shows : goal.returns-else-is_shift-clause-shows
returns-else-is_shift-clause-shows c =
    right_answer c.converted.result c.args.self.now.signals c.converted.new.self.signals c.args.operator c.args.ty c.args.right (sym c.is_shift.ensures ∙ c.if-is_shift.false) c.converted.ensures.shows

pub returns-then-is_shift-clause-wired : goal.returns-then-is_shift-clause-wired
returns-then-is_shift-clause-wired c =
    kept_adds c.args.self.now.signals c.args.operator c.args.ty c.args.right (sym c.is_shift.ensures ∙ c.if-is_shift.true)

pub returns-else-is_shift-clause-wired : goal.returns-else-is_shift-clause-wired
returns-else-is_shift-clause-wired c =
    right_converted c.converted.result c.args.self.now.signals c.converted.new.self.signals c.args.operator c.args.ty c.args.right c.converted.ensures.wired
