use Rattle.std.proofs.lemmas.Result.{IfOk-weaker}
use Rattle.operator_wires.proofs.MadeWords.{tests_zero}
use Rattle.operator_wires.proofs.TypedWords.{zero_test_adds}
use Rattle.operator_wires.proofs.wires.Wires.is_zero.Goals as goal

pub returns-clause-shows : goal.returns-clause-shows
returns-clause-shows c =
    IfOk-weaker c.is_number.result _ _ (λ place u. tests_zero c.args.self.now.signals c.is_number.new.self.signals c.args.word place u)
    c.is_number.ensures.shows

pub returns-clause-wired : goal.returns-clause-wired
returns-clause-wired c =
    IfOk-weaker c.is_number.result _ _ (λ place u. zero_test_adds c.args.self.now.signals c.is_number.new.self.signals c.args.word place u)
    c.is_number.ensures.wired
