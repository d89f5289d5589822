use Rattle.std.proofs.lemmas.Result.{IfOk-weaker}
use Rattle.operator_wires.proofs.MadeWords.{truth_makes}
use Rattle.operator_wires.proofs.OperatorWords.{truth_after}
use Rattle.operator_wires.proofs.wires.Wires.less_word.Goals as goal

pub returns-clause-shows : goal.returns-clause-shows
returns-clause-shows c =
    IfOk-weaker c.truth.result _ _ (λ word u. truth_makes c.args.self.now.signals c.less.new.self.signals c.truth.new.self.signals c.in_ok-bit.bit _ _ _ _ word c.in_ok-bit.ensures.shows u)
    c.truth.ensures.shows

pub returns-clause-wired : goal.returns-clause-wired
returns-clause-wired c =
    IfOk-weaker c.truth.result _ _ (λ word u. truth_after c.args.self.now.signals c.less.new.self.signals c.truth.new.self.signals c.args.left c.args.right word c.in_ok-bit.bit c.in_ok-bit.ensures.wired u)
    c.truth.ensures.wired
