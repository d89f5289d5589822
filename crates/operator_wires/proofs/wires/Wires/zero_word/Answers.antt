use Rattle.std.proofs.lemmas.Result.{IfOk-weaker}
use Rattle.operator_wires.proofs.MadeWords.{truth_makes}
use Rattle.operator_wires.proofs.OperatorWords.{zero_word_adds}
use Rattle.operator_wires.proofs.wires.Wires.zero_word.Goals as goal

pub returns-clause-shows : goal.returns-clause-shows
returns-clause-shows c =
    IfOk-weaker c.truth.result _ _ (λ word u. truth_makes c.args.self.now.signals c.is_number.new.self.signals c.truth.new.self.signals c.in_ok-bit.bit _ _ _ _ word c.in_ok-bit.ensures.shows u)
    c.truth.ensures.shows

pub returns-clause-wired : goal.returns-clause-wired
returns-clause-wired c =
    IfOk-weaker c.truth.result _ _ (λ word u. zero_word_adds c.args.self.now.signals c.is_number.new.self.signals c.truth.new.self.signals c.args.own word c.in_ok-bit.bit c.in_ok-bit.ensures.wired u)
    c.truth.ensures.wired
