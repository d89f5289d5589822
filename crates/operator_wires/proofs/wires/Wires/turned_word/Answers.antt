use Rattle.std.proofs.lemmas.Result.{IfOk-weaker}
use Rattle.operator_wires.proofs.MadeWords.{truth_makes}
use Rattle.operator_wires.proofs.OperatorWords.{turned_adds}
use Rattle.operator_wires.proofs.wires.Wires.turned_word.Goals as goal

pub returns-clause-shows : goal.returns-clause-shows
returns-clause-shows c =
    IfOk-weaker c.truth.result _ _ (λ word u. truth_makes c.args.self.now.signals c.not.new.self.signals c.truth.new.self.signals c.in_ok-turned.turned _ _ _ _ word c.in_ok-turned.ensures.shows u)
    c.truth.ensures.shows

pub returns-clause-wired : goal.returns-clause-wired
returns-clause-wired c =
    IfOk-weaker c.truth.result _ _ (λ word u. turned_adds c.args.self.now.signals c.not.new.self.signals c.truth.new.self.signals c.args.bit c.in_ok-turned.turned word c.in_ok-turned.ensures.wired u)
    c.truth.ensures.wired
