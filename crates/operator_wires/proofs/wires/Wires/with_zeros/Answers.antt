use Rattle.std.proofs.lemmas.Result.{IfOk-weaker}
use Rattle.operator_wires.proofs.ResizedWords.{zeros_give}
use Rattle.operator_wires.proofs.TypedWords.{zeros_adds}
use Rattle.operator_wires.proofs.wires.Wires.with_zeros.Goals as goal

pub returns-clause-shows : goal.returns-clause-shows
returns-clause-shows c =
    IfOk-weaker c.beside.result _ _
    (λ place u.
    zeros_give c.args.self.now.signals c.constant.new.self.signals c.beside.new.self.signals c.in_ok-zeros.zeros place c.args.of c.saturating_sub.result c.args.to
    c.in_ok-zeros.ensures.shows u)
    c.beside.ensures.shows

pub returns-clause-wired : goal.returns-clause-wired
returns-clause-wired c =
    IfOk-weaker c.beside.result _ _
    (λ place u.
    zeros_adds c.args.self.now.signals c.constant.new.self.signals c.beside.new.self.signals c.in_ok-zeros.zeros place c.args.of c.args.from c.args.to c.saturating_sub.result
    c.saturating_sub.ensures c.in_ok-zeros.ensures.wired u)
    c.beside.ensures.wired
