use Rattle.operator_wires.proofs.TypedWords.{sign_adds}
use Rattle.operator_wires.proofs.wires.Wires.with_sign.Goals as goal

pub returns-clause-wired : goal.returns-clause-wired
returns-clause-wired c =
    sign_adds c.args.self.now.signals c.wire.new.self.signals c.wire-2.new.self.signals c.beside.new.self.signals c.in_ok-sign.sign c.in_ok-fill.fill c.in_ok-place.place c.args.of
    c.args.from c.args.to
    c.saturating_sub-top.result c.saturating_sub-count.result c.saturating_sub-top.ensures c.saturating_sub-count.ensures c.in_ok-sign.ensures.wired c.in_ok-fill.ensures.wired
    c.in_ok-place.ensures.wired
