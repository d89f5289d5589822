use Rattle.operator_wires.proofs.TypedWords.{truth_adds}
use Rattle.std.proofs.Common.{refl}
use Rattle.operator_wires.proofs.wires.Wires.truth.Goals as goal

pub returns-clause-wired : goal.returns-clause-wired
returns-clause-wired c =
    truth_adds c.args.self.now.signals c.with_zeros.new.self.signals c.args.bit c.in_ok-place.place _ c.in_ok-place.ensures.wired refl refl refl
