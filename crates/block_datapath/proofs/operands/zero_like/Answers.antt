use Rattle.std.proofs.Common.{refl}
use Rattle.block_datapath.proofs.BlockWires.{zero_like_wired}
use Rattle.block_datapath.proofs.operands.zero_like.Goals as goal

pub returns-clause-wired : goal.returns-clause-wired
returns-clause-wired c =
    zero_like_wired c.args.wires.now.signals c.constant.new.self.signals c.args.word _ c.in_ok-place.place c.in_ok-place.ensures.wired refl refl refl
