use Rattle.std.proofs.Common.{refl}
use Rattle.block_datapath.proofs.BlockWires.{narrow_wired}
use Rattle.block_datapath.proofs.operands.narrowed.Goals as goal

pub returns-clause-wired : goal.returns-clause-wired
returns-clause-wired c =
    narrow_wired c.args.wires.now.signals c.resized.new.self.signals c.args.held c.args.word _ c.in_ok-place.place c.in_ok-place.ensures.wired refl refl refl
