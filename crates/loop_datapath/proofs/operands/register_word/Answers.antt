use Rattle.std.proofs.Common.{◌≡◌, slice_get, Some}
use Rattle.loop_datapath.proofs.AheadWires.{kept_wired, unkept_wired}
use Rattle.loop_datapath.proofs.operands.register_word.Goals as goal

pub returns-in-Some-clause-wired : goal.returns-in-Some-clause-wired
returns-in-Some-clause-wired c =
    let listed : slice_get c.args.registers.now.kept c.args.number ≡ Some c.in-Some.held = cc in
    kept_wired c.low_word.result c.args.wires.now.signals c.low_word.new.wires.signals c.args.registers.now c.args.number c.args.ty c.in-Some.held listed c.low_word.ensures.wired

pub returns-in-None-clause-wired : goal.returns-in-None-clause-wired
returns-in-None-clause-wired c =
    unkept_wired c.constant_word.result c.args.wires.now.signals c.constant_word.new.self.signals c.args.registers.now c.args.ty c.constant_word.ensures.wired
