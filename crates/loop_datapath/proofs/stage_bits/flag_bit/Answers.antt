use Rattle.std.proofs.Common.{◌≡◌, slice_get, Some, false}
use Rattle.operator_wires.specs.Added.{ResizedAdds, ConstantAdds}
use Rattle.operator_wires.proofs.MadeWords.{of_ok}
use Rattle.loop_datapath.specs.Wired.{IsFlagBit}
use Rattle.loop_datapath.proofs.InsideStages.{flag_wired, no_flag_wired}
use Rattle.loop_datapath.proofs.stage_bits.flag_bit.Goals as goal

pub returns-in-Some-clause-wired : goal.returns-in-Some-clause-wired
returns-in-Some-clause-wired c =
    let held = c.in-Some.held in
    let listed : slice_get c.args.registers.now.kept c.args.number ≡ Some held = cc in
    of_ok c.resized.result (ResizedAdds c.args.wires.now.signals c.resized.new.self.signals held.register held.width 1 false)
    (IsFlagBit c.args.wires.now.signals c.resized.new.self.signals c.args.registers.now)
    (λ place t. flag_wired c.args.wires.now.signals c.resized.new.self.signals c.args.registers.now c.args.number place held listed t) c.resized.ensures.wired

pub returns-in-None-clause-wired : goal.returns-in-None-clause-wired
returns-in-None-clause-wired c =
    of_ok c.constant.result (ConstantAdds c.args.wires.now.signals c.constant.new.self.signals 1 0)
    (IsFlagBit c.args.wires.now.signals c.constant.new.self.signals c.args.registers.now)
    (λ place t. no_flag_wired c.args.wires.now.signals c.constant.new.self.signals c.args.registers.now place t) c.constant.ensures.wired
