use Rattle.block_datapath.proofs.LinkWires.{jump_wired}
use Rattle.block_datapath.proofs.ending.target.Goals as goal

pub returns-in-Jump-clause-wired : goal.returns-in-Jump-clause-wired
returns-in-Jump-clause-wired c =
    jump_wired c.stage_number.result c.args.wires.now.signals c.stage_number.new.wires.signals c.args.code.now c.args.registers.now c.args.values.now c.stage_number.ensures.wired
