use Rattle.std.proofs.Common.{◌≤◌, length, rules}
use Rattle.block_datapath.proofs.LinkWires.{number_wired}
use Rattle.block_datapath.proofs.ending.stage_number.Goals as goal

pub returns-clause-wired : goal.returns-clause-wired
returns-clause-wired c =
    let most : c.min-number.result ≤ length c.args.code.now.stages = search rules in
    number_wired c.constant.result c.args.wires.now.signals c.constant.new.self.signals c.args.code.now c.args.registers.now c.args.stage c.min-number.result most
    c.constant.ensures.wired
