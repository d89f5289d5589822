use Rattle.block_datapath.specs.Wired.{GivenStands}
use Rattle.block_datapath.proofs.LinkWires.{keeps_nothing}
use Rattle.block_datapath.proofs.keeping.keep.Goals as goal

pub returns-in-None-clause-wired : goal.returns-in-None-clause-wired
returns-in-None-clause-wired c =
    keeps_nothing c.args.wires.now.signals c.args.registers.now c.args.end.at c.args.end.states c.args.nexts.now (GivenStands c.args.wires.now.signals c.args.given)
