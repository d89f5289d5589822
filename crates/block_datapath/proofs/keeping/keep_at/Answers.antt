use Rattle.std.proofs.Common.{◌≡◌, slice_get, None}
use Rattle.block_datapath.specs.Wired.{GivenStands}
use Rattle.block_datapath.proofs.ConditionalChains.{keep_missing}
use Rattle.block_datapath.proofs.LinkWires.{keeps_nothing}
use Rattle.block_datapath.proofs.keeping.keep_at.Goals as goal

pub returns-in-None-clause-shows : goal.returns-in-None-clause-shows
returns-in-None-clause-shows c =
    let missing : slice_get c.args.registers.now.kept c.args.number ≡ None = cc in
    keep_missing c.args.wires.now.signals c.args.registers.now c.args.end.at c.args.end.states c.args.nexts.now c.args.given c.args.number c.requires missing

pub returns-in-None-clause-wired : goal.returns-in-None-clause-wired
returns-in-None-clause-wired c =
    keeps_nothing c.args.wires.now.signals c.args.registers.now c.args.end.at c.args.end.states c.args.nexts.now (GivenStands c.args.wires.now.signals c.args.given)
