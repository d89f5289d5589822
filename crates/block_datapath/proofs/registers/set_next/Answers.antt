use Rattle.std.proofs.Common.{◌≡◌, slice_get, Some, None}
use Rattle.std.proofs.lemmas.Option.{slice_get_within}
use Rattle.block_datapath.proofs.ConditionalChains.{set_none}
use Rattle.block_datapath.proofs.LinkWires.{link_none, link_set}
use Rattle.block_datapath.proofs.registers.set_next.Goals as goal

pub returns-in_default-clause-shows : goal.returns-in_default-clause-shows
returns-in_default-clause-shows c =
    let missing : slice_get c.args.nexts.now c.args.number ≡ None = cc in
    set_none c.args.wires.now.signals c.args.nexts.now c.args.number c.args.condition c.args.source missing

pub returns-in_default-clause-wired : goal.returns-in_default-clause-wired
returns-in_default-clause-wired c =
    link_none c.args.wires.now.signals c.args.number c.args.width c.args.condition c.args.source c.args.nexts.now

pub returns-clause-wired : goal.returns-clause-wired
returns-clause-wired c =
    let present : slice_get c.args.nexts.now c.args.number ≡ Some c.in-Some.old = cc in
    link_set c.args.wires.now.signals c.choice.new.self.signals c.args.number c.args.width c.args.condition c.args.source c.in-Some.old c.in_ok-next.next c.args.nexts.now
    c.set.new.self
    present (slice_get_within c.args.nexts.now c.args.number c.in-Some.old present) c.in_ok-next.ensures.wired c.set.ensures
