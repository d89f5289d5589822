use Rattle.std.proofs.Common.{refl}
use Rattle.operator_wires.proofs.MadeWords.{on_two}
use Rattle.block_datapath.specs.Chains.{SetsNext}
use Rattle.block_datapath.specs.Wired.{IsLinked}
use Rattle.unit_datapath.specs.declared.inputs.UnitInputs.{UnitInputs}
use Rattle.unit_datapath.specs.Inputs.{LinksBegun}
use Rattle.unit_datapath.proofs.UnitInputs.{unit_linked}
use Rattle.unit_datapath.proofs.inputs.link_begun.Goals as goal

pub returns : goal.returns
returns c =
    let after : UnitInputs = record { begun = c.args.inputs.now.begun; lefts = c.set_next.new.nexts; rights = c.set_next-2.new.nexts } in
    on_two c.set_next-2.result
    (SetsNext c.set_next.new.wires.signals c.set_next-2.new.wires.signals c.args.inputs.now.rights c.set_next-2.new.nexts c.args.unit c.args.here c.args.right)
    (IsLinked c.set_next.new.wires.signals c.set_next-2.new.wires.signals c.args.unit c.args.width c.args.here c.args.right c.args.inputs.now.rights c.set_next-2.new.nexts)
    (LinksBegun c.args.wires.now.signals c.set_next-2.new.wires.signals c.args.inputs.now after c.args.unit c.args.width c.args.here c.args.left c.args.right)
    (λ t u.
    unit_linked c.args.wires.now.signals c.set_next.new.wires.signals c.set_next-2.new.wires.signals c.args.inputs.now after c.args.unit c.args.width c.args.here c.args.left
    c.args.right refl
    c.in_ok-set_next.ensures.shows c.in_ok-set_next.ensures.wired t u)
    c.set_next-2.ensures.shows c.set_next-2.ensures.wired
