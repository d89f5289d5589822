use Rattle.std.proofs.lemmas.Result.{on_ok_weaker}
use Rattle.unit_datapath.proofs.UnitLinks.{block_linked}
use Rattle.unit_datapath.proofs.links.link_block.Goals as goal

pub returns : goal.returns
returns c =
    on_ok_weaker c.link_all.result
    (λ last.
    block_linked c.args.code.now c.args.registers.now c.args.kind.now c.args.block.now c.args.plan.now c.end_of-end.result c.args.stage c.args.wires.now.signals
    c.at_stage.new.wires.signals
    c.link_all.new.wires.signals c.args.inputs.now c.link_all.new.inputs c.in_ok-at.at c.end_of-end.ensures.at c.end_of-end.ensures.states c.in_ok-at.ensures.shows
    c.in_ok-at.ensures.wired last)
    c.link_all.ensures
