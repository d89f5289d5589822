use Rattle.std.proofs.Common.{refl}
use Rattle.block_datapath.specs.Wired.{AreFinishesAdded, IsTarget, SetsLinks}
use Rattle.block_datapath.proofs.Ends.{block_left_by}
use Rattle.block_datapath.proofs.LinkWires.{block_wired}
use Rattle.std.proofs.Common.{List, subst}
use Rattle.block_datapath.specs.declared.operands.Given.{Given}
use Rattle.block_datapath.specs.declared.ending.Finish.{Finish}
use Rattle.block_datapath.proofs.leaving_block.finish_block.Goals as goal

pub returns-clause-shows : goal.returns-clause-shows
returns-clause-shows c =
    block_left_by c.args.globals.now c.args.code.now c.args.registers.now c.args.stage c.args.block.now c.args.plan.now c.args.wires.now.signals c.at_stage.new.wires.signals
    c.all_values.new.wires.signals c.final_words.new.wires.signals c.target.new.wires.signals c.in_state.new.wires.signals c.set_finals.new.wires.signals c.args.variables.now
    c.set_finals.new.nexts
    c.in_ok-values.values c.as_slice-given.result.now c.as_slice-finals.result.now c.in_ok-finishes.finishes c.as_slice-finishing.result.now c.end_of-end.result c.in_ok-last.last
    c.in_ok-target.target c.in_ok-at.at
    (record { values = c.in_ok-values.values; end = c.end_of-end.result; last = c.in_ok-last.last; target = c.in_ok-target.target })
    c.as_slice-given.ensures c.as_slice-finals.ensures c.as_slice-finishing.ensures c.end_of-end.ensures.at c.end_of-end.ensures.state c.end_of-end.ensures.states
    c.in_ok-at.ensures.shows
    c.in_ok-values.ensures.shows c.in_ok-finishes.ensures.shows c.in_ok-target.ensures.shows c.in_ok-last.ensures.shows c.in_ok-set_finals.ensures.shows refl refl refl refl

pub returns-clause-wired : goal.returns-clause-wired
returns-clause-wired c =
    let code = c.args.code.now in
    let registers = c.args.registers.now in
    let values = c.in_ok-values.values in
    let finishes = c.in_ok-finishes.finishes in
    block_wired c.args.wires.now.signals c.at_stage.new.wires.signals c.all_values.new.wires.signals c.final_words.new.wires.signals c.target.new.wires.signals
    c.in_state.new.wires.signals
    c.set_finals.new.wires.signals code registers c.args.stage c.args.plan.now c.args.variables.now c.set_finals.new.nexts values finishes
    c.end_of-end.result c.in_ok-last.last c.in_ok-target.target c.in_ok-at.at
    (record { values = values; end = c.end_of-end.result; last = c.in_ok-last.last; target = c.in_ok-target.target })
    c.in_ok-at.ensures.wired c.in_ok-values.ensures.wired
    (subst (λ (l : List Given). AreFinishesAdded c.all_values.new.wires.signals c.final_words.new.wires.signals code registers l finishes) c.as_slice-given.ensures
    c.in_ok-finishes.ensures.wired)
    (subst (λ (l : List Given). IsTarget c.final_words.new.wires.signals c.target.new.wires.signals code registers l c.in_ok-target.target) c.as_slice-given.ensures
    c.in_ok-target.ensures.wired)
    c.in_ok-last.ensures.wired
    (subst (λ (l : List Finish). SetsLinks c.in_state.new.wires.signals c.set_finals.new.wires.signals c.in_ok-last.last c.args.variables.now c.set_finals.new.nexts l)
    c.as_slice-finishing.ensures c.in_ok-set_finals.ensures.wired)
    c.end_of-end.ensures.at c.end_of-end.ensures.states refl refl refl refl
