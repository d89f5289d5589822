use Rattle.std.proofs.Common.{List, refl, sym, subst}
use Rattle.block_datapath.specs.declared.ending.Finish.{Finish}
use Rattle.block_datapath.specs.Ending.{ShowsFinals}
use Rattle.block_datapath.specs.Wired.{AreFinishesAdded}
use Rattle.block_datapath.proofs.BlockEnd.{finals_none, finals_more}
use Rattle.block_datapath.proofs.OperationValues.{item_is}
use Rattle.block_datapath.proofs.LinkWires.{finishes_none, finishes_more}
use Rattle.block_datapath.proofs.ending.final_words.Goals as goal

pub loop-finish-preserved : goal.loop-finish-preserved
loop-finish-preserved c = (
  finals_more c.args.registers.now c.args.code.now c.args.values.now c.args.state c.args.wires.now.signals c.loop-finish.wires.signals c.final_word.new.wires.signals
      c.args.finals.now
      c.loop-finish.finish-index c.loop-finish.finishes c.push.new.self c.finish-item.result c.in_ok-word.word c.loop-finish.invariant.0
      (item_is c.args.finals.now c.args.finals.now c.loop-finish.finish-index c.finish-item.result c.loop-finish-test.true c.finish-item.is refl) c.in_ok-word.ensures.shows
      c.in_ok-push.ensures.ok,
  finishes_more c.args.wires.now.signals c.loop-finish.wires.signals c.final_word.new.wires.signals c.args.code.now c.args.registers.now c.args.values.now c.loop-finish.finishes
      c.push.new.self c.in_ok-word.word
      c.loop-finish.invariant.1 c.in_ok-word.ensures.wired c.in_ok-push.ensures.ok,
)

pub loop-finish-init : goal.loop-finish-init
loop-finish-init c =
    let none = sym c.new-finishes.ensures in (
      subst (λ (l : List Finish). ShowsFinals c.args.registers.now c.args.code.now c.args.values.now c.args.state c.args.wires.now.signals c.args.wires.now.signals
          c.args.finals.now 0 l) none
          (finals_none c.args.registers.now c.args.code.now c.args.values.now c.args.state c.args.wires.now.signals c.args.finals.now),
      subst (λ (l : List Finish). AreFinishesAdded c.args.wires.now.signals c.args.wires.now.signals c.args.code.now c.args.registers.now c.args.values.now l) none
          (finishes_none c.args.wires.now.signals c.args.code.now c.args.registers.now c.args.values.now),
    )
