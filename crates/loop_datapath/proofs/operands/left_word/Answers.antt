use Rattle.std.proofs.Common.{List, subst}
use Rattle.hls_ints.specs.Types.{IntegerType}
use Rattle.block_datapath.specs.Seen.{Converts}
use Rattle.block_datapath.specs.Wired.{AreConverted}
use Rattle.loop_datapath.proofs.AheadOperands.{left_shown}
use Rattle.loop_datapath.proofs.AheadWires.{left_word_wired}
use Rattle.loop_datapath.proofs.operands.left_word.Goals as goal

pub returns-clause-shows : goal.returns-clause-shows
returns-clause-shows c =
    left_shown c.converted.result c.args.wires.now.signals c.all_converted.new.wires.signals c.converted.new.self.signals c.args.types.now c.args.last.now c.args.word
    c.in_ok-whole.whole c.args.ty
    (subst (λ (ts : List IntegerType). Converts c.args.wires.now.signals c.all_converted.new.wires.signals c.args.word ts c.in_ok-whole.whole) c.as_slice.ensures
    c.in_ok-whole.ensures.shows)
    c.converted.ensures.shows

pub returns-clause-wired : goal.returns-clause-wired
returns-clause-wired c =
    left_word_wired c.converted.result c.args.wires.now.signals c.all_converted.new.wires.signals c.converted.new.self.signals c.args.last.now c.args.word c.in_ok-whole.whole c.args.ty
    (subst (λ (ts : List IntegerType). AreConverted c.args.wires.now.signals c.all_converted.new.wires.signals c.args.word ts c.in_ok-whole.whole) c.as_slice.ensures
    c.in_ok-whole.ensures.wired)
    c.converted.ensures.wired
