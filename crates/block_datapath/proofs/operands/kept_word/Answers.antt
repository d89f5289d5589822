use Rattle.std.proofs.lemmas.Grind.{common_steps}
use Rattle.std.proofs.Common.{sym, ◌∙◌, arith}
use Rattle.block_datapath.proofs.BlockWires.{kept_wired, zero_wired}
use Rattle.block_datapath.proofs.operands.kept_word.Goals as goal

pub returns-in-Some-clause-wired : goal.returns-in-Some-clause-wired
returns-in-Some-clause-wired c =
    kept_wired c.narrowed.result c.args.wires.now.signals c.narrowed.new.wires.signals c.args.registers.now c.args.given c.in-Some.held
    (sym c.kept_in.ensures ∙ c.in-Some.is) c.narrowed.ensures.wired

pub returns-in-None-clause-wired : goal.returns-in-None-clause-wired
returns-in-None-clause-wired c =
    zero_wired c.zero_like.result c.args.wires.now.signals c.zero_like.new.wires.signals c.args.registers.now c.args.given c.zero_like.ensures.wired

pub returns-in-Some-clause-shows : goal.returns-in-Some-clause-shows
returns-in-Some-clause-shows c = grind (arith, common_steps)

pub returns-in-None-clause-shows : goal.returns-in-None-clause-shows
returns-in-None-clause-shows c = grind (arith, common_steps)
