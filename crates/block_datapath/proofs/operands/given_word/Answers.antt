use Rattle.block_datapath.proofs.BlockWires.{given_own}
use Rattle.block_datapath.proofs.operands.given_word.Goals as goal

pub returns-then-given-state-clause-wired : goal.returns-then-given-state-clause-wired
returns-then-given-state-clause-wired c =
    given_own c.args.wires.now.signals c.args.registers.now c.args.given
