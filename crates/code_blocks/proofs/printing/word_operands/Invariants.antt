use Rattle.std.proofs.Common.{◌≡◌}
use Rattle.code_blocks.specs.Printing.{word_operands}
use Rattle.code_blocks.proofs.printing.word_operands.Given as goal

abbrev pub invariant-loop-position : goal.invariant-loop-position
invariant-loop-position l = l.operands ≡ word_operands l.first l.position
