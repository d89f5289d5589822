use Rattle.std.proofs.Common.{◌≡◌, take}
use Rattle.code_blocks.specs.Closing.{finals_of}
use Rattle.code_blocks.proofs.open_block.OpenBlock.finals.Given as goal

abbrev pub invariant-loop-variable : goal.invariant-loop-variable
invariant-loop-variable l = l.finals ≡ finals_of l.self.current (take l.variable-index l.self.changed)
