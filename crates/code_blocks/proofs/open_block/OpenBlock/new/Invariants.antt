use Rattle.std.proofs.Common.{◌≡◌, length}
use Rattle.code_blocks.specs.Closing.{IsUnchanged}
use Rattle.code_blocks.proofs.open_block.OpenBlock.new.Given as goal

abbrev pub invariant-loop-done : goal.invariant-loop-done
invariant-loop-done l = record { size : length l.current ≡ l.done; unchanged : IsUnchanged l.current }
