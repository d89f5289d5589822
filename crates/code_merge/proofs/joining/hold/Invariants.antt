use Rattle.std.proofs.Common.{◌≡◌, ◌++◌, List, length, take}
use Rattle.block_ir.specs.declared.block.Final.{Final}
use Rattle.code_blocks.specs.Closing.{HasNoted}
use Rattle.code_merge.specs.Joined as spec
use Rattle.code_merge.proofs.joining.hold.Given as goal

abbrev pub invariant-loop-last : goal.invariant-loop-last
invariant-loop-last l = record {
  left : (fs : List Final) → spec.HasLeft l.fn.held.current fs → spec.HasLeft l.held.current (fs ++ take l.last-index l.finals);
  noted : HasNoted l.fn.held → HasNoted l.held;
  size : length l.held.current ≡ length l.fn.held.current;
}
