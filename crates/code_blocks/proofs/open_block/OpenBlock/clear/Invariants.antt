use Rattle.std.proofs.Common.{◌≡◌, take, []}
use Rattle.code_blocks.proofs.Finals.{Cleared}
use Rattle.code_blocks.proofs.open_block.OpenBlock.clear.Given as goal

abbrev pub invariant-loop-variable : goal.invariant-loop-variable
invariant-loop-variable l = record {
  same : l.self ≡ record l.fn.self { changed = []; current = l.self.current };
  items : l.variable-items ≡ l.fn.self.changed;
  cleared : Cleared l.fn.self.current l.self.current (take l.variable-index l.variable-items);
}
