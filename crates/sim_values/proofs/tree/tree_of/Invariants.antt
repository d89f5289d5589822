use Rattle.std.proofs.Common.{◌≡◌, length}
use Rattle.sim_values.specs.Tree.{IsGrown}
use Rattle.sim_values.proofs.tree.tree_of.Given as goal

abbrev pub invariant-loop-place : goal.invariant-loop-place
invariant-loop-place l = record {
  grown : IsGrown l.modules l.top l.tree.kinds.items l.tree.children.items;
  count : length l.tree.children.items ≡ l.place;
}
