use Rattle.std.proofs.Common.{◌≡◌, length}
use Rattle.sim_layout.specs.Placed.{IsPlaced}
use Rattle.sim_layout.proofs.place.place.Given as goal

abbrev pub invariant-loop-number : goal.invariant-loop-number
invariant-loop-number l = record {
  placed : IsPlaced l.modules l.tree.kinds.items l.tree.children.items l.placed.parts.items l.placed.numbers.items l.placed.free.items l.placed.words.items l.placed.starts.items;
  count : length l.placed.parts.items ≡ l.number;
}
