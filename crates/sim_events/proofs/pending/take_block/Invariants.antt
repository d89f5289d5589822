use Rattle.std.proofs.Common.{◌≡◌, ◌*◌, ℕ, List, length}
use Rattle.sim_layout.specs.Running.{choice_of}
use Rattle.sim_events.specs.Events.{AreFlagged, IsSettling}
use Rattle.sim_events.proofs.pending.take_block.Given as goal

abbrev pub invariant-loop-number : goal.invariant-loop-number
invariant-loop-number l = record {
  long : length l.numbers ≡ length l.initial.numbers;
  count : length l.pending.steps.items ≡ length l.steps;
  settling : (first : List ℕ) → IsSettling l.modules l.steps (choice_of l.choice) l.words l.starts l.fanout.starts.items l.fanout.steps.items first (l.block * 16) l.initial.numbers l.initial.pending.steps.items
      → IsSettling l.modules l.steps (choice_of l.choice) l.words l.starts l.fanout.starts.items l.fanout.steps.items first l.number l.numbers l.pending.steps.items;
  flagged : AreFlagged l.pending.steps.items l.pending.blocks.items;
}
