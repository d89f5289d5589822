use Rattle.std.proofs.Common.{◌≡◌, ◌<◌, ℕ, List, length, slice_index}
use Rattle.netlist.specs.declared.netlist.Module.{Module}
use Rattle.sim_values.specs.declared.settle.Step.{Step}
use Rattle.sim_events.specs.Events.{AreFlagged, IsKeeping}
use Rattle.sim_events.proofs.pending.take_over.Given as goal

abbrev pub invariant-loop-place : goal.invariant-loop-place
invariant-loop-place l = record {
  long : length l.numbers ≡ length l.next;
  same : (y : ℕ) → y < l.place → slice_index l.numbers y ≡ slice_index l.next y;
  keeping : (modules : List Module) (steps : List Step) → IsKeeping modules steps l.fanout.starts.items l.fanout.steps.items l.initial.numbers
      l.initial.pending.steps.items → IsKeeping modules steps l.fanout.starts.items l.fanout.steps.items l.numbers l.pending.steps.items;
  flagged : AreFlagged l.pending.steps.items l.pending.blocks.items;
}
