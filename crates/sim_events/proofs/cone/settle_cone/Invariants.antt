use Rattle.std.proofs.Common.{◌≡◌, List, drop}
use Rattle.netlist.specs.declared.netlist.Module.{Module}
use Rattle.sim_values.specs.declared.settle.Step.{Step}
use Rattle.sim_values.specs.Flat.{settled}
use Rattle.sim_layout.specs.Running.{choice_of}
use Rattle.sim_events.specs.Events.{AreFlagged, IsKeeping, flat_at}
use Rattle.sim_events.proofs.cone.settle_cone.Given as goal

abbrev pub invariant-loop-step : goal.invariant-loop-step
invariant-loop-step l = record {
  settled : settled l.modules (choice_of l.choice) (flat_at l.initial.numbers l.words l.starts) l.cone ≡ settled l.modules (choice_of l.choice) (flat_at l.numbers l.words l.starts) (drop l.step-index l.cone);
  keeping : (all : List Module) (steps : List Step) → IsKeeping all steps l.fanout.starts.items l.fanout.steps.items l.initial.numbers l.initial.pending.steps.items
      → IsKeeping all steps l.fanout.starts.items l.fanout.steps.items l.numbers l.pending.steps.items;
  flagged : AreFlagged l.pending.steps.items l.pending.blocks.items;
}
