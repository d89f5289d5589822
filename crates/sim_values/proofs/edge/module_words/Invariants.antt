use Rattle.std.proofs.Common.{◌≡◌, drop}
use Rattle.sim_values.specs.Flat.{acted_words}
use Rattle.sim_values.proofs.edge.module_words.Given as goal

abbrev pub invariant-loop-action : goal.invariant-loop-action
invariant-loop-action l =
    acted_words l.module l.spot (record { numbers = l.now; words = l.initial.words; starts = l.starts }) l.module.actions
    ≡ acted_words l.module l.spot (record { numbers = l.now; words = l.words; starts = l.starts }) (drop l.action-index l.module.actions)
