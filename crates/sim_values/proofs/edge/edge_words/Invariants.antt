use Rattle.std.proofs.Common.{◌≡◌, drop}
use Rattle.sim_values.specs.Flat.{all_words}
use Rattle.sim_values.proofs.edge.edge_words.Given as goal

abbrev pub invariant-loop-part : goal.invariant-loop-part
invariant-loop-part l =
    all_words l.modules (record { numbers = l.now; words = l.initial.words; starts = l.starts }) l.parts
    ≡ all_words l.modules (record { numbers = l.now; words = l.words; starts = l.starts }) (drop l.part-index l.parts)
