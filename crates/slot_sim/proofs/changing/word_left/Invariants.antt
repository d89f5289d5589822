use Rattle.std.proofs.Common.{◌≡◌, drop}
use Rattle.verilog_meaning.specs.Readings.{word_after}
use Rattle.sim_values.specs.Flat.{reading}
use Rattle.sim_layout.specs.Running.{flat}
use Rattle.slot_sim.proofs.changing.word_left.Given as goal

abbrev pub invariant-loop-action : goal.invariant-loop-action
invariant-loop-action l =
    word_after (reading l.spot (flat l.sim)) l.actions l.memory l.number l.held
    ≡ word_after (reading l.spot (flat l.sim)) (drop l.action-index l.actions) l.memory l.number l.left
