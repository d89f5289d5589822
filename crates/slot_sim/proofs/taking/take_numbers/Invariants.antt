use Rattle.std.proofs.Common.{◌≡◌, ◌+◌, drop}
use Rattle.sim_layout.specs.Running.{IsSameNet}
use Rattle.slot_sim.specs.Taking.{taken, with_state}
use Rattle.slot_sim.proofs.taking.take_numbers.Given as goal

abbrev pub invariant-loop-number : goal.invariant-loop-number
invariant-loop-number l =
    IsSameNet l.sim l.other
    × (with_state l.initial.sim (taken l.other.numbers l.initial.sim.numbers l.base l.signals) l.initial.sim.words
    ≡ with_state l.sim (taken l.other.numbers l.sim.numbers (l.base + l.number) (drop l.number l.signals)) l.sim.words)
