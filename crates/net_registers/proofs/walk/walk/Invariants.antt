use Rattle.net_registers.specs.Walks.{IsWalk}
use Rattle.net_registers.proofs.walk.walk.Given as goal

abbrev pub invariant-loop-turn : goal.invariant-loop-turn
invariant-loop-turn l = IsWalk l.sim l.frames.items l.listing
