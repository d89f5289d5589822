use Rattle.std.proofs.Common.{◌≡◌, map, take, slice_index}
use Rattle.net_registers.proofs.registers.numbers_at.Given as goal

abbrev pub invariant-loop-place : goal.invariant-loop-place
invariant-loop-place l = l.numbers ≡ map (slice_index l.sim.numbers) (take l.place-index l.places)
