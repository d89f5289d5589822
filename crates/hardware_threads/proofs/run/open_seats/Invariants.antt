use Rattle.std.proofs.Common.{◌≡◌, vec_len}
use Rattle.hardware_threads.proofs.run.open_seats.Given as goal

abbrev pub invariant-loop : goal.invariant-loop
invariant-loop g l = vec_len l.seats ≡ l.counter
