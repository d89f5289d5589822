use Rattle.std.proofs.Common.{◌≡◌, ◌+◌, drop}
use Rattle.global_banks.specs.Banks.{memory_place}
use Rattle.global_banks.proofs.locate.memory_place.Given as goal

abbrev pub invariant-loop-number : goal.invariant-loop-number
invariant-loop-number l = memory_place l.global l.digits l.memories ≡ l.number + memory_place l.global l.digits (drop l.number l.memories)
