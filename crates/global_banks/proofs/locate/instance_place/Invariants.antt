use Rattle.std.proofs.Common.{◌≡◌, ◌+◌, drop}
use Rattle.global_banks.specs.Banks.{instance_place}
use Rattle.global_banks.proofs.locate.instance_place.Given as goal

abbrev pub invariant-loop-number : goal.invariant-loop-number
invariant-loop-number l = instance_place l.global l.digits l.instances ≡ l.number + instance_place l.global l.digits (drop l.number l.instances)
