use Rattle.std.proofs.Common.{◌≡◌, length}
use Rattle.check_command.specs.Told.{name_place}
use Rattle.check_command.proofs.check.name_place.Given as goal

abbrev pub invariant-loop-tokens : goal.invariant-loop-tokens
invariant-loop-tokens l = name_place l.tokens l.from l.name ≡ name_place l.initial.tokens l.from l.name

abbrev pub decreases-loop-tokens : goal.decreases-loop-tokens
decreases-loop-tokens l = length l.tokens
