use Rattle.std.proofs.Common.{◌≡◌, ◌<◌, ◌^◌, length}
use Rattle.c_token.specs.Constants.{number_from}
use Rattle.c_token.proofs.constant.number.Given as goal

abbrev pub invariant-loop-digits : goal.invariant-loop-digits
invariant-loop-digits l = (number_from l.base l.n l.digits ≡ number_from l.base 0 l.initial.digits) × (l.n < 2 ^ 64)

abbrev pub decreases-loop-digits : goal.decreases-loop-digits
decreases-loop-digits l = length l.digits
