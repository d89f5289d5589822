use Rattle.std.proofs.Common.{◌≡◌, take}
use Rattle.thread_requests.specs.Early.{spread_out}
use Rattle.thread_requests.proofs.banks.spread_places.Given as goal

abbrev pub invariant-loop-number : goal.invariant-loop-number
invariant-loop-number l = l.all ≡ spread_out (take l.number l.spreads) l.places
