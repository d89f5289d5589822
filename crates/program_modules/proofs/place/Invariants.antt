use Rattle.std.proofs.Common.{◌≡◌, ◌+◌, drop}
use Rattle.program_modules.specs.Numbers.{place_in}
use Rattle.program_modules.proofs.place.Given as goal

abbrev pub invariant-loop-place : goal.invariant-loop-place
invariant-loop-place l = place_in l.functions l.function ≡ l.place + place_in (drop l.place l.functions) l.function
