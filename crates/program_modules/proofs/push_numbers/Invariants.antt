use Rattle.std.proofs.Common.{◌≡◌, ◌++◌, replicate}
use Rattle.program_modules.proofs.push_numbers.Given as goal

abbrev pub invariant-loop : goal.invariant-loop
invariant-loop l = l.numbers ≡ l.fn.numbers ++ replicate l.counter l.number
