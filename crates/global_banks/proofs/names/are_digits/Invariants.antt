use Rattle.std.proofs.Common.{◌≡◌, drop}
use Rattle.global_banks.specs.Banks.{are_digits}
use Rattle.global_banks.proofs.names.are_digits.Given as goal

abbrev pub invariant-loop-byte : goal.invariant-loop-byte
invariant-loop-byte l = are_digits l.text ≡ are_digits (drop l.byte-index l.text)
