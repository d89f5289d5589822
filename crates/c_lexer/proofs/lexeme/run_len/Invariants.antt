use Rattle.std.proofs.Common.{◌≡◌, ◌+◌, ◌-◌, ◌≤◌, length}
use Rattle.c_lexer.specs.Finding.{run_len}
use Rattle.c_lexer.proofs.lexeme.run_len.Given as goal

abbrev pub invariant-loop-rest : goal.invariant-loop-rest
invariant-loop-rest l = (run_len l.run l.z ≡ (length l.z - length l.rest) + run_len l.run l.rest) × (length l.rest ≤ length l.z)

abbrev pub decreases-loop-rest : goal.decreases-loop-rest
decreases-loop-rest l = length l.rest
