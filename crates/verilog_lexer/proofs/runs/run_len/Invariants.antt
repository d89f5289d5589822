use Rattle.std.proofs.Common.{◌≡◌, ◌+◌, ◌-◌, ◌≤◌, length}
use Rattle.verilog_lexer.specs.Runs.{run_len}
use Rattle.verilog_lexer.proofs.runs.run_len.Given as goal

abbrev pub invariant-loop-rest : goal.invariant-loop-rest
invariant-loop-rest l = (run_len l.run l.text ≡ (length l.text - length l.rest) + run_len l.run l.rest) × (length l.rest ≤ length l.text)

abbrev pub decreases-loop-rest : goal.decreases-loop-rest
decreases-loop-rest l = length l.rest
