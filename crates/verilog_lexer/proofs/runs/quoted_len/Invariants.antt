use Rattle.std.proofs.Common.{◌≡◌, ◌+◌, length, false}
use Rattle.verilog_lexer.specs.Runs.{quoted_len}
use Rattle.verilog_lexer.proofs.runs.quoted_len.Given as goal

abbrev pub invariant-loop-rest : goal.invariant-loop-rest
invariant-loop-rest l = (quoted_len l.len l.escaped l.rest ≡ quoted_len 0 false l.text) × (l.len + length l.rest ≡ length l.text)

abbrev pub decreases-loop-rest : goal.decreases-loop-rest
decreases-loop-rest l = length l.rest
