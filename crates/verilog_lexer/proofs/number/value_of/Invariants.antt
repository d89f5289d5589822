use Rattle.std.proofs.Common.{◌≡◌, length}
use Rattle.verilog_lexer.specs.Runs.{read_on}
use Rattle.verilog_lexer.proofs.number.value_of.Given as goal

abbrev pub invariant-loop-rest : goal.invariant-loop-rest
invariant-loop-rest l = read_on 0 l.digits ≡ read_on l.value l.rest

abbrev pub decreases-loop-rest : goal.decreases-loop-rest
decreases-loop-rest l = length l.rest
