use Rattle.verilog_text.proofs.LaidTokens.{more_spaces}
use Rattle.verilog_text.proofs.text.new_line.Goals as goal

pub loop-level-preserved : goal.loop-level-preserved
loop-level-preserved c = more_spaces _ _ _ _ c.loop-level.invariant c.in_ok-put.ensures
