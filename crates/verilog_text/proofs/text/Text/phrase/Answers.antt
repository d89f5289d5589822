use Rattle.verilog_text.specs.Layout.{piece_tokens}
use Rattle.verilog_text.proofs.LaidTokens.{all_step}
use Rattle.verilog_text.proofs.text.Text.phrase.Goals as goal

pub loop-piece-preserved : goal.loop-piece-preserved
loop-piece-preserved c = all_step piece_tokens c.args.self.now _ _ c.args.pieces.now c.loop-piece.piece-index c.piece-item.result c.loop-piece.invariant
    c.in_ok-put.ensures.text c.put.ensures.tokens c.piece-item.is c.loop-piece-test.true
