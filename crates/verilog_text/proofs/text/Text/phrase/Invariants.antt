use Rattle.std.proofs.Common.{◌≡◌, take}
use Rattle.verilog_text.specs.Layout.{put_all, phrase, AllTokens}
use Rattle.verilog_text.proofs.text.Text.phrase.Given as goal

abbrev pub invariant-loop-piece : goal.invariant-loop-piece
invariant-loop-piece l = (l.self ≡ put_all l.fn.self (phrase (take l.piece-index l.pieces))) × AllTokens (phrase (take l.piece-index l.pieces))
