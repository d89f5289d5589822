use Rattle.std.proofs.Common.{◌≡◌, take}
use Rattle.verilog_tree.specs.Grammar as g
use Rattle.verilog_text.specs.Layout.{put_all, AllTokens}
use Rattle.verilog_text.proofs.expressions.names.Given as goal

abbrev pub invariant-loop-name : goal.invariant-loop-name
invariant-loop-name l = (l.out ≡ put_all l.initial.out (g.more g.name (take l.name-index l.rest))) × AllTokens (g.more g.name (take l.name-index l.rest))
