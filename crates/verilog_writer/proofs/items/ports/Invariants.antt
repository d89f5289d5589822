use Rattle.std.proofs.Common.{◌≡◌, take}
use Rattle.verilog_tree.specs.Grammar as g
use Rattle.verilog_text.specs.Layout.{put_all, AllTokens}
use Rattle.verilog_writer.proofs.items.ports.Given as goal

abbrev pub invariant-loop-one : goal.invariant-loop-one
invariant-loop-one l = (l.out ≡ put_all l.initial.out (g.more g.port (take l.one-index l.rest))) × AllTokens (g.more g.port (take l.one-index l.rest))
