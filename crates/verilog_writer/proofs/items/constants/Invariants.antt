use Rattle.std.proofs.Common.{◌≡◌, take}
use Rattle.verilog_tree.specs.Grammar as g
use Rattle.verilog_text.specs.Layout.{put_all, AllTokens}
use Rattle.verilog_writer.proofs.items.constants.Given as goal

abbrev pub invariant-loop-one : goal.invariant-loop-one
invariant-loop-one l = (l.out ≡ put_all l.fn.out (g.all g.initial_constant (take l.one-index l.constants))) × AllTokens (g.all g.initial_constant (take l.one-index l.constants))
