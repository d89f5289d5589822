use Rattle.std.proofs.Common.{◌≡◌, take}
use Rattle.verilog_tree.specs.Grammar as g
use Rattle.verilog_text.specs.Layout.{put_all, AllTokens}
use Rattle.verilog_writer.proofs.items.+statements.Given as goal

abbrev pub invariant-statements-loop-one : goal.invariant-statements-loop-one
invariant-statements-loop-one l = (l.out ≡ put_all l.fn.out (g.all g.statement (take l.one-index l.statements))) × AllTokens (g.all g.statement (take l.one-index l.statements))
