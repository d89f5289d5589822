use Rattle.std.proofs.Common.{sym, ◌∙◌}
use Rattle.cycle_sim.proofs.Writers.{top_here}
use Rattle.cycle_sim.proofs.net.top_number.Goals as goal

pub returns-then-is_top : goal.returns-then-is_top
returns-then-is_top c =
    top_here c.args.modules.now c.loop-number.number c.index-modules-number.result c.loop-number-test.true c.index-modules-number.is (sym c.is_top.ensures ∙ c.if-is_top.true) c.loop-number.invariant
