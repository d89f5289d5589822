use Rattle.std.proofs.Common.{sym, ◌∙◌}
use Rattle.sim_values.specs.Order.{reads}
use Rattle.sim_layout.proofs.WordRanks.{up_to_all}
use Rattle.sim_layout.proofs.suspects.highest.Goals as goal

pub returns-in-None : goal.returns-in-None
returns-in-None c =
    up_to_all c.args.ranks.now (reads c.args.modules.now c.args.feed) c.loop-index.most c.loop-index.index c.loop-index.invariant (sym c.operand_at.ensures ∙ c.in-None.is)
