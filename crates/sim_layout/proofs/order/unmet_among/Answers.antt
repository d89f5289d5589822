use Rattle.std.proofs.Common.{sym, ◌∙◌, arith}
use Rattle.sim_layout.proofs.OrderGrowth.{unmet_index}
use Rattle.sim_layout.proofs.order.unmet_among.Goals as goal

pub returns-then-not-is_marked : goal.returns-then-not-is_marked
returns-then-not-is_marked c =
    let clear = sym c.is_marked.ensures ∙ c.if-not-is_marked.true in
    unmet_index c.args.marks.now c.args.base c.args.signals.now c.loop-signal.signal-index c.saturating_add.result (omega arith) clear (λ l. let e = c.saturating_add.ensures in omega (arith, l, e))
