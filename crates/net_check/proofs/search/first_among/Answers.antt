use Rattle.net_check.proofs.Inside.{next_first}
use Rattle.net_check.proofs.search.first_among.Goals as goal

pub loop-number-preserved : goal.loop-number-preserved
loop-number-preserved c =
    next_first c.args.placed.now c.loop-number.interfaces c.next_module.new.interfaces c.loop-number.printing c.next_module.new.printing c.args.modules.now c.loop-number.number
    c.index-modules-number.result c.in_ok-found.found _ c.loop-number-test.true c.index-modules-number.is c.in_ok-found.ensures.found c.in-None.is
    (c.in_ok-found.ensures.facts c.in-None.is)
    c.loop-number.invariant
