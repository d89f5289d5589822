use Rattle.sim_layout.proofs.OrderGrowth.{grown_none}
use Rattle.sim_layout.proofs.order.growth_of.Goals as goal

pub returns : goal.returns
returns c =
    grown_none c.args.modules.now c.args.wires.now c.args.free.now
    (record { marks = c.in_ok-from_slice.field-0; taken = c.new.result; waits = c.in_ok-no_waits.field-0; looks = c.in_ok-numbers_below.field-0 })
    c.in_ok-from_slice.ensures.items c.new.ensures.items c.in_ok-no_waits.ensures c.in_ok-numbers_below.ensures
