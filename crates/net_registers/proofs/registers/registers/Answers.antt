use Rattle.net_registers.proofs.Listed.{listed}
use Rattle.net_registers.proofs.registers.registers.Goals as goal

pub returns : goal.returns
returns c = listed c.args.sim.now c.in_ok-listing.listing c.finish.new.self c.in_ok-listing.ensures c.in_ok-finish.ensures
