use Rattle.std.proofs.Common.{arith}
use Rattle.net_registers.proofs.RegisterGrowth.{first_more, first_all}
use Rattle.net_registers.proofs.listing.Listing.add_signals.Goals as goal

pub loop-number-preserved : goal.loop-number-preserved
loop-number-preserved c =
    first_more c.args.self.now c.loop-number.self c.add_signal.new.self c.args.base c.args.signals.now c.loop-number.number c.index-signals-number.result (omega arith)
    c.index-signals-number.is c.loop-number.invariant c.in_ok-add_signal.ensures

pub returns : goal.returns
returns c = first_all c.args.self.now c.loop-number.self c.args.base c.args.signals.now c.loop-number.number (omega arith) c.loop-number.invariant
