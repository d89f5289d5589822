use Rattle.net_registers.proofs.RegisterGrowth.{HasFirst}
use Rattle.net_registers.proofs.listing.Listing.add_signals.Given as goal

abbrev pub invariant-loop-number : goal.invariant-loop-number
invariant-loop-number l = HasFirst l.fn.self l.self l.base l.signals l.number
