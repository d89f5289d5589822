use Rattle.std.proofs.Common.{arith}
use Rattle.net_registers.proofs.HeadLines.{register_line_is}
use Rattle.net_registers.proofs.listing.put_register.Goals as goal

pub returns-clause-line : goal.returns-clause-line
returns-clause-line c = register_line_is c.args.number c.args.signal.now c.as_str.ensures.name (omega arith)
