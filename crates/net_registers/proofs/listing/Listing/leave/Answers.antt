use Rattle.std.proofs.Common.{refl}
use Rattle.net_registers.proofs.HeadLines.{end_is}
use Rattle.net_registers.proofs.listing.Listing.leave.Goals as goal

pub returns : goal.returns
returns c = record { head = c.in_ok-put.ensures; line_is = end_is; places = refl; widths = refl }
