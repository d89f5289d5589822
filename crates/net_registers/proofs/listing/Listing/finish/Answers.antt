use Rattle.std.proofs.Common.{refl}
use Rattle.net_registers.proofs.HeadLines.{definitions_is}
use Rattle.net_registers.proofs.listing.Listing.finish.Goals as goal

pub returns : goal.returns
returns c = record { head = c.in_ok-put.ensures; line_is = definitions_is; places = refl; widths = refl }
