use Rattle.std.proofs.Common.{◌≡◌, take}
use Rattle.printer_cores.specs.Printer.{writes_from}
use Rattle.printer_cores.proofs.printer.actions.Given as goal

abbrev pub invariant-loop-site : goal.invariant-loop-site
invariant-loop-site l = l.actions ≡ writes_from l.hits l.first 0 (take l.site l.shape.sites)
