use Rattle.std.proofs.Common.{◌≡◌, take, string_bytes}
use Rattle.printer_cores.specs.Format.{spelled}
use Rattle.printer_cores.proofs.format.string.Given as goal

abbrev pub invariant-loop-i : goal.invariant-loop-i
invariant-loop-i l = string_bytes l.text ≡ spelled (take l.i l.parts)
