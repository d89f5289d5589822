use Rattle.std.proofs.Common.{◌≡◌, ◌++◌, take, string_bytes}
use Rattle.printer_cores.specs.Format.{spelled_bytes}
use Rattle.printer_cores.proofs.format.push_bytes.Given as goal

abbrev pub invariant-loop-i : goal.invariant-loop-i
invariant-loop-i l = string_bytes l.text ≡ string_bytes l.initial.text ++ spelled_bytes (take l.i l.bytes)
