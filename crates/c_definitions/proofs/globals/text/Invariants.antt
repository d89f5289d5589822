use Rattle.std.proofs.Common.{◌≡◌, take}
use Rattle.std.specs.Prelude.{string_bytes}
use Rattle.c_resolution.specs.Globals as spec
use Rattle.c_definitions.proofs.globals.text.Given as goal

abbrev pub invariant-loop-byte : goal.invariant-loop-byte
invariant-loop-byte l = string_bytes l.text ≡ spec.text (take l.byte-index l.name)
