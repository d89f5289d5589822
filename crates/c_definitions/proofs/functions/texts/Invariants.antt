use Rattle.std.proofs.Common.{◌≡◌, map, take}
use Rattle.std.specs.Prelude.{string_bytes}
use Rattle.c_rules.specs.Levels.{pointed}
use Rattle.c_resolution.specs.Globals.{text}
use Rattle.c_definitions.proofs.functions.texts.Given as goal

abbrev pub invariant-loop-name : goal.invariant-loop-name
invariant-loop-name l = map string_bytes l.texts.items ≡ map text (map pointed (take l.name-index l.names))
