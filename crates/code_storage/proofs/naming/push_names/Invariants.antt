use Rattle.std.proofs.Common.{◌≡◌, ◌++◌, map, take}
use Rattle.std.specs.Prelude.{string_bytes}
use Rattle.code_storage.specs.Names.{scalar_names}
use Rattle.code_storage.proofs.naming.push_names.Given as goal

abbrev pub invariant-loop-place : goal.invariant-loop-place
invariant-loop-place l = map string_bytes l.names ≡ map string_bytes l.fn.names ++ scalar_names (take l.place l.locals) (map string_bytes l.given)
