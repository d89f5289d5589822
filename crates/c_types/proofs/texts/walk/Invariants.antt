use Rattle.std.proofs.Common.{◌≡◌, take}
use Rattle.c_rules.specs.Walks.{Outcome, visited}
use Rattle.c_resolution.specs.Files.{file}
use Rattle.c_definitions.specs.Tabled.{tables_of}
use Rattle.c_resolution.specs.Texts.{declaration}
use Rattle.c_types.proofs.texts.walk.Given as goal

abbrev pub invariant-loop-next : goal.invariant-loop-next
invariant-loop-next l =
    visited declaration (take l.next-index l.declarations) (file l.initial.scope l.initial.found (tables_of l.initial.tables))
    ≡ Outcome.Gives tt (file l.scope l.found (tables_of l.tables))
