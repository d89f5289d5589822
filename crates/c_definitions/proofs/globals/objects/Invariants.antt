use Rattle.std.proofs.Common.{◌≡◌, take}
use Rattle.c_rules.specs.Walks.{Outcome, through}
use Rattle.c_resolution.specs.Files.{file}
use Rattle.c_definitions.specs.Tabled.{tables_of}
use Rattle.c_resolution.specs.Globals.{next_object}
use Rattle.c_definitions.proofs.globals.objects.Given as goal

abbrev pub invariant-loop-declared : goal.invariant-loop-declared
invariant-loop-declared l =
    through (next_object l.words) l.declaration.is_pointer (take l.declared-index l.declaration.declarators)
    (file l.initial.scope l.initial.found (tables_of l.initial.tables))
    ≡ Outcome.Gives l.is_pointer (file l.scope l.found (tables_of l.tables))
