use Rattle.std.proofs.Common.{◌≡◌, fold, take, None}
use Rattle.c_rules.specs.Levels.{named_in}
use Rattle.c_rules.specs.Names.{or_else}
use Rattle.c_rules.proofs.names.Scope.declared_outside.Given as goal

abbrev pub invariant-loop-level : goal.invariant-loop-level
invariant-loop-level l =
    l.found ≡ fold (λ found level. or_else (named_in level l.name) found) None (take l.level-index l.self.outer)
