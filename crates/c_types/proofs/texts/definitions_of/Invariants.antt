use Rattle.std.proofs.Common.{◌≡◌, [], take, fold}
use Rattle.c_resolution.specs.Texts.{with_declaration}
use Rattle.c_types.proofs.texts.definitions_of.Given as goal

abbrev pub invariant-loop-declaration : goal.invariant-loop-declaration
invariant-loop-declaration l =
    (l.definitions, l.number) ≡ fold with_declaration ([], 0) (take l.declaration-index l.declarations)
