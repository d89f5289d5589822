-- The elements of a local when a call begins.
use Rattle.std.specs.Prelude.{List, [], ◌∷◌, replicate, ℤ, Option, Some, None}
use Rattle.hls_ints.specs.Types.{wrapped}
use Rattle.c_program.specs.declared.tree.LocalVariable.{LocalVariable}

-- that of a parameter is its argument, converted; those of another local aren't written
abbrev pub fresh_row : LocalVariable → Option ℤ → List (Option ℤ)
fresh_row local None = replicate local.length None
fresh_row local (Some v) = Some (wrapped local.ty v) ∷ []
