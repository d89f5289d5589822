-- The last of some statements.
use Rattle.std.proofs.Common.{◌≡◌, refl, List, [], ◌∷◌, ◌++◌, map}
use Rattle.std.specs.Prelude.{Box}
use Rattle.c_program.specs.declared.tree.Statement.{Statement as StatementTree}
use Rattle.c_program.specs.Plain.{boxed_statement_of}
use Rattle.c_expressions.specs.Sequences.{only}

pub only-last : {A : Type 0} (before : List (Box StatementTree A)) (last : Box StatementTree A) → only (map boxed_statement_of (before ++ last ∷ [])) ≡ boxed_statement_of last
only-last [] last = refl
only-last (first ∷ []) last = refl
only-last (first ∷ next ∷ more) last = only-last (next ∷ more) last
