-- The laws of programs of accepted texts.
use Rattle.std.specs.Prelude.{ℕ}
use Rattle.c_token.specs.Spelling.{Bytes}
use Rattle.c_tree.specs.declared.declaration.TranslationUnit.{TranslationUnit}
use Rattle.c_program.specs.Tree.{Program}
use Rattle.c_program.specs.Resolved.{IsResolved}
use Rattle.c_resolution.specs.Resolving.{Spells}
use Rattle.c_accepted.specs.Profile.{IsTreeOf, IsAccepted}
use Rattle.c_resolved_program.specs.Leaves.{HasValidLeaves}
use Rattle.c_resolved_program.specs.Laws.{HasElements, IsNumbered}

-- each leaf of the tree of a text is as the lexer makes it
abbrev pub TreeHasValidLeaves : Type 0
TreeHasValidLeaves = (text : Bytes) (tree : TranslationUnit) → IsTreeOf text tree → HasValidLeaves tree

-- the declarations of a program that the tree of a text spells have numbers of 32 bits, where the elements of each array can be
-- counted
abbrev pub TreeIsNumbered : Type 0
TreeIsNumbered = (text : Bytes) (tree : TranslationUnit) (P : Program) → IsTreeOf text tree → Spells tree P → HasElements P → IsNumbered P

-- the program of a text that is accepted is resolved
abbrev pub AcceptedIsResolved : Type 0
AcceptedIsResolved = (text : Bytes) (P : Program) (w : ℕ) → IsAccepted text P w → IsResolved P
