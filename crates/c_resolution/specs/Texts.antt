-- A whole text (C99 6.9): its declarations one after another, where it is known which functions it defines.
use Rattle.std.specs.Prelude.{ℕ, ◌+◌, min, if◌then◌else◌, List, [], fold, Option, Some, None, slice_get, codes}
use Rattle.c_tree.specs.declared.statement.Block.{Block}
use Rattle.c_tree.specs.declared.declaration.Function.{Function as FunctionTree}
use Rattle.c_tree.specs.declared.declaration.ExternalDeclaration.{ExternalDeclaration}
use Rattle.c_tree.specs.declared.declaration.ExternalDeclaration.TheVariants as external
use Rattle.c_rules.specs.declared.names.Header.{Header}
use Rattle.c_rules.specs.declared.names.Meaning.{Meaning}
use Rattle.c_rules.specs.declared.names.Meaning.TheVariants as meaning
use Rattle.c_rules.specs.declared.names.Scope.{Scope}
use Rattle.c_rules.specs.Levels.{named_in, noted}
use Rattle.c_rules.specs.Walks.{visited}
use Rattle.c_resolution.specs.Files.{Declares}
use Rattle.c_resolution.specs.Functions.{function}
use Rattle.c_resolution.specs.Globals.{objects}

-- the functions that are defined, each with the number of its first definition, and the number of the next definition
abbrev pub Noted : Type 0
Noted = List (List ℕ × ℕ) × ℕ

abbrev pub with_function : FunctionTree → Noted → Option Block → Noted
with_function f d None = d
with_function f d (Some body) = (noted d.0 f.name.bytes d.1, min (d.1 + 1) 0xffff_ffff)

abbrev pub with_declaration : Noted → ExternalDeclaration → Noted
with_declaration d (external.Function f) = with_function f d f.body
with_declaration d (external.Objects o) = d

abbrev pub definitions : List ExternalDeclaration → List (List ℕ × ℕ)
definitions list = (fold with_declaration ([], 0) list).0

abbrev pub declaration : ExternalDeclaration → Declares (Unit {0})
declaration (external.Function f) = function f
declaration (external.Objects o) = objects o

unfoldable pub declarations : List ExternalDeclaration → Declares (Unit {0})
declarations list = visited declaration list

-- ---- main: the function of that name, if it is int main(void) or int main()

abbrev pub main_in : Header → Option ℕ
main_in h = if h.is_main then h.definition else None

abbrev pub main_of : Option Header → Option ℕ
main_of None = None
main_of (Some h) = main_in h

abbrev pub main_at : List Header → ℕ → Option ℕ
main_at headers number = main_of (slice_get headers number)

abbrev pub main_by : Scope → Option Meaning → Option ℕ
main_by s (Some (meaning.Function number)) = main_at s.headers number
main_by s other = None

abbrev pub main_number : Scope → Option ℕ
main_number s = main_by s (named_in s.inner (codes "main"))
