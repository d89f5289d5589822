-- What a tree is resolved to, or the first rule that it breaks by place and then by number.
use Rattle.std.specs.Prelude.{◌≡◌, ℕ, List, [], fold, Option, Some, None}
use Rattle.c_tree.specs.declared.declaration.ExternalDeclaration.{ExternalDeclaration}
use Rattle.c_tree.specs.declared.declaration.TranslationUnit.{TranslationUnit}
use Rattle.c_program.specs.declared.tree.ThreadObject.{ThreadObject}
use Rattle.c_program.specs.Tree.{Program}
use Rattle.c_rules.specs.declared.fault.Fault.{Fault}
use Rattle.c_rules.specs.Faults.{first}
use Rattle.c_rules.specs.declared.names.Scope.{Scope}
use Rattle.c_rules.specs.Findings.{nothing}
use Rattle.c_rules.specs.Names.{empty_scope}
use Rattle.c_rules.specs.Walks.{Outcome}
use Rattle.c_resolution.specs.CallRules.{IsCallFault}
use Rattle.c_resolution.specs.Files.{File, Tables, file}
use Rattle.c_resolution.specs.Routines.{Given, next_given}
use Rattle.c_resolution.specs.Texts.{definitions, declarations, main_number}

abbrev pub no_tables : Tables
no_tables = record { functions = []; globals = []; threads = []; mutexes = []; barriers = [] }

-- the scope of a file that defines these functions, where no name is declared yet
abbrev pub scope_with : List (List ℕ × ℕ) → Scope
scope_with definitions = record empty_scope { definitions = definitions }

-- what is known before the first declaration: which functions the text defines
abbrev pub before : List ExternalDeclaration → File
before list = file (scope_with (definitions list)) nothing no_tables

abbrev pub after : {S A : Type 0} → Outcome S A → S
after (Outcome.Gives a s) = s

-- what is known behind the last one
unfoldable pub behind : List ExternalDeclaration → File
behind list = after (declarations list (before list))

-- the thread objects with the routines that creates give them, and the first fault in these
abbrev pub routines_given : File → Given
routines_given x = fold next_given (x.tables.threads, None) x.found.creations

-- the first fault of a text, if it has one: of its parts, of its calls as a graph, and of its creates
pub record IsFirstFault (tree : TranslationUnit) (fault : Option Fault) : Type 0 where
  pub calls : Option Fault
  pub is_calls : IsCallFault (behind tree.declarations).tables.functions (behind tree.declarations).found calls
  pub is : fault ≡ first calls (routines_given (behind tree.declarations)).1

-- the program of the declarations of a text
abbrev pub program_with : Tables → List ThreadObject → ℕ → Program
program_with t threads main = record {
  functions = t.functions;
  main = main;
  globals = t.globals;
  threads = threads;
  mutexes = t.mutexes;
  barriers = t.barriers;
}

abbrev pub program_at : File → ℕ → Program
program_at x main = program_with x.tables (routines_given x).0 main

-- the tree breaks no rule and has a main: this is its program
pub record Spells (tree : TranslationUnit) (P : Program) : Type 0 where
  pub no_fault : IsFirstFault tree None
  pub main : ℕ
  pub has_main : main_number (behind tree.declarations).scope ≡ Some main
  pub program : P ≡ program_at (behind tree.declarations) main

-- the tree breaks no rule, but no main is defined
pub record LacksMain (tree : TranslationUnit) : Type 0 where
  pub no_fault : IsFirstFault tree None
  pub no_main : main_number (behind tree.declarations).scope ≡ None
