-- What is known between two declarations at file scope (C99 6.9): the names in scope, what was found, and the
-- declarations of the program so far.
use Rattle.std.specs.Prelude.{List, [], ◌∷◌, ◌++◌}
use Rattle.c_program.specs.declared.tree.ThreadObject.{ThreadObject}
use Rattle.c_program.specs.declared.tree.MutexObject.{MutexObject}
use Rattle.c_program.specs.declared.tree.BarrierObject.{BarrierObject}
use Rattle.c_program.specs.Tree.{Function, GlobalVariable}
use Rattle.c_rules.specs.declared.findings.Findings.{Findings}
use Rattle.c_rules.specs.declared.names.Scope.{Scope}
use Rattle.c_rules.specs.Walks.{Walk, Outcome}
use Rattle.c_resolution.specs.States.{State, state, Goes}

-- the declarations of a program
pub record Tables : Type 0 where
  pub functions : List Function
  pub globals : List GlobalVariable
  pub threads : List ThreadObject
  pub mutexes : List MutexObject
  pub barriers : List BarrierObject

pub record File : Type 0 where
  pub scope : Scope
  pub found : Findings
  pub tables : Tables

abbrev pub file : Scope → Findings → Tables → File
file scope found tables = record { scope = scope; found = found; tables = tables }

abbrev pub Declares : Type 0 → Type 0
Declares A = Walk File A

abbrev pub in_file : {A : Type 0} → Tables → Outcome State A → Outcome File A
in_file tables (Outcome.Gives a s) = Outcome.Gives a (file s.scope s.found tables)

-- a part that adds nothing to the program's declarations
abbrev pub going : {A : Type 0} → Goes A → Declares A
going walk f = in_file f.tables (walk (state f.scope f.found))

-- one more declaration of the program
abbrev pub tabling : (Tables → Tables) → Declares (Unit {0})
tabling change f = Outcome.Gives tt (file f.scope f.found (change f.tables))

abbrev pub with_function : Function → Tables → Tables
with_function x t = record t { functions = t.functions ++ x ∷ [] }

abbrev pub with_global : GlobalVariable → Tables → Tables
with_global x t = record t { globals = t.globals ++ x ∷ [] }

abbrev pub with_thread : ThreadObject → Tables → Tables
with_thread x t = record t { threads = t.threads ++ x ∷ [] }

abbrev pub with_mutex : MutexObject → Tables → Tables
with_mutex x t = record t { mutexes = t.mutexes ++ x ∷ [] }

abbrev pub with_barrier : BarrierObject → Tables → Tables
with_barrier x t = record t { barriers = t.barriers ++ x ∷ [] }
