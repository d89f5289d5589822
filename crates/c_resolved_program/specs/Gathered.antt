-- What the declarations of a text give one by one, before its calls and creates are judged as a whole.
use Rattle.std.specs.Prelude.{◌≡◌, ℕ, ◌<◌, List, length, map, Some, None, slice_get, nat_eq, Contains}
use Rattle.std.specs.List.{AllByRecursion, IsDistinct}
use Rattle.std.specs.Cmp.Lexicographic.{pointwise}
use Rattle.c_program.specs.declared.tree.ThreadObject.{ThreadObject}
use Rattle.c_program.specs.declared.tree.BarrierObject.{BarrierObject}
use Rattle.c_program.specs.Tree.{Function, GlobalVariable, Program}
use Rattle.c_program.specs.Calls.{calls_of}
use Rattle.c_program.specs.Resolved.{IsMain, IsFunction, IfStartRoutine, IsGlobal, IsMutexObject, IsRoutineAt, IsCreated}
use Rattle.c_rules.specs.declared.findings.Creation.{Creation}
use Rattle.c_rules.specs.declared.findings.Findings.{Findings}
use Rattle.c_resolved_program.specs.Orders.{IsFoundCall}

-- the calls of each function are found, and it calls functions of the program
pub record IsFound (functions : List Function) (found : Findings) (number : ℕ) (code : Function) : Type 0 where
  pub calls : (callee : ℕ) → Contains (calls_of code.body) callee → IsFoundCall found number callee
  pub inside : (callee : ℕ) → Contains (calls_of code.body) callee → callee < length functions

-- an object of POSIX threads as it is declared: no create has given it a routine
pub record IsDeclaredThread (object : ThreadObject) : Type 0 where
  pub not_empty : 0 < object.length
  pub no_routine : object.routine ≡ None

-- the declarations of the program are in order one by one, and what is found of their calls and creates is theirs
pub record IsGathered (P : Program) (objects : List ThreadObject) (found : Findings) : Type 0 where
  pub main : IsMain P
  pub functions : AllByRecursion (IsFunction P) P.functions
  pub start_routines : AllByRecursion (λ (f : Function). IfStartRoutine f f.returns) P.functions
  pub bodies : (number : ℕ) (code : Function) → slice_get P.functions number ≡ Some code → IsFound P.functions found number code
  pub globals : AllByRecursion IsGlobal P.globals
  pub threads : AllByRecursion IsDeclaredThread objects
  pub mutexes : AllByRecursion IsMutexObject P.mutexes
  pub barriers : AllByRecursion (λ (object : BarrierObject). 0 < object.length) P.barriers
  pub routines : (c : Creation) → Contains found.creations c → IsRoutineAt (slice_get P.functions c.routine)
  pub creations : (c : Creation) → Contains found.creations c → IsCreated P c.thread c.routine
  pub function_names : IsDistinct (pointwise nat_eq) (map (λ (f : Function). f.name) P.functions)
  pub global_names : IsDistinct (pointwise nat_eq) (map (λ (g : GlobalVariable). g.name) P.globals)
