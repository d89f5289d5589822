-- The codes of thread functions: what they are made of, and what they need.
use Rattle.std.specs.Prelude.{◌≡◌, ℕ, if◌then◌else◌, nat_eq, List, Option, Some, None, slice_get, ◌+◌, ◌*◌}
use Rattle.c_program.specs.declared.tree.Function.{Function as FunctionTree}
use Rattle.c_program.specs.declared.tree.Program.{Program as ProgramTree}
use Rattle.c_program.specs.Plain.{program_of, statement_of}
use Rattle.c_program.specs.Tree.{Program}
use Rattle.block_ir.specs.declared.code.ThreadCode.{ThreadCode}
use Rattle.code_blocks.specs.declared.homes.Home.{Home}
use Rattle.code_blocks.specs.declared.homes.Home.TheVariants as home
use Rattle.code_places.specs.declared.lowering.Lowering.{Lowering}
use Rattle.code_storage.specs.declared.rooms.Rooms.{Rooms}
use Rattle.code_storage.specs.Housing.{homes_in, IsHousing, AreNames}
use Rattle.code_storage.specs.Values.{all_values}
use Rattle.code_places.specs.Doing.{Leads, Proceeds, IsNew, Starts, IsFinished}
use Rattle.c_program.specs.Limits.{local_elements, print_sites, mutex_elements, barrier_elements}
use Rattle.c_program.specs.Resolved.{IsResolved}
use Rattle.c_program.specs.Weight.{function_weight, thread_count}
use Rattle.code_calls.specs.Calling.{Closes}

-- what the code of a thread function needs at most, with all calls inlined, and the numbers of objects
abbrev pub function_needs : Program → ℕ → ℕ
function_needs P f =
    19 * function_weight P.functions f + local_elements P.functions f + 4 + print_sites P + (thread_count P + mutex_elements P + barrier_elements P)

-- the variable that has the argument of a thread function: that of its one parameter, but main has none
abbrev pub variable_of : Option Home → Option ℕ
variable_of (Some (home.Variable n)) = Some n
variable_of (Some (home.Array a)) = None
variable_of None = None

abbrev pub argument_of : Program → ℕ → Rooms → Option ℕ
argument_of P f H = if nat_eq f P.main then None else variable_of (slice_get (homes_in H f) 0)

-- the code was made of the function of that number, step by step
pub record IsCodeOf (p : ProgramTree) (number : ℕ) (code : ThreadCode) : Type 0 where
  pub function : FunctionTree
  pub at : slice_get p.functions.items number ≡ Some function
  pub housing : Rooms
  pub housed : IsResolved (program_of p) → IsHousing (program_of p) number housing
  pub names : List (List ℕ)
  pub named : IsResolved (program_of p) → AreNames (program_of p) number housing names
  pub first : Lowering
  pub is_new : IsNew (program_of p) housing number (all_values (program_of p).functions) first
  pub start : ℕ
  pub begun : Lowering
  pub starts : Starts start first begun
  pub lowered : Lowering
  pub lowers : Leads (program_of p) None (statement_of function.body) begun lowered
  pub proceeds : Proceeds None begun lowered
  pub ended : Lowering
  pub closes : Closes lowered ended
  pub finished : IsFinished start (argument_of (program_of p) number housing) names ended code
