-- How many hardware threads name a global: those whose function does, or one that it calls, or one that that calls, and so on. A name counts also
-- in a statement that is never reached; what a thread creates counts for the thread that is created alone.
use Rattle.std.specs.Prelude.{◌≡◌, ◌<◌, ◌≤◌, ℕ, Bool, nat_eq, nat_lt, List, [], ◌∷◌, ◌++◌, length, filter, sum_by, Option, Some, None, slice_get}
use Rattle.std.specs.List.{flat_map}
use Rattle.c_program.specs.declared.tree.Storage.{Storage}
use Rattle.c_program.specs.declared.tree.Storage.TheVariants.{Automatic, Static}
use Rattle.c_program.specs.Tree.{Expression, Place, ObjectPlace, ThreadCall, Statement, Function, Program}
use Rattle.c_program.specs.Weight.{inlined, thread_count, hardware_routines}
use Rattle.bank_partition.specs.Counts.{one_if}

-- the globals that each names, once for each time, in the order of the text

abbrev pub variable_globals : Storage → ℕ → List ℕ
variable_globals Automatic variable = []
variable_globals Static variable = variable ∷ []

abbrev pub expression_globals : Expression → List ℕ
expression_globals (Expression.Constant ty number) = []
expression_globals (Expression.Variable storage variable ty) = variable_globals storage variable
expression_globals (Expression.Element storage variable length ty index) = variable_globals storage variable ++ expression_globals index
expression_globals (Expression.Row outer outer_length inner inner_length) = expression_globals outer ++ expression_globals inner
expression_globals (Expression.Unary operator ty operand) = expression_globals operand
expression_globals (Expression.Binary operator ty left right) = expression_globals left ++ expression_globals right
expression_globals (Expression.Cast ty operand) = expression_globals operand
expression_globals (Expression.Kept slot ty) = []

abbrev pub expressions_globals : List Expression → List ℕ
expressions_globals list = flat_map expression_globals list

abbrev pub place_globals : Place → List ℕ
place_globals (Place.Scalar storage variable ty) = variable_globals storage variable
place_globals (Place.Element storage variable length ty index) = variable_globals storage variable ++ expression_globals index

abbrev pub object_globals : ObjectPlace → List ℕ
object_globals (ObjectPlace.Single object) = []
object_globals (ObjectPlace.Element object length index) = expression_globals index

abbrev pub returned_globals : Option Expression → List ℕ
returned_globals None = []
returned_globals (Some right) = expression_globals right

abbrev pub thread_call_globals : ThreadCall → List ℕ
thread_call_globals (ThreadCall.Create thread routine argument) = object_globals thread ++ expression_globals argument
thread_call_globals (ThreadCall.Join thread) = object_globals thread
thread_call_globals (ThreadCall.MutexInit mutex) = object_globals mutex
thread_call_globals (ThreadCall.MutexDestroy mutex) = object_globals mutex
thread_call_globals (ThreadCall.MutexLock mutex) = object_globals mutex
thread_call_globals (ThreadCall.MutexUnlock mutex) = object_globals mutex
thread_call_globals (ThreadCall.BarrierInit barrier count) = object_globals barrier ++ expression_globals count
thread_call_globals (ThreadCall.BarrierDestroy barrier) = object_globals barrier
thread_call_globals (ThreadCall.BarrierWait barrier) = object_globals barrier

-- a call without the callee
abbrev pub statement_globals : Statement → List ℕ
statement_globals Statement.Done = []
statement_globals (Statement.Sequence first rest) = statement_globals first ++ statement_globals rest
statement_globals Statement.Empty = []
statement_globals (Statement.Block body) = statement_globals body
statement_globals (Statement.Declare offset local operators) = []
statement_globals (Statement.Assign offset place right) = place_globals place ++ expression_globals right
statement_globals (Statement.Update offset place operator ty right) = place_globals place ++ expression_globals right
statement_globals (Statement.Call offset into function arguments) = expressions_globals arguments
statement_globals (Statement.Keep offset slot ty operand) = expression_globals operand
statement_globals (Statement.Truth slot condition) = statement_globals condition
statement_globals (Statement.Test offset operand) = expression_globals operand
statement_globals (Statement.Both first second) = statement_globals first ++ statement_globals second
statement_globals (Statement.Either first second) = statement_globals first ++ statement_globals second
statement_globals (Statement.Opposite inner) = statement_globals inner
statement_globals (Statement.If condition consequent alternative) =
    statement_globals condition ++ (statement_globals consequent ++ statement_globals alternative)
statement_globals (Statement.While condition body) = statement_globals condition ++ statement_globals body
statement_globals (Statement.DoWhile body condition) = statement_globals body ++ statement_globals condition
statement_globals (Statement.For first condition last body) =
    statement_globals first ++ (statement_globals condition ++ (statement_globals last ++ statement_globals body))
statement_globals (Statement.Switch offset ty operand body) = expression_globals operand ++ statement_globals body
statement_globals (Statement.Label value operators) = []
statement_globals Statement.Break = []
statement_globals Statement.Continue = []
statement_globals (Statement.Return offset right) = returned_globals right
statement_globals (Statement.Print offset format arguments) = expressions_globals arguments
statement_globals (Statement.Thread offset call) = thread_call_globals call

-- how often a function names the global x, without those that it calls
abbrev pub mentions : ℕ → Function → ℕ
mentions x function = length (filter (nat_eq x) (statement_globals function.body))

-- whether the function f names the global x, or one that is inlined in it does
abbrev pub names_global : Program → ℕ → ℕ → Bool
names_global P x f = nat_lt 0 (inlined (mentions x) P.functions (length P.functions) f)

-- of a hardware thread that runs this, or nothing
abbrev pub runner_names : Program → ℕ → Option ℕ → ℕ
runner_names P x None = 0
runner_names P x (Some f) = one_if (names_global P x f)

-- how many hardware threads name the global x
abbrev pub naming_threads : Program → ℕ → ℕ
naming_threads P x = sum_by (runner_names P x) (hardware_routines P)

-- NO MORE THAN THREADS
abbrev pub NoMoreThanThreads : Type 0
NoMoreThanThreads = (P : Program) (x : ℕ) → naming_threads P x ≤ thread_count P

-- for each global how many hardware threads name it
pub record AreCounts (P : Program) (counts : List ℕ) : Type 0 where
  pub count : length counts ≡ length P.globals
  pub each : (x : ℕ) → x < length P.globals → slice_get counts x ≡ Some (naming_threads P x)
