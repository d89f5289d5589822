-- The function that the threads of a generated program run, statement for statement (C99 6.5, 6.7, 6.8; POSIX
-- pthread_mutex_lock). Places in the text are left open: a function gives the offset of each statement, by its number in order.
use Rattle.std.specs.Prelude.{◌≡◌, ℕ, List, [], ◌∷◌, ◌++◌, Some, pos}
use Rattle.hls_ints.specs.Types.{int_type, unsigned_int, long_int}
use Rattle.generated_text.specs.declared.draws.Letter.{Letter}
use Rattle.generated_text.specs.declared.draws.Letter.TheVariants.{A, B, C, D}
use Rattle.generated_text.specs.declared.draws.Kind.{Kind}
use Rattle.generated_text.specs.declared.draws.Kind.TheVariants.{Sum, Difference, Product, ExclusiveOr, Quotient, Raise, Publish, Add as AddLine}
use Rattle.generated_text.specs.declared.draws.Line.{Line}
use Rattle.c_program.specs.declared.tree.Storage.TheVariants.{Automatic, Static}
use Rattle.c_program.specs.declared.tree.BinaryOperator.{BinaryOperator}
use Rattle.c_program.specs.declared.tree.BinaryOperator.TheVariants as operator
use Rattle.c_program.specs.declared.tree.LocalVariable.{LocalVariable}
use Rattle.c_program.specs.declared.tree.ReturnType.TheVariants.{Pointer}
use Rattle.c_program.specs.Tree.{Expression, Place, ObjectPlace, ThreadCall, Statement, Function}
use Rattle.c_program.specs.Resolved.{scalar}

-- the statements that stand side by side in one, in their order, however they are joined
abbrev pub side_by_side : Statement → List Statement
side_by_side Statement.Done = []
side_by_side (Statement.Sequence first rest) = side_by_side first ++ side_by_side rest
side_by_side statement = statement ∷ []

abbrev pub int_number : ℕ → Expression
int_number n = Expression.Constant int_type (pos n)

-- ---- the locals: arg, id, a, b, c, d

abbrev pub worker_locals : List LocalVariable
worker_locals =
    scalar long_int ∷ scalar long_int
    ∷ scalar unsigned_int ∷ scalar unsigned_int ∷ scalar unsigned_int ∷ scalar unsigned_int ∷ []

abbrev pub local_of : Letter → ℕ
local_of A = 2
local_of B = 3
local_of C = 4
local_of D = 5

abbrev pub variable : Letter → Expression
variable x = Expression.Variable Automatic (local_of x) unsigned_int

abbrev pub argument : Expression
argument = Expression.Variable Automatic 0 long_int

abbrev pub id : Expression
id = Expression.Variable Automatic 1 long_int

abbrev pub assigned : ℕ → Letter → Expression → Statement
assigned offset x e = Statement.Assign offset (Place.Scalar Automatic (local_of x) unsigned_int) e

abbrev pub unsigned_binary : BinaryOperator → Expression → Expression → Expression
unsigned_binary operator e f = Expression.Binary operator unsigned_int e f

-- ---- what the threads share: s, g and m

-- g[id], by the number of threads
abbrev pub own_element : ℕ → Expression
own_element threads = Expression.Element Static 1 threads unsigned_int id

-- g[id] = e;
abbrev pub published : ℕ → ℕ → Expression → Statement
published threads offset e = Statement.Assign offset (Place.Element Static 1 threads unsigned_int id) e

-- s += e;
abbrev pub added : ℕ → Expression → Statement
added offset e = Statement.Update offset (Place.Scalar Static 0 unsigned_int) operator.Add unsigned_int e

abbrev pub locked : ℕ → Statement
locked offset = Statement.Thread offset (ThreadCall.MutexLock (ObjectPlace.Single 0))

abbrev pub unlocked : ℕ → Statement
unlocked offset = Statement.Thread offset (ThreadCall.MutexUnlock (ObjectPlace.Single 0))

-- ---- the lines

-- if (y < z) { x = x + 1; }
abbrev pub raised : (ℕ → ℕ) → Letter → Letter → Letter → Statement
raised at x y z =
    Statement.If (Statement.Test (at 0) (unsigned_binary operator.Less (variable y) (variable z)))
    (Statement.Block (assigned (at 1) x (unsigned_binary operator.Add (variable x) (int_number 1))))
    Statement.Done

abbrev pub kind_statements : ℕ → (ℕ → ℕ) → Kind → Letter → Letter → Letter → List Statement
kind_statements threads at Sum x y z = assigned (at 0) x (unsigned_binary operator.Add (variable y) (variable z)) ∷ []
kind_statements threads at Difference x y z = assigned (at 0) x (unsigned_binary operator.Subtract (variable y) (variable z)) ∷ []
kind_statements threads at Product x y z = assigned (at 0) x (unsigned_binary operator.Multiply (variable y) (variable z)) ∷ []
kind_statements threads at ExclusiveOr x y z = assigned (at 0) x (unsigned_binary operator.ExclusiveOr (variable y) (variable z)) ∷ []
kind_statements threads at Quotient x y z =
    assigned (at 0) x
    (unsigned_binary operator.Divide (variable y) (unsigned_binary operator.InclusiveOr (variable z) (int_number 1))) ∷ []
kind_statements threads at Raise x y z = raised at x y z ∷ []
kind_statements threads at Publish x y z = published threads (at 0) (variable x) ∷ []
kind_statements threads at AddLine x y z = locked (at 0) ∷ added (at 1) (variable x) ∷ unlocked (at 2) ∷ []

abbrev pub line_statements : ℕ → (ℕ → ℕ) → Line → List Statement
line_statements threads at line = kind_statements threads at line.kind line.target line.left line.right

-- these are the statements of these lines
abbrev pub AreLines : ℕ → List Line → List Statement → Type 0
AreLines threads [] statements = statements ≡ []
AreLines threads (line ∷ lines) statements =
    (at : ℕ → ℕ) × (rest : List Statement) × (statements ≡ line_statements threads at line ++ rest) × AreLines threads lines rest

-- ---- the whole

-- long id = (long)arg; unsigned a = (unsigned)id + 1, b = 2, c = 3, d = 4;
abbrev pub opening : (ℕ → ℕ) → List Statement
opening at =
    Statement.Assign (at 0) (Place.Scalar Automatic 1 long_int) (Expression.Cast long_int argument)
    ∷ assigned (at 1) A (unsigned_binary operator.Add (Expression.Cast unsigned_int id) (int_number 1))
    ∷ assigned (at 2) B (int_number 2)
    ∷ assigned (at 3) C (int_number 3)
    ∷ assigned (at 4) D (int_number 4)
    ∷ []

-- a ^ b ^ c ^ d
abbrev pub mixed : Expression
mixed =
    unsigned_binary operator.ExclusiveOr
    (unsigned_binary operator.ExclusiveOr
    (unsigned_binary operator.ExclusiveOr (variable A) (variable B))
    (variable C))
    (variable D)

-- what becomes of the variables, and the return of NULL
abbrev pub closing : ℕ → (ℕ → ℕ) → List Statement
closing threads at =
    published threads (at 5) mixed
    ∷ locked (at 6)
    ∷ added (at 7) (own_element threads)
    ∷ unlocked (at 8)
    ∷ Statement.Return (at 9) (Some (Expression.Constant long_int (pos 0)))
    ∷ []

pub record IsWorker (threads : ℕ) (lines : List Line) (f : Function) : Type 0 where
  pub returns : f.returns ≡ Pointer
  pub parameters : f.parameters ≡ 1
  pub locals : f.locals ≡ worker_locals
  pub at : ℕ → ℕ
  pub middle : List Statement
  pub of_lines : AreLines threads lines middle
  pub body : side_by_side f.body ≡ opening at ++ middle ++ closing threads at
