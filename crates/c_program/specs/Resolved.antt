-- What name resolution gives, and what the meaning and the lowering of a program rest on.
use Rattle.std.specs.Prelude.{◌≡◌, ◌≢◌, ℕ, ◌<◌, ◌≤◌, ◌+◌, Bool, true, false, ◌&&◌, ◌||◌, nat_eq, nat_le, List, [], ◌∷◌, ◌++◌, length, map}
use Rattle.std.specs.Prelude.{count_by, is_some, ℤ, pos, Option, Some, None, slice_get, IsTrue, Contains, ⊤}
use Rattle.std.specs.List.{AllByRecursion, IsDistinct}
use Rattle.std.specs.Cmp.Lexicographic.{pointwise}
use Rattle.hls_ints.specs.Types.{IntegerType, HasType, promoted, int_type, long_int, unsigned_long}
use Rattle.c_program.specs.declared.tree.Storage.{Storage}
use Rattle.c_program.specs.declared.tree.Storage.TheVariants.{Automatic, Static}
use Rattle.c_program.specs.declared.tree.BinaryOperator.{BinaryOperator}
use Rattle.c_program.specs.declared.tree.BinaryOperator.TheVariants.{Less, Greater, LessEqual, GreaterEqual, Equal, NotEqual}
use Rattle.c_program.specs.declared.tree.LocalVariable.{LocalVariable}
use Rattle.c_program.specs.declared.tree.ReturnType.{ReturnType}
use Rattle.c_program.specs.declared.tree.ReturnType.TheVariants.{Void, Integer, Pointer}
use Rattle.c_program.specs.declared.tree.ThreadObject.{ThreadObject}
use Rattle.c_program.specs.declared.tree.MutexObject.{MutexObject}
use Rattle.c_program.specs.declared.tree.BarrierObject.{BarrierObject}
use Rattle.c_program.specs.Tree.{Expression, Place, ObjectPlace, ThreadCall, Piece, Statement, Function, GlobalVariable, Program}
use Rattle.c_program.specs.Types.{type_of, working_type}
use Rattle.c_program.specs.Calls.{IsAcyclic}
use Rattle.c_program.specs.Weight.{statement_weight}

-- a declared object: the type of its elements, and their number
abbrev pub global_object : Option GlobalVariable → Option LocalVariable
global_object None = None
global_object (Some g) = Some (record { ty = g.ty; length = g.length })

-- the object of that storage and number that the function sees
abbrev pub declared : Program → Function → Storage → ℕ → Option LocalVariable
declared P f Automatic variable = slice_get f.locals variable
declared P f Static variable = global_object (slice_get P.globals variable)

abbrev pub IsObject : Program → Function → Storage → ℕ → ℕ → IntegerType → Type 0
IsObject P f storage variable length ty = declared P f storage variable ≡ Some (record { ty = ty; length = length })

abbrev pub scalar : IntegerType → LocalVariable
scalar ty = record { ty = ty; length = 1 }

-- a local that keeps values, each as a long
pub record IsSlot (f : Function) (slot : ℕ) : Type 0 where
  pub behind : f.declared_locals ≤ slot
  pub local : slice_get f.locals slot ≡ Some (scalar long_int)

abbrev pub IsSlotIfAny : Function → Option ℕ → Type 0
IsSlotIfAny f None = ⊤
IsSlotIfAny f (Some slot) = IsSlot f slot

-- each variable is declared as it says, each constant is of its type, each operator works in the type that its
-- operands give
abbrev pub IsExpression : Program → Function → Expression → Type 0
IsExpression P f (Expression.Constant ty number) = HasType ty number
IsExpression P f (Expression.Variable storage variable ty) = IsObject P f storage variable 1 ty
IsExpression P f (Expression.Element storage variable length ty index) =
    IsObject P f storage variable length ty × IsExpression P f index
IsExpression P f (Expression.Row outer outer_length inner inner_length) =
    IsExpression P f outer × IsExpression P f inner × HasType unsigned_long (pos inner_length)
IsExpression P f (Expression.Unary operator ty operand) = (ty ≡ promoted (type_of operand)) × IsExpression P f operand
IsExpression P f (Expression.Binary operator ty left right) =
    (ty ≡ working_type operator (type_of left) (type_of right)) × IsExpression P f left × IsExpression P f right
IsExpression P f (Expression.Cast ty operand) = IsExpression P f operand
IsExpression P f (Expression.Kept slot ty) = IsSlot f slot

abbrev pub AreExpressions : Program → Function → List Expression → Type 0
AreExpressions P f list = AllByRecursion (IsExpression P f) list

abbrev pub IsPlace : Program → Function → Place → Type 0
IsPlace P f (Place.Scalar storage variable ty) = IsObject P f storage variable 1 ty
IsPlace P f (Place.Element storage variable length ty index) =
    IsObject P f storage variable length ty × IsExpression P f index

abbrev pub place_type : Place → IntegerType
place_type (Place.Scalar storage variable ty) = ty
place_type (Place.Element storage variable length ty index) = ty

abbrev pub is_integer : ReturnType → Bool
is_integer Void = false
is_integer (Integer ty) = true
is_integer Pointer = false

abbrev pub is_pointer : ReturnType → Bool
is_pointer Void = false
is_pointer (Integer ty) = false
is_pointer Pointer = true

-- a call of a function that is neither main nor a start routine, with an argument for each parameter
pub record IsCall (P : Program) (f : Function) (callee : ℕ) (arguments : List Expression) : Type 0 where
  pub code : Function
  pub found : slice_get P.functions callee ≡ Some code
  pub not_main : callee ≢ P.main
  pub not_routine : is_pointer code.returns ≡ false
  pub count : length arguments ≡ code.parameters
  pub passed : AreExpressions P f arguments

-- a call whose value is kept, of a function that returns one, or dropped
pub record IsKeptCall (P : Program) (f : Function) (into : Option ℕ) (callee : ℕ) (arguments : List Expression) : Type 0 where
  pub call : IsCall P f callee arguments
  pub slot : IsSlotIfAny f into
  pub gives : is_some into ≡ true → is_integer call.code.returns ≡ true

-- a void function returns no value, every other function a value
abbrev pub IsReturn : Program → Function → ReturnType → Option Expression → Type 0
IsReturn P f Void None = ⊤
IsReturn P f Void (Some right) = ⊥
IsReturn P f (Integer ty) None = ⊥
IsReturn P f (Integer ty) (Some right) = IsExpression P f right
IsReturn P f Pointer None = ⊥
IsReturn P f Pointer (Some right) = IsExpression P f right

-- a place among objects that have these numbers of elements
abbrev pub IsObjectPlace : Program → Function → (ℕ → Option ℕ) → ObjectPlace → Type 0
IsObjectPlace P f length_at (ObjectPlace.Single object) = length_at object ≡ Some 1
IsObjectPlace P f length_at (ObjectPlace.Element object length index) =
    (length_at object ≡ Some length) × IsExpression P f index

abbrev pub object_of : ObjectPlace → ℕ
object_of (ObjectPlace.Single object) = object
object_of (ObjectPlace.Element object length index) = object

abbrev pub thread_length : Option ThreadObject → Option ℕ
thread_length None = None
thread_length (Some object) = Some object.length

abbrev pub mutex_length : Option MutexObject → Option ℕ
mutex_length None = None
mutex_length (Some object) = Some object.length

abbrev pub barrier_length : Option BarrierObject → Option ℕ
barrier_length None = None
barrier_length (Some object) = Some object.length

abbrev pub IsThread : Program → Function → ObjectPlace → Type 0
IsThread P f place = IsObjectPlace P f (λ x. thread_length (slice_get P.threads x)) place

abbrev pub IsMutex : Program → Function → ObjectPlace → Type 0
IsMutex P f place = IsObjectPlace P f (λ x. mutex_length (slice_get P.mutexes x)) place

abbrev pub IsBarrier : Program → Function → ObjectPlace → Type 0
IsBarrier P f place = IsObjectPlace P f (λ x. barrier_length (slice_get P.barriers x)) place

-- the object keeps the routine that a create names for it
abbrev pub HasRoutine : Option ThreadObject → ℕ → Type 0
HasRoutine None routine = ⊥
HasRoutine (Some object) routine = object.routine ≡ Some routine

abbrev pub IsThreadCall : Program → Function → ThreadCall → Type 0
IsThreadCall P f (ThreadCall.Create thread routine argument) =
    IsThread P f thread × HasRoutine (slice_get P.threads (object_of thread)) routine × IsExpression P f argument
IsThreadCall P f (ThreadCall.Join thread) = IsThread P f thread
IsThreadCall P f (ThreadCall.MutexInit mutex) = IsMutex P f mutex
IsThreadCall P f (ThreadCall.MutexDestroy mutex) = IsMutex P f mutex
IsThreadCall P f (ThreadCall.MutexLock mutex) = IsMutex P f mutex
IsThreadCall P f (ThreadCall.MutexUnlock mutex) = IsMutex P f mutex
IsThreadCall P f (ThreadCall.BarrierInit barrier count) = IsBarrier P f barrier × IsExpression P f count
IsThreadCall P f (ThreadCall.BarrierDestroy barrier) = IsBarrier P f barrier
IsThreadCall P f (ThreadCall.BarrierWait barrier) = IsBarrier P f barrier

-- a byte that may stand in a printf's text once its escapes are read: 0x20 to 0x7E, tab and line feed
abbrev pub is_text_byte : ℕ → Bool
is_text_byte byte = nat_eq byte 9 || nat_eq byte 10 || (nat_le 32 byte && nat_le byte 126)

abbrev pub IsPiece : Piece → Type 0
IsPiece (Piece.Text bytes) = AllByRecursion (λ byte. IsTrue (is_text_byte byte)) bytes
IsPiece (Piece.Conversion ty) = ⊤

abbrev pub is_conversion : Piece → Bool
is_conversion (Piece.Text bytes) = false
is_conversion (Piece.Conversion ty) = true

-- printf with at most 4 values, as many as its format converts
pub record IsPrint (P : Program) (f : Function) (format : List Piece) (arguments : List Expression) : Type 0 where
  pub pieces : AllByRecursion IsPiece format
  pub count : count_by is_conversion format ≡ length arguments
  pub most : length arguments ≤ 4
  pub passed : AreExpressions P f arguments

abbrev pub is_comparison : BinaryOperator → Bool
is_comparison Less = true
is_comparison Greater = true
is_comparison LessEqual = true
is_comparison GreaterEqual = true
is_comparison Equal = true
is_comparison NotEqual = true
is_comparison operator = false

-- a compound assignment, whose operator is no comparison
pub record IsUpdate (P : Program) (f : Function) (place : Place) (operator : BinaryOperator) (ty : IntegerType) (right : Expression) : Type 0 where
  pub compound : is_comparison operator ≡ false
  pub works_in : ty ≡ working_type operator (place_type place) (type_of right)
  pub target : IsPlace P f place
  pub operand : IsExpression P f right

-- && or ||
abbrev pub IsJoined : Statement → Type 0
IsJoined (Statement.Both first second) = ⊤
IsJoined (Statement.Either first second) = ⊤
IsJoined statement = ⊥

-- what stands before the step of an operand, and a condition
abbrev mutual
  pub IsCut : Program → Function → Statement → Type 0
  IsCut P f Statement.Done = ⊤
  IsCut P f (Statement.Sequence first rest) = IsCut P f first × IsCut P f rest
  IsCut P f (Statement.Call offset (Some slot) callee arguments) = IsKeptCall P f (Some slot) callee arguments
  IsCut P f (Statement.Keep offset slot ty operand) = IsSlot f slot × IsExpression P f operand
  IsCut P f (Statement.Truth slot condition) = IsSlot f slot × IsJoined condition × IsCondition P f condition
  IsCut P f (Statement.If condition consequent alternative) =
      IsCondition P f condition × IsCut P f consequent × IsCut P f alternative
  IsCut P f statement = ⊥

  pub IsCondition : Program → Function → Statement → Type 0
  IsCondition P f (Statement.Sequence first rest) = IsCut P f first × IsCondition P f rest
  IsCondition P f (Statement.Test offset operand) = IsExpression P f operand
  IsCondition P f (Statement.Both first second) = IsCondition P f first × IsCondition P f second
  IsCondition P f (Statement.Either first second) = IsCondition P f first × IsCondition P f second
  IsCondition P f (Statement.Opposite inner) = IsCondition P f inner
  IsCondition P f statement = ⊥

-- what stands round a statement: the type of the switch whose label it may be, and whether break and continue may stand there
pub record Around : Type 0 where
  pub labels : Option IntegerType
  pub leaves : Bool
  pub turns : Bool

abbrev pub nowhere : Around
nowhere = record { labels = None; leaves = false; turns = false }

abbrev pub in_loop : Around
in_loop = record { labels = None; leaves = true; turns = true }

abbrev pub in_switch : IntegerType → Around → Around
in_switch ty a = record { labels = Some ty; leaves = true; turns = a.turns }

abbrev pub within : Around → Around
within a = record a { labels = None }

abbrev pub IsLabel : Option IntegerType → Option ℤ → Type 0
IsLabel None value = ⊥
IsLabel (Some ty) None = ⊤
IsLabel (Some ty) (Some value) = HasType ty value

abbrev pub IsStatement : Program → Function → Around → Statement → Type 0
IsStatement P f a Statement.Done = ⊤
IsStatement P f a (Statement.Sequence first rest) = IsStatement P f a first × IsStatement P f a rest
IsStatement P f a Statement.Empty = ⊤
IsStatement P f a (Statement.Block body) = IsStatement P f (within a) body
IsStatement P f a (Statement.Declare offset local operators) = local < length f.locals
IsStatement P f a (Statement.Assign offset place right) = IsPlace P f place × IsExpression P f right
IsStatement P f a (Statement.Update offset place operator ty right) = IsUpdate P f place operator ty right
IsStatement P f a (Statement.Call offset into callee arguments) = IsKeptCall P f into callee arguments
IsStatement P f a (Statement.Keep offset slot ty operand) = IsCut P f (Statement.Keep offset slot ty operand)
IsStatement P f a (Statement.Truth slot condition) = IsCut P f (Statement.Truth slot condition)
IsStatement P f a (Statement.Test offset operand) = ⊥
IsStatement P f a (Statement.Both first second) = ⊥
IsStatement P f a (Statement.Either first second) = ⊥
IsStatement P f a (Statement.Opposite inner) = ⊥
IsStatement P f a (Statement.If condition consequent alternative) =
    IsCondition P f condition × IsStatement P f (within a) consequent × IsStatement P f (within a) alternative
IsStatement P f a (Statement.While condition body) = IsCondition P f condition × IsStatement P f in_loop body
IsStatement P f a (Statement.DoWhile body condition) = IsStatement P f in_loop body × IsCondition P f condition
IsStatement P f a (Statement.For first condition last body) =
    IsStatement P f nowhere first × IsCondition P f condition × IsStatement P f nowhere last × IsStatement P f in_loop body
IsStatement P f a (Statement.Switch offset ty operand body) =
    (ty ≡ promoted (type_of operand)) × IsExpression P f operand × IsStatement P f (in_switch ty a) body
IsStatement P f a (Statement.Label value operators) = IsLabel a.labels value
IsStatement P f a Statement.Break = IsTrue a.leaves
IsStatement P f a Statement.Continue = IsTrue a.turns
IsStatement P f a (Statement.Return offset right) = IsReturn P f f.returns right
IsStatement P f a (Statement.Print offset format arguments) = IsPrint P f format arguments
IsStatement P f a (Statement.Thread offset call) = IsThreadCall P f call

-- a letter or _, then letters, digits and _ (6.4.2)
abbrev pub is_letter : ℕ → Bool
is_letter byte = (nat_le 65 byte && nat_le byte 90) || (nat_le 97 byte && nat_le byte 122) || nat_eq byte 95

abbrev pub is_letter_or_digit : ℕ → Bool
is_letter_or_digit byte = is_letter byte || (nat_le 48 byte && nat_le byte 57)

abbrev pub IsName : List ℕ → Type 0
IsName [] = ⊥
IsName (first ∷ rest) = IsTrue (is_letter first) × AllByRecursion (λ byte. IsTrue (is_letter_or_digit byte)) rest

pub record IsFunction (P : Program) (f : Function) : Type 0 where
  pub name : IsName f.name
  pub parameters : f.parameters ≤ f.declared_locals
  pub declared_ : f.declared_locals ≤ length f.locals
  pub slots : (k : ℕ) (l : LocalVariable) → f.declared_locals ≤ k → slice_get f.locals k ≡ Some l → l ≡ scalar long_int
  -- there are no more locals that keep values than what there is to keep (a printf has at most 4 values)
  pub few : length f.locals ≤ f.declared_locals + (statement_weight f.body + 3)
  pub scalars : (k : ℕ) (l : LocalVariable) → k < f.parameters → slice_get f.locals k ≡ Some l → l.length ≡ 1
  pub lengths : AllByRecursion (λ (l : LocalVariable). 0 < l.length) f.locals
  pub body : IsStatement P f nowhere f.body

pub record IsGlobal (g : GlobalVariable) : Type 0 where
  pub name : IsName g.name
  pub not_empty : 0 < g.length
  pub given : length g.initial ≤ g.length
  pub initial : AllByRecursion (HasType g.ty) g.initial

-- a function of a pointer to a pointer, whose parameter is seen as a long
pub record IsStartRoutine (f : Function) : Type 0 where
  pub returns : f.returns ≡ Pointer
  pub parameters : f.parameters ≡ 1
  pub parameter : slice_get f.locals 0 ≡ Some (scalar long_int)

abbrev pub IfStartRoutine : Function → ReturnType → Type 0
IfStartRoutine f Void = ⊤
IfStartRoutine f (Integer ty) = ⊤
IfStartRoutine f Pointer = IsStartRoutine f

-- the function main: it takes nothing and returns an int
pub record IsMain (P : Program) : Type 0 where
  pub code : Function
  pub found : slice_get P.functions P.main ≡ Some code
  pub returns : code.returns ≡ Integer int_type
  pub parameters : code.parameters ≡ 0

abbrev pub IsRoutineAt : Option Function → Type 0
IsRoutineAt None = ⊥
IsRoutineAt (Some f) = IsStartRoutine f

-- the creates of a statement: the numbers of the thread object and of the routine
abbrev pub creates_of : Statement → List (ℕ × ℕ)
creates_of (Statement.Sequence first rest) = creates_of first ++ creates_of rest
creates_of (Statement.Block body) = creates_of body
creates_of (Statement.If condition consequent alternative) = creates_of consequent ++ creates_of alternative
creates_of (Statement.While condition body) = creates_of body
creates_of (Statement.DoWhile body condition) = creates_of body
creates_of (Statement.For first condition last body) = creates_of first ++ (creates_of last ++ creates_of body)
creates_of (Statement.Switch offset ty operand body) = creates_of body
creates_of (Statement.Thread offset (ThreadCall.Create thread routine argument)) = (object_of thread, routine) ∷ []
creates_of statement = []

-- some create names the routine for the thread object of that number
pub record IsCreated (P : Program) (object routine : ℕ) : Type 0 where
  pub creator : Function
  pub found : Contains P.functions creator
  pub created : Contains (creates_of creator.body) (object, routine)

-- a pthread_t object, whose routine, if it has one, is a start routine that a create names
pub record IsThreadObject (P : Program) (number : ℕ) (object : ThreadObject) : Type 0 where
  pub not_empty : 0 < object.length
  pub routine : (r : ℕ) → object.routine ≡ Some r → IsRoutineAt (slice_get P.functions r)
  pub created : (r : ℕ) → object.routine ≡ Some r → IsCreated P number r

-- a pthread_mutex_t object; one that is initialised where it is declared is no array
pub record IsMutexObject (object : MutexObject) : Type 0 where
  pub not_empty : 0 < object.length
  pub initialised : object.initialised ≡ true → object.length ≡ 1

-- what holds of each program that a text spells
pub record IsResolved (P : Program) : Type 0 where
  pub main : IsMain P
  pub functions : AllByRecursion (IsFunction P) P.functions
  pub start_routines : AllByRecursion (λ (f : Function). IfStartRoutine f f.returns) P.functions
  pub globals : AllByRecursion IsGlobal P.globals
  pub threads : (number : ℕ) (object : ThreadObject) → slice_get P.threads number ≡ Some object → IsThreadObject P number object
  pub mutexes : AllByRecursion IsMutexObject P.mutexes
  pub barriers : AllByRecursion (λ (object : BarrierObject). 0 < object.length) P.barriers
  pub acyclic : IsAcyclic P.functions
  pub function_names : IsDistinct (pointwise nat_eq) (map (λ (f : Function). f.name) P.functions)
  pub global_names : IsDistinct (pointwise nat_eq) (map (λ (g : GlobalVariable). g.name) P.globals)
