-- The operands of pthread calls, and the acts that have them.
use Rattle.std.specs.Prelude.{◌≡◌, ℕ, suc, ◌+◌, ◌*◌, ◌≤◌, List, [], ◌∷◌, ◌++◌, length, ℤ, pos}
use Rattle.hls_ints.specs.Types.{long_int}
use Rattle.c_program.specs.declared.tree.BinaryOperator.TheVariants.{Add}
use Rattle.c_program.specs.Tree.{Expression, ObjectPlace, ThreadCall}
use Rattle.c_program.specs.Resolved.{IsThreadCall, object_of}
use Rattle.c_program.specs.Weight.{thread_call_weight}
use Rattle.thread_semantics.specs.Memory.{Location, Memory, Gives}
use Rattle.thread_semantics.specs.Value.{values}
use Rattle.block_ir.specs.declared.block.Operation.{Operation}
use Rattle.block_ir.specs.declared.code.Act.{Act}
use Rattle.block_ir.specs.declared.code.Act.TheVariants as act
use Rattle.block_ir.specs.declared.code.ActOperand.{ActOperand}
use Rattle.block_ir.specs.declared.code.ActOperand.TheVariants as act_operand
use Rattle.block_ir.specs.Run.{Running, operations_run}
use Rattle.code_following.specs.Following.{AreValues}
use Rattle.code_storage.specs.declared.objects.Objects.{Objects}
use Rattle.code_blocks.specs.declared.homes.Home.{Home}
use Rattle.code_blocks.specs.declared.open_block.OpenBlock.{OpenBlock}
use Rattle.code_blocks.specs.Needs.{AreBelow}
use Rattle.code_blocks.specs.Evaluating.{Holds, Reads, held_by}
use Rattle.code_blocks.specs.Assigning.{HaveHomes, Spares}
use Rattle.code_blocks.specs.Closing.{HasNoted}
use Rattle.code_blocks.specs.Printing.{PutsValue}
use Rattle.code_blocks.specs.Typing.{Typing, HasWords, Works, WorksOnValue}
use Rattle.code_storage.specs.Objects.{AreObjects, first_in}
use Rattle.code_storage.specs.Values.{operand_count}

-- ---- operands

-- the object of a call
abbrev pub place_of : ThreadCall → ObjectPlace
place_of (ThreadCall.Create thread routine argument) = thread
place_of (ThreadCall.Join thread) = thread
place_of (ThreadCall.MutexInit mutex) = mutex
place_of (ThreadCall.MutexDestroy mutex) = mutex
place_of (ThreadCall.MutexLock mutex) = mutex
place_of (ThreadCall.MutexUnlock mutex) = mutex
place_of (ThreadCall.BarrierInit barrier count) = barrier
place_of (ThreadCall.BarrierDestroy barrier) = barrier
place_of (ThreadCall.BarrierWait barrier) = barrier

-- the argument of a create, and the count of a barrier
abbrev pub values_of : ThreadCall → List Expression
values_of (ThreadCall.Create thread routine argument) = argument ∷ []
values_of (ThreadCall.BarrierInit barrier count) = count ∷ []
values_of call = []

-- the numbers of the first elements of the objects of the call's kind
abbrev pub numbers_of : Objects → ThreadCall → List ℕ
numbers_of o (ThreadCall.Create thread routine argument) = o.threads
numbers_of o (ThreadCall.Join thread) = o.threads
numbers_of o (ThreadCall.MutexInit mutex) = o.mutexes
numbers_of o (ThreadCall.MutexDestroy mutex) = o.mutexes
numbers_of o (ThreadCall.MutexLock mutex) = o.mutexes
numbers_of o (ThreadCall.MutexUnlock mutex) = o.mutexes
numbers_of o (ThreadCall.BarrierInit barrier count) = o.barriers
numbers_of o (ThreadCall.BarrierDestroy barrier) = o.barriers
numbers_of o (ThreadCall.BarrierWait barrier) = o.barriers

abbrev pub first_of_call : Objects → ThreadCall → ℕ
first_of_call o call = first_in (numbers_of o call) (object_of (place_of call))

-- the number of an object whose first element has that number: the index is added to it
abbrev pub number_expression : ℕ → ObjectPlace → Expression
number_expression first (ObjectPlace.Single object) = Expression.Constant long_int (pos first)
number_expression first (ObjectPlace.Element object length index) =
    Expression.Binary Add long_int (Expression.Cast long_int index) (Expression.Constant long_int (pos first))

-- the operands of a call
abbrev pub operand_expressions : Objects → ThreadCall → List Expression
operand_expressions o call = number_expression (first_of_call o call) (place_of call) ∷ values_of call

-- the number of a single object is known; that of an element stands in the variable n
abbrev pub number_operand : ℕ → ℕ → ObjectPlace → ActOperand
number_operand n first (ObjectPlace.Single object) = act_operand.Constant long_int (pos first)
number_operand n first (ObjectPlace.Element object length index) = act_operand.Variable n long_int

-- ---- acts

-- the act of a call on an object, and with a value if it takes one
abbrev pub act_on : ThreadCall → ActOperand → ActOperand → Act
act_on (ThreadCall.Create thread routine argument) object value = act.Create object value
act_on (ThreadCall.Join thread) object value = act.Join object
act_on (ThreadCall.MutexInit mutex) object value = act.MutexInit object
act_on (ThreadCall.MutexDestroy mutex) object value = act.MutexDestroy object
act_on (ThreadCall.MutexLock mutex) object value = act.MutexLock object
act_on (ThreadCall.MutexUnlock mutex) object value = act.MutexUnlock object
act_on (ThreadCall.BarrierInit barrier count) object value = act.BarrierInit object value
act_on (ThreadCall.BarrierDestroy barrier) object value = act.BarrierDestroy object
act_on (ThreadCall.BarrierWait barrier) object value = act.BarrierWait object

-- the object's number, and behind it the value, if there is one
abbrev pub with_values : ActOperand → ActOperand → List Expression → List ActOperand
with_values object value [] = object ∷ []
with_values object value (e ∷ es) = object ∷ value ∷ []

-- the operands of a call whose values stand in the variables from n on, and its act
abbrev pub operands_at : ℕ → Objects → ThreadCall → List ActOperand
operands_at n o call = with_values (number_operand n (first_of_call o call) (place_of call)) (act_operand.Variable (suc n) long_int) (values_of call)

abbrev pub act_at : ℕ → Objects → ThreadCall → Act
act_at n o call = act_on call (number_operand n (first_of_call o call) (place_of call)) (act_operand.Variable (suc n) long_int)

-- ---- a block that makes operands ready

-- from r to s nothing is written and these globals are read, no local's variable changes, and the operands hold these values
pub record Prepared (homes : List Home) (before after : OpenBlock) (variables : ℕ → ℤ) (n : ℕ) (operands : List ActOperand) (m : Memory)
    (r s : Running) (vs : List ℤ) (ls : List Location) : Type 0 where
  pub reads : Reads r s ls
  pub holds : Holds homes after.current variables m s
  pub operands_ : AreValues (held_by after.current variables s.values) operands vs
  pub spares : Spares homes n (held_by before.current variables r.values) (held_by after.current variables s.values) r.arrays s.arrays

-- operations were added after which the operands hold what the expressions come to; no local has a variable from n on
pub record Prepares (homes : List Home) (n most : ℕ) (es : List Expression) (operands : List ActOperand) (old new : OpenBlock) : Type 0 where
  pub operations : List Operation
  pub added : new.operations ≡ old.operations ++ operations
  pub size : length new.current ≡ length old.current
  pub steps : new.steps ≡ old.steps
  pub noted : HasNoted old → HasNoted new
  pub below : AreBelow (length old.operations) old.current → AreBelow (length new.operations) new.current
  pub does : (variables : ℕ → ℤ) (r : Running) (m : Memory) (vs : List ℤ) (ls : List Location) →
      AreBelow (length old.operations) old.current → length r.values ≡ length old.operations → HaveHomes homes n m.locals →
      n + most ≤ length old.current → Holds homes old.current variables m r → values es m ≡ Gives vs ls →
      Prepared homes old new variables n operands m r (operations_run variables operations r) vs ls

-- the value of an expression is put into the variable n
pub record PutsWord (homes : List Home) (n : ℕ) (e : Expression) (old new : OpenBlock) : Type 0 where
  pub puts : PutsValue homes n long_int e old new
  pub works : WorksOnValue homes n e old new

-- the number of an element is put into the variable n
abbrev pub PutsNumber : List Home → ℕ → ℕ → ObjectPlace → OpenBlock → OpenBlock → Type 0
PutsNumber homes n first (ObjectPlace.Single object) old new = new ≡ old
PutsNumber homes n first (ObjectPlace.Element object length index) old new = PutsWord homes n (number_expression first (ObjectPlace.Element object length index)) old new

-- and so is the value of a call that takes one
abbrev pub PutsIfAny : List Home → ℕ → List Expression → OpenBlock → OpenBlock → Type 0
PutsIfAny homes n [] old new = new ≡ old
PutsIfAny homes n (e ∷ es) old new = PutsWord homes n e old new

-- the operands of a call
abbrev pub PreparesCall : List Home → Objects → ℕ → ThreadCall → OpenBlock → OpenBlock → Type 0
PreparesCall homes o n call old new = Prepares homes n 2 (operand_expressions o call) (operands_at n o call) old new

-- the block stays typed, with at most 4 operations for each unit of the call's weight
abbrev pub WorksOnCall : List Home → Objects → ℕ → ThreadCall → OpenBlock → OpenBlock → Type 0
WorksOnCall homes o n call old new =
    Works homes (4 * (thread_call_weight call + 1))
    (λ (S : Typing). AreObjects S.program o × IsThreadCall S.program S.function call × HasWords S.types n (operand_count call)) old new
