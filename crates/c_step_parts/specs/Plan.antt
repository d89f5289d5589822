-- What the code's plan of a step stands for.
use Rattle.std.specs.Prelude.{ℕ, List, [], ◌∷◌, ℤ, Option, None}
use Rattle.c_program.specs.Tree.{Expression, Statement, Program}
use Rattle.thread_semantics.specs.Memory.{Memory}
use Rattle.thread_semantics.specs.Work.{Work}
use Rattle.thread_semantics.specs.State.{Frame}
use Rattle.thread_semantics.specs.Move.{Move, Moves, Acts, Ends, Faults, Impossible, returned, statement_move}
use Rattle.c_evaluation.specs.View.{act_of, work_of}
use Rattle.c_state.specs.declared.memory.Change.{Change}
use Rattle.c_step_parts.specs.declared.plan.Plan.{Plan as PlanCode}
use Rattle.c_step_parts.specs.declared.plan.Plan.TheVariants as plan
use Rattle.c_state.specs.Change.{changed_locals, change_write}
use Rattle.c_state.specs.View.{frame_of}

abbrev pub Integers : Type 0
Integers = List ℤ

-- the locals of a call
abbrev pub Locals : Type 0
Locals = List (List (Option ℤ))

-- the outer calls of a thread
abbrev pub Callers : Type 0
Callers = List Frame

-- a move without what it reads
abbrev pub erased : Move → Move
erased (Moves frames reads write) = Moves frames [] write
erased (Acts offset act operands frames) = Acts offset act operands frames
erased (Ends offset reads) = Ends offset []
erased (Faults offset cause) = Faults offset cause
erased Impossible = Impossible

-- a call that goes on with this work and these values, after a change of its locals
abbrev pub gone_on : Change → List Work → List ℤ → Frame → Frame
gone_on change work kept f = record f { locals = changed_locals change f.locals; work = work; kept = kept }

abbrev pub going : Change → List Work → List ℤ → Frame → List Frame → Move
going change work kept f fs = Moves (gone_on change work kept f ∷ fs) [] (change_write change)

-- a call that waits with this work
abbrev pub waiting : List Work → Frame → Frame
waiting work f = record f { work = work; kept = [] }

abbrev pub plan_of : Program → PlanCode → Frame → List Frame → Move
plan_of P (plan.Onward work kept change) f fs = going change (work_of work.items) kept.items f fs
plan_of P (plan.Enter work callee) f fs = Moves (frame_of callee ∷ waiting (work_of work.items) f ∷ fs) [] None
plan_of P (plan.Return offset value) f fs = erased (returned P offset value [] f fs)
plan_of P (plan.Perform offset act work) f fs = Acts offset (act_of act) f.kept (waiting (work_of work.items) f ∷ fs)
plan_of P (plan.Fault offset cause) f fs = Faults offset cause
plan_of P plan.Impossible f fs = Impossible

-- the move of a return, by what it needs of it
abbrev pub return_move : Program → ℕ → Option Expression → Memory → Frame → List Frame → List Work → Move
return_move P offset right m f fs k = statement_move P m f fs k (Statement.Return offset right)
