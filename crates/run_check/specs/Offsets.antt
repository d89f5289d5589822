-- Where the next step of a thread stands in the text.
use Rattle.std.specs.Prelude.{ℕ, List, [], ◌∷◌, Option, Some, slice_get}
use Rattle.c_program.specs.Tree.{Statement, Program}
use Rattle.thread_semantics.specs.Work.{Work, Do, Perform}
use Rattle.thread_semantics.specs.State.{Frame, Slot, Running, State}
use Rattle.thread_semantics.specs.Move.{end_offset}

abbrev pub statement_offset : Statement → ℕ
statement_offset (Statement.Declare offset x operators) = offset
statement_offset (Statement.Assign offset place right) = offset
statement_offset (Statement.Update offset place operator ty right) = offset
statement_offset (Statement.Call offset into g arguments) = offset
statement_offset (Statement.Keep offset slot ty operand) = offset
statement_offset (Statement.Test offset operand) = offset
statement_offset (Statement.Switch offset ty operand body) = offset
statement_offset (Statement.Return offset right) = offset
statement_offset (Statement.Print offset format arguments) = offset
statement_offset (Statement.Thread offset call) = offset
statement_offset statement = 0

-- that of the statement or operand whose step is next in a call, or of the function's closing brace
abbrev pub work_offset : Program → ℕ → List Work → ℕ
work_offset P f [] = end_offset (slice_get P.functions f)
work_offset P f (Do statement ∷ k) = statement_offset statement
work_offset P f (Perform offset act ∷ k) = offset
work_offset P f (item ∷ k) = 0

abbrev pub frame_offset : Program → Frame → ℕ
frame_offset P f = work_offset P f.function f.work

abbrev pub slot_offset : Program → Option Slot → ℕ
slot_offset P (Some (Running (f ∷ fs))) = frame_offset P f
slot_offset P slot = 0

-- the byte at which the next step of thread i stands
abbrev pub step_offset : Program → State → ℕ → ℕ
step_offset P s i = slot_offset P (slice_get s.slots i)
