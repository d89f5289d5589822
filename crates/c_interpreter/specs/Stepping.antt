-- What the code's answers of steps stand for.
use Rattle.std.specs.Prelude.{◌≡◌, ℕ, List, [], ◌∷◌, ℤ, Option, Some, None, Result, Ok, Err, slice_get, slice_set}
use Rattle.c_program.specs.Tree.{Program}
use Rattle.thread_semantics.specs.Work.{Work, Take}
use Rattle.thread_semantics.specs.State.{Frame, Running, State}
use Rattle.thread_semantics.specs.Move.{Write, keep_in, returned_value, return_type, resumed}
use Rattle.thread_semantics.specs.Step.{Stepped, Steps, Blocks, Undefines, written_to}
use Rattle.c_evaluation.specs.View.{work_of}
use Rattle.c_interpreter.specs.declared.step.Stepped.{Stepped as Answer}
use Rattle.c_interpreter.specs.declared.step.Stepped.TheVariants as answer
use Rattle.c_interpreter.specs.declared.step.Rest.{Rest}

-- an answer, where the state is then s
abbrev pub stepped_of : Answer → State → Stepped
stepped_of answer.Stepped s = Steps s
stepped_of (answer.Blocked cause) s = Blocks cause
stepped_of (answer.Undefined offset cause) s = Undefines offset cause

-- a step that isn't taken leaves the state as it is
abbrev pub StaysUnlessStepped : Answer → State → State → Type 0
StaysUnlessStepped answer.Stepped old new = Unit {0}
StaysUnlessStepped answer old new = new ≡ old

abbrev pub IsKept : {E : Type 0} → Result Answer E → State → State → Type 0
IsKept (Ok answer) old new = StaysUnlessStepped answer old new
IsKept (Err e) old new = new ≡ old

-- a call that goes on with this work, once the value is kept
abbrev pub rest_frame : Rest → Frame → Frame
rest_frame rest f = record f { locals = keep_in rest.into rest.value f.locals; work = work_of rest.work.items; kept = [] }

-- the local that keeps the value of a call that is waited for, if one does, and the work behind that
abbrev pub taken_into : List Work → Option ℕ
taken_into (Take into ∷ k) = into
taken_into k = None

abbrev pub after_taking : List Work → List Work
after_taking (Take into ∷ k) = k
after_taking k = k

-- how the first caller, where there is one, goes on after a return of the call f with this value
abbrev pub Resumes : Program → Option ℤ → Frame → List Frame → Option Rest → Type 0
Resumes P value f [] None = Unit {0}
Resumes P value f [] (Some rest) = ⊥
Resumes P value f (g ∷ gs) None = ⊥
Resumes P value f (g ∷ gs) (Some rest) =
    rest_frame rest g ≡ resumed (returned_value (return_type (slice_get P.functions f.function)) value) g.work g

-- the state in which thread i has these calls, after a write
abbrev pub with_frames : State → ℕ → Option Write → List Frame → State
with_frames s i write frames =
    record s { globals = written_to s.globals write; slots = slice_set s.slots i (Running frames) }
