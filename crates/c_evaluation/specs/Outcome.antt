-- What a part of a step comes to, as the code answers it: a value or the first cause, without the reads.
use Rattle.std.specs.Prelude.{ℕ, List, ◌++◌, map, ℤ, Option, Vec, Result, Ok, Err}
use Rattle.std.specs.declared.alloc.Global.{Global}
use Rattle.thread_semantics.specs.declared.cause.UndefinedCause.{UndefinedCause}
use Rattle.c_program.specs.declared.tree.Storage.{Storage}
use Rattle.thread_semantics.specs.Memory.{Memory, Evaluation, Gives, Fails, and_then}
use Rattle.thread_semantics.specs.Value.{load, checked_index}

abbrev pub outcome : {A : Type 0} → Evaluation A → Result A UndefinedCause
outcome (Gives value reads) = Ok value
outcome (Fails cause) = Err cause

-- the lists in vectors
abbrev pub rows_of : {A : Type 0} → List (Vec A Global) → List (List A)
rows_of rows = map (λ row. row.items) rows

-- the memory that a thread's step sees
abbrev pub memory_of : List (Vec (Option ℤ) Global) → List (Vec ℤ Global) → Memory
memory_of locals globals = record { locals = rows_of locals; globals = rows_of globals }

-- the list in a vector, or the cause why there is none
abbrev pub list_result : Result (Vec ℤ Global) UndefinedCause → Result (List ℤ) UndefinedCause
list_result (Ok list) = Ok list.items
list_result (Err cause) = Err cause

-- values that stand before others
abbrev pub after_values : List ℤ → Result (List ℤ) UndefinedCause → Result (List ℤ) UndefinedCause
after_values before (Ok list) = Ok (before ++ list)
after_values before (Err cause) = Err cause

-- an element of an array, whose index is evaluated
abbrev pub element_at : Memory → Storage → ℕ → ℕ → ℤ → Evaluation ℤ
element_at m storage variable length index =
    and_then (checked_index length index) (λ j. load m storage variable j)
