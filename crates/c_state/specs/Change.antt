-- What the code's changes of memory stand for.
use Rattle.std.specs.Prelude.{List, ℤ, Option, Some, None, Result, Ok, Err}
use Rattle.hls_ints.specs.Types.{long_int, wrapped}
use Rattle.c_program.specs.declared.tree.Storage.{Storage}
use Rattle.c_program.specs.declared.tree.Storage.TheVariants.{Automatic, Static}
use Rattle.thread_semantics.specs.Memory.{with_element}
use Rattle.thread_semantics.specs.Move.{Target, Assignment, Write, without_values, keep_in}
use Rattle.c_state.specs.declared.place.Target.{Target as TargetCode}
use Rattle.c_state.specs.declared.place.Assignment.{Assignment as AssignmentCode}
use Rattle.c_state.specs.declared.memory.Change.{Change}
use Rattle.c_state.specs.declared.memory.Change.TheVariants.{Nothing, Stored, Blanked, Kept}

-- what a value in a result stands for
abbrev pub ok_of : {A B E : Type 0} → (A → B) → Result A E → Result B E
ok_of f (Ok v) = Ok (f v)
ok_of f (Err e) = Err e

abbrev pub target_view : TargetCode → Target
target_view t = record { storage = t.storage; variable = t.variable; index = t.index; ty = t.ty }

abbrev pub assignment_view : AssignmentCode → Assignment
assignment_view a = record { target = target_view a.target; value = a.value }

-- a value that is kept, if there is one
abbrev pub kept_long : Option ℤ → Option ℤ
kept_long None = None
kept_long (Some v) = Some (wrapped long_int v)

abbrev pub stored_locals : Storage → Assignment → List (List (Option ℤ)) → List (List (Option ℤ))
stored_locals Automatic a locals =
    with_element locals a.target.variable a.target.index (Some (wrapped a.target.ty a.value))
stored_locals Static a locals = locals

abbrev pub changed_locals : Change → List (List (Option ℤ)) → List (List (Option ℤ))
changed_locals Nothing locals = locals
changed_locals (Stored a) locals = stored_locals a.target.storage (assignment_view a) locals
changed_locals (Blanked x) locals = without_values locals x
changed_locals (Kept slot v) locals = keep_in (Some slot) (Some v) locals

abbrev pub stored_write : Storage → Assignment → Option Write
stored_write Automatic a = None
stored_write Static a =
    Some (record {
      place = record { variable = a.target.variable; index = a.target.index };
      value = wrapped a.target.ty a.value;
    })

abbrev pub change_write : Change → Option Write
change_write Nothing = None
change_write (Stored a) = stored_write a.target.storage (assignment_view a)
change_write (Blanked x) = None
change_write (Kept slot v) = None
