-- The kinds of pthread objects, and the steps of an assignment.
use Rattle.std.specs.Prelude.{ℕ, [], ℤ}
use Rattle.hls_ints.specs.Types.{IntegerType}
use Rattle.c_program.specs.declared.tree.BinaryOperator.{BinaryOperator}
use Rattle.c_program.specs.Tree.{Program}
use Rattle.thread_semantics.specs.Memory.{Memory, Evaluation, Gives, and_then}
use Rattle.thread_semantics.specs.Value.{load, binary_value}
use Rattle.thread_semantics.specs.Move.{Target, Assignment, first_thread, first_mutex, first_barrier}
use Rattle.c_state.specs.declared.place.Kind.{Kind}
use Rattle.c_state.specs.declared.place.Kind.TheVariants.{Thread, Mutex, Barrier}

-- the number of the first element of an object of a kind
abbrev pub first_of : Program → Kind → ℕ → ℕ
first_of P Thread x = first_thread P x
first_of P Mutex x = first_mutex P x
first_of P Barrier x = first_barrier P x

-- the old value of a target and then the operator
abbrev pub updated : BinaryOperator → IntegerType → ℤ → Memory → Target → Evaluation Assignment
updated operator ty right m target =
    and_then (load m target.storage target.variable target.index)
    (λ old. and_then (binary_value operator ty old right)
    (λ r. Gives (record { target = target; value = r }) []))
