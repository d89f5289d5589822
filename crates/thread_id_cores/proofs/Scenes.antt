-- The two lives of a thread id, request by request.
use Rattle.std.proofs.Common.{◌≡◌, [], ◌∷◌, true, false, refl}
use Rattle.core_states.specs.Machines.{IdTable, ids_eligible, ids_after, ids_tell}
use Rattle.thread_id_cores.specs.Machine.{begun}

-- main creates id 1 of three, with an argument
abbrev created : IdTable
created = ids_after (begun 3) 0 0 1 7

runs : created ≡ record { statuses = 0 ∷ 1 ∷ 0 ∷ []; arguments = 0 ∷ 7 ∷ 0 ∷ [] }
runs = refl

told : ids_tell created 1 0 ≡ 1
told = refl

told_argument : ids_tell created 1 1 ≡ 7
told_argument = refl

main_never_runs : ids_tell created 0 0 ≡ 0
main_never_runs = refl

-- while it runs it can neither be created nor be joined; another one can be created
not_twice : ids_eligible created 0 1 ≡ false
not_twice = refl

not_yet : ids_eligible created 1 1 ≡ false
not_yet = refl

another : ids_eligible created 0 2 ≡ true
another = refl

-- it finishes, is joined, and is created again
abbrev finished : IdTable
finished = ids_after created 1 2 0 0

ends : finished ≡ record { statuses = 0 ∷ 2 ∷ 0 ∷ []; arguments = 0 ∷ 7 ∷ 0 ∷ [] }
ends = refl

rests : ids_tell finished 1 0 ≡ 0
rests = refl

may_join : ids_eligible finished 1 1 ≡ true
may_join = refl

abbrev joined : IdTable
joined = ids_after finished 0 1 1 0

unused : joined ≡ record { statuses = 0 ∷ 0 ∷ 0 ∷ []; arguments = 0 ∷ 7 ∷ 0 ∷ [] }
unused = refl

-- an unused id cannot be joined
not_joined_twice : ids_eligible joined 1 1 ≡ false
not_joined_twice = refl

lives_again : ids_after joined 0 0 1 9 ≡ record { statuses = 0 ∷ 1 ∷ 0 ∷ []; arguments = 0 ∷ 9 ∷ 0 ∷ [] }
lives_again = refl
