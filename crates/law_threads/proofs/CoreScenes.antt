-- Cores of two threads, grant by grant; and which core is asked.
use Rattle.std.specs.Prelude.{ℕ, true, false, nat_eq, if◌then◌else◌, ℤ, pos, Some, None}
use Rattle.std.proofs.Common.{◌≡◌, [], ◌∷◌, refl}
use Rattle.hls_ints.specs.Residues.{residue_of}
use Rattle.hls_ints.specs.Types.{long_int}
use Rattle.block_ir.specs.declared.code.Act.TheVariants as act
use Rattle.block_ir.specs.declared.code.ActOperand.TheVariants.{Variable}
use Rattle.block_ir.specs.Asked.{asked_with, asked, core_of}
use Rattle.block_ir.specs.declared.service.Service.TheVariants.{Mutex, Barrier, ThreadIds}
use Rattle.core_states.specs.Machines.{Free, Owned}
use Rattle.law_threads.specs.Cores.{Core, OfMutex, OfBarrier, OfThreadIds, may_grant, granted, status_in, waits_in}

-- a thread that owns a mutex gives it back while another one waits for it
abbrev locked : Core
locked = granted 2 [] (OfMutex Free) 0 (asked_with Mutex 1 (3 ∷ []))

is_owned : locked ≡ OfMutex (Owned 0)
is_owned = refl

not_yet : may_grant locked 1 (asked_with Mutex 1 (3 ∷ [])) ≡ false
not_yet = refl

unlocked : granted 2 [] locked 0 (asked_with Mutex 2 (3 ∷ [])) ≡ OfMutex Free
unlocked = refl

-- two threads meet at a barrier, and again at once: the first waits, and the second releases both
abbrev waits : ℕ → Core → Core
waits i k = granted 2 [] k i (asked_with Barrier 1 (0 ∷ []))

abbrev of_two : Core
of_two = granted 2 [] (OfBarrier (record { count = 0; waiting = 0 ∷ 0 ∷ [] })) 0 (asked_with Barrier 0 (0 ∷ 2 ∷ []))

first_waits : waits_in (waits 1 of_two) 1 ≡ true
first_waits = refl

no_more_than_once : may_grant (waits 1 of_two) 1 (asked_with Barrier 1 (0 ∷ [])) ≡ false
no_more_than_once = refl

both_go_on : waits 0 (waits 1 of_two) ≡ of_two
both_go_on = refl

both_go_on_again : waits 1 (waits 0 (waits 0 (waits 1 of_two))) ≡ of_two
both_go_on_again = refl

-- two lives of one id: created, finished, joined, and created again with another argument
abbrev create : ℕ → Core → Core
create argument k = granted 2 [] k 0 (asked_with ThreadIds 0 (1 ∷ argument ∷ []))

abbrev finish : Core → Core
finish k = granted 2 [] k 1 (asked_with ThreadIds 2 [])

abbrev join : Core → Core
join k = granted 2 [] k 0 (asked_with ThreadIds 1 (1 ∷ []))

abbrev unused : Core
unused = OfThreadIds (record { statuses = 0 ∷ 0 ∷ []; arguments = 0 ∷ 0 ∷ [] })

first_life : OfThreadIds (record { statuses = 0 ∷ 1 ∷ []; arguments = 0 ∷ 40 ∷ [] }) ≡ create 40 unused
first_life = refl

no_join_of_who_runs : may_grant (create 40 unused) 0 (asked_with ThreadIds 1 (1 ∷ [])) ≡ false
no_join_of_who_runs = refl

finished : status_in (finish (create 40 unused)) 1 ≡ 2
finished = refl

joined : status_in (join (finish (create 40 unused))) 1 ≡ 0
joined = refl

second_life : OfThreadIds (record { statuses = 0 ∷ 1 ∷ []; arguments = 0 ∷ 50 ∷ [] }) ≡ create 50 (join (finish (create 40 unused)))
second_life = refl

-- a lock of the mutex that variable 0 names: the sixth, which is core 6 behind a bank, and none where there are five
abbrev five_seven : ℕ → ℤ
five_seven x = if nat_eq x 0 then pos 5 else pos 7

sixth : asked true (act.MutexLock (Variable 0 long_int)) five_seven ≡ Some (asked_with Mutex 1 (5 ∷ []))
unfolding residue_of
sixth = refl

behind_a_bank : core_of (record { banks = 1; mutexes = 6; barriers = 0; thread_ids = true }) (asked_with Mutex 1 (5 ∷ [])) ≡ Some 6
behind_a_bank = refl

of_five_none : core_of (record { banks = 1; mutexes = 5; barriers = 0; thread_ids = true }) (asked_with Mutex 1 (5 ∷ [])) ≡ None
of_five_none = refl

-- an init of barrier 5 for 7 threads, and a create of id 5 with the argument 7: thread ids are the core behind barriers
init_of_five : asked true (act.BarrierInit (Variable 0 long_int) (Variable 1 long_int)) five_seven ≡ Some (asked_with Barrier 0 (5 ∷ 7 ∷ []))
unfolding residue_of
init_of_five = refl

create_of_five : asked true (act.Create (Variable 0 long_int) (Variable 1 long_int)) five_seven ≡ Some (asked_with ThreadIds 0 (5 ∷ 7 ∷ []))
unfolding residue_of
create_of_five = refl

behind_barriers : core_of (record { banks = 1; mutexes = 5; barriers = 2; thread_ids = true }) (asked_with ThreadIds 0 (5 ∷ 7 ∷ [])) ≡ Some 8
behind_barriers = refl

-- a return asks the thread ids of each thread but main
return_of_main : asked true act.Return five_seven ≡ None
return_of_main = refl

return_of_another : asked false act.Return five_seven ≡ Some (asked_with ThreadIds 2 [])
return_of_another = refl
